use Rattle.std.proofs.Common.{◌≡◌, true, sym, subst, inl, inr}
use Rattle.std.specs.Option.{is_some}
use Rattle.metering_model.specs.Holding.{held}
use Rattle.metering_model.proofs.MissingLaws.{held-up_to_where, nothing_missing, missing_is_named}
use Rattle.metering_model.proofs.PartLaws.{agree_where_none_missing}
use Rattle.metering_model.proofs.laws.what_is_missing_up_to_a_cut_is_the_least_absent.Goals as goal

pub returns-clause-nothing : goal.returns-clause-nothing
returns-clause-nothing c = λ h cut. (held-up_to_where h cut, nothing_missing h cut)

pub returns-clause-absent : goal.returns-clause-absent
returns-clause-absent c = λ h cut agent seq e. let named = missing_is_named h cut agent seq e in (named.positive, named.within, named.absent)

pub returns-clause-least : goal.returns-clause-least
returns-clause-least c = λ h cut agent seq e a s before some within.
    let named = missing_is_named h cut agent seq e in
    elim before [
      | inl earlier ↦ named.of_earlier a s earlier some within
      | inr same ↦ subst (λ x. is_some (held h x s) ≡ true) (sym same.0) (named.of_agent s some same.1)
    ]

pub returns-clause-agree : goal.returns-clause-agree
returns-clause-agree c = agree_where_none_missing
