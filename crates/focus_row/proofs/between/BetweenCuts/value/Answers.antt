use Rattle.std.proofs.Common.{◌≡◌, sym, subst, pos, rules}
use Rattle.std.specs.Prelude.{◌≤ℤ◌}
use Rattle.metering_model.specs.ValueAtSequence.{value_at}
use Rattle.journal_rules.specs.Stores.{position_of}
use Rattle.focus_row.specs.Inner.Left.{MayBeCharged}
use Rattle.focus_row.proofs.StopLaws.{not_negative_at}
use Rattle.focus_row.proofs.between.BetweenCuts.value.Goals as goal

pub returns-clause-value : goal.returns-clause-value
returns-clause-value c = search rules

pub returns-clause-not_negative : goal.returns-clause-not_negative
returns-clause-not_negative c r found priced =
    let s = c.args.self.now in
    let may : MayBeCharged s = subst MayBeCharged c.self.view_is c.self.invariant.0 in
    let is : c.unwrap.result ≡ value_at s.batches (position_of c.args.place) c.args.upto = search rules in
    subst (λ v. pos 0 ≤ℤ v) (sym is) (not_negative_at s may (position_of c.args.place) r c.args.upto found priced c.requires.place.within c.requires.upto)
