use Rattle.std.proofs.Common.{◌≡◌, ◌<◌, ◌≤◌, ◌↔◌, length, Some, IsSome, IfSome, sym, ap, subst, ◌∙◌, inl, inr}
use Rattle.std.specs.List.{slice_get}
use Rattle.std.specs.Option.{option_map}
use Rattle.std.proofs.lemmas.Bool.{cases_lt, false≢true}
use Rattle.std.proofs.lemmas.Option.{slice_get_past}
use Rattle.record_view.specs.Lent.{record_of}
use Rattle.batch_view.specs.Batches.{batch_of}
use Rattle.batch_view.specs.Asked.{asked_in}
use Rattle.batch_view.proofs.asked.kept_asked.Goals as goal

pub returns-in-Some : goal.returns-in-Some
returns-in-Some c =
    let records = (batch_of c.args.bytes.now).records in
    let got = subst (λ o. IfSome o (λ r. slice_get records c.args.index ≡ Some (record_of r))) c.in-Some.is c.kept_record.ensures.record in
    ap Some c.asked_of_record.ensures ∙ ap (option_map asked_in) (sym got)

pub returns-in-None : goal.returns-in-None
returns-in-None c =
    let records = (batch_of c.args.bytes.now).records in
    let there = subst (λ o. IsSome o ↔ (c.args.index < length records)) c.in-None.is c.kept_record.ensures.there in
    let past : length records ≤ c.args.index = elim (cases_lt c.args.index (length records)) [
      | inl within ↦ absurd (false≢true (there.1 within))
      | inr past ↦ past
    ] in
    ap (option_map asked_in) (sym (slice_get_past records c.args.index past))
