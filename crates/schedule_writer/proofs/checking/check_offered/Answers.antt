use Rattle.std.proofs.Common.{◌≡◌, ◌++◌, ℕ, List, Vec, OnOk, sym, ap, subst, ◌∙◌}
use Rattle.std.specs.declared.alloc.Global.{Global}
use Rattle.metering_model.specs.Batch.{Batch}
use Rattle.fault_lines.specs.Ahead.{AreLatest, ahead_of_all}
use Rattle.fault_lines.proofs.KeysOnLine.{still}
use Rattle.schedule_writer.specs.Checks.{if_journaled}
use Rattle.schedule_writer.specs.Refusals.{answer_to}
use Rattle.schedule_writer.specs.Inner.Counted.{with_journaled}
use Rattle.schedule_writer.specs.Inner.Plans.{offered_of}
use Rattle.schedule_writer.specs.Inner.Walks.{IsThere}
use Rattle.schedule_writer.proofs.CheckLaws.{on_any, on_error, on_same}
use Rattle.schedule_writer.proofs.CountedLaws.{ahead_of_none, handed_in_there, journal_there, none_counted}
use Rattle.schedule_writer.proofs.checking.check_offered.Goals.{in-Ok-true, in-Ok-false, in-Err}
use Rattle.schedule_writer.proofs.checking.check_offered.Goals as goal

pub read_offer-requires : goal.read_offer-requires
read_offer-requires c = subst (λ t. IsThere t (offered_of c.args.offered.now)) c.requires.text c.requires.there

pub journal_offered-requires-clause-event : goal.journal_offered-requires-clause-event
journal_offered-requires-clause-event c = journal_there (offered_of c.args.offered.now).text c.in-Ok.offer c.in-Ok.ensures

pub returns : goal.returns
returns c =
    let input = c.args.input.now in
    let w = c.args.world.now in
    let b = offered_of c.args.offered.now in
    let joined = c.match-journal_offered in
    elim joined.branch [
      | in-Ok-true v ↦
          let put = v.put_ahead_of-checked in
          let journaled = v.in-Ok-true.ensures.journaled v.in-Ok-true.field-0-test in
          let same = handed_in_there input w b c.args.above _ (journal_there b.text c.in-Ok.offer c.in-Ok.ensures) c.requires.place.above journaled in
          record {
            told = on_any joined.checked v.in-Ok-true.ensures.told;
            ahead = λ before latest.
                on_same joined.checked put.result joined.warned put.new.warned
                (λ (t : Vec ℕ Global). t.items ≡ c.args.warned.now.items ++ ahead_of_all before (if_journaled input b (answer_to w b.text))) v.checked-is v.warned-is
                (subst (λ (xs : List (ℕ × Batch)). OnOk put.result (put.new.warned.items ≡ c.args.warned.now.items ++ ahead_of_all before xs)) same
                (put.ensures.said before latest));
            latest = λ before latest.
                on_same joined.checked put.result joined.latest put.new.latest
                (λ l. AreLatest l (with_journaled (if_journaled input b (answer_to w b.text)) before)) v.checked-is v.latest-is
                (subst (λ (xs : List (ℕ × Batch)). OnOk put.result (AreLatest put.new.latest (with_journaled xs before))) same (put.ensures.latest before latest));
            world = on_any joined.checked v.in-Ok-true.ensures.world;
          }
      | in-Ok-false v ↦
          let none = none_counted input w b (v.in-Ok-false.ensures.refused v.in-Ok-false.field-0-test) in
          record {
            told = on_any joined.checked v.in-Ok-false.ensures.told;
            ahead = λ before latest.
                on_any joined.checked
                (ap (λ (t : Vec ℕ Global). t.items) v.warned-is ∙ still c.args.warned.now.items _ (ap (ahead_of_all before) none ∙ ahead_of_none before));
            latest = λ before latest.
                on_any joined.checked
                (subst (λ l. AreLatest l (with_journaled (if_journaled input b (answer_to w b.text)) before)) (sym v.latest-is)
                (subst (λ (xs : List (ℕ × Batch)). AreLatest c.args.latest.now (with_journaled xs before)) (sym none) latest));
            world = on_any joined.checked v.in-Ok-false.ensures.world;
          }
      | in-Err v ↦ record {
        told = on_error _ joined.checked _ v.checked-is;
        ahead = λ before latest. on_error _ joined.checked _ v.checked-is;
        latest = λ before latest. on_error _ joined.checked _ v.checked-is;
        world = on_error _ joined.checked _ v.checked-is;
      }
    ]
