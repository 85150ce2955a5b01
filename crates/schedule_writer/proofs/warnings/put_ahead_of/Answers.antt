use Rattle.std.proofs.Common.{◌≡◌, [], ◌∷◌, ◌++◌, ℕ, List, OnOk, ap, sym, subst, ◌∙◌, rules}
use Rattle.batch_view.specs.Batches.{batch_of}
use Rattle.group_events.specs.Events.{event_of}
use Rattle.fault_lines.specs.Ahead.{AreLatest, ahead_of_all}
use Rattle.fault_lines.proofs.KeysOnLine.{still}
use Rattle.schedule_writer.specs.Inner.Counted.{handed_in, with_journaled}
use Rattle.schedule_writer.proofs.CountedLaws.{ahead_of_none, ahead_of_one, no_batch_handed_in}
use Rattle.schedule_writer.proofs.warnings.put_ahead_of.Goals as goal

pub returns-in-Good-clause-said : goal.returns-in-Good-clause-said
returns-in-Good-clause-said c = λ before latest.
    let counted : handed_in c.args.lines (event_of c.args.event.now) ≡ (c.args.lines, batch_of c.view.result) ∷ [] = search rules in
    subst (λ (t : List ℕ). OnOk c.put_ahead.result (c.put_ahead.new.told.items ≡ c.args.warned.now.items ++ t))
    (sym (ap (ahead_of_all before) counted ∙ ahead_of_one before c.args.lines (batch_of c.view.result))) (c.put_ahead.ensures.said before latest)

pub returns-in-Bad-clause-said : goal.returns-in-Bad-clause-said
returns-in-Bad-clause-said c = λ before latest.
    let none : handed_in c.args.lines (event_of c.args.event.now) ≡ [] = search rules in
    still c.args.warned.now.items _ (ap (ahead_of_all before) none ∙ ahead_of_none before)

pub returns-in_default : goal.returns-in_default
returns-in_default c =
    let none = no_batch_handed_in c.args.lines c.args.event.now c.in_default.not-Journal in
    record {
      said = λ before latest. still c.args.warned.now.items _ (ap (ahead_of_all before) none ∙ ahead_of_none before);
      latest = λ before latest. subst (λ xs. AreLatest c.args.latest.now (with_journaled xs before)) (sym none) latest;
    }
