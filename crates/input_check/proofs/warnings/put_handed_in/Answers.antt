use Rattle.std.proofs.Common.{◌≡◌, [], ◌∷◌, ◌++◌, ℕ, List, OnOk, ap, sym, subst, ◌∙◌, rules}
use Rattle.batch_view.specs.Batches.{batch_of}
use Rattle.group_events.specs.Events.{event_of}
use Rattle.fault_lines.specs.Ahead.{AreLatest, ahead_of_all}
use Rattle.input_check.specs.Inner.Counted.{handed_in, with_counted}
use Rattle.input_check.proofs.CountedBatches.{ahead_of_none, ahead_of_one, no_batch_handed_in}
use Rattle.fault_lines.proofs.KeysOnLine.{still}
use Rattle.input_check.proofs.warnings.put_handed_in.Goals as goal

pub returns-in-Good-clause-said : goal.returns-in-Good-clause-said
returns-in-Good-clause-said c = λ journaled latest.
    let counted : handed_in c.args.line (event_of c.args.event.now) ≡ (c.args.line, batch_of c.view.result) ∷ [] = search rules in
    subst (λ (t : List ℕ). OnOk c.put_ahead.result (c.put_ahead.new.told.items ≡ c.args.warned.now.items ++ t))
    (sym (ap (ahead_of_all journaled) counted ∙ ahead_of_one journaled c.args.line (batch_of c.view.result))) (c.put_ahead.ensures.said journaled latest)

pub returns-in-Bad-clause-said : goal.returns-in-Bad-clause-said
returns-in-Bad-clause-said c = λ journaled latest.
    let none : handed_in c.args.line (event_of c.args.event.now) ≡ [] = search rules in
    still c.args.warned.now.items _ (ap (ahead_of_all journaled) none ∙ ahead_of_none journaled)

pub returns-in_default : goal.returns-in_default
returns-in_default c =
    let none = no_batch_handed_in c.args.line c.args.event.now c.in_default.not-Journal in
    record {
      said = λ journaled latest. still c.args.warned.now.items _ (ap (ahead_of_all journaled) none ∙ ahead_of_none journaled);
      latest = λ journaled latest. subst (λ xs. AreLatest c.args.latest.now (with_counted xs journaled)) (sym none) latest;
    }
