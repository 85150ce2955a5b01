use Rattle.std.proofs.Common.{◌≡◌, Some, refl, subst, sym, Ok, Err}
use Rattle.std.specs.Arc.{arc_value}
use Rattle.metering_model.specs.BatchReading.{batch_in}
use Rattle.process_laws.specs.LocalSteps.{journal_refusal}
use Rattle.group_events.specs.Batches.{batch_of}
use Rattle.log_text.specs.LogText.{Takes}
use Rattle.group_process.specs.Added.{AddsJust}
use Rattle.group_process.specs.Selves.{kept_of_agent}
use Rattle.group_process.proofs.JournalLaws.{journaled_told, refused_told}
use Rattle.group_process.proofs.agents.AgentProcess.journal.Goals as goal

pub returns-in-Some-clause-does : goal.returns-in-Some-clause-does
returns-in-Some-clause-does c =
    let a = c.args.self.now in
    let text = arc_value c.in-Good.batch in
    let read = subst (λ t. batch_in t ≡ Ok (batch_of t)) c.deref.ensures c.bytes.ensures.batch in
    let refused = subst (λ t. journal_refusal a.group a.number a.journal (batch_of t) ≡ Err c.in-Some.refusal) c.deref-2.ensures c.in-Some.ensures in
    rw c.in-Good.is (record { does = refused_told a.group a.number a.journal text (batch_of text) read _ refused; group = refl; number = refl })

pub keep-requires : goal.keep-requires
keep-requires c =
    let a = c.args.self.now in
    subst (λ t. journal_refusal a.group a.number a.journal (batch_of t) ≡ Ok tt) c.deref-2.ensures c.in_default.ensures

pub returns-in-Ok : goal.returns-in-Ok
returns-in-Ok c =
    let a = c.args.self.now in
    let text = arc_value c.in-Good.batch in
    let read = subst (λ t. batch_in t ≡ Ok (batch_of t)) c.deref.ensures c.bytes.ensures.batch in
    let may = subst (λ t. journal_refusal a.group a.number a.journal (batch_of t) ≡ Ok tt) c.deref-2.ensures c.in_default.ensures in
    let done = c.in-Ok.ensures in
    record {
      does = rw (c.in-Good.is, done.journal, done.given) (record { does = journaled_told a.group a.number a.journal text (batch_of text) read may; group = refl; number = refl });
      adds = subst (λ t. AddsJust (kept_of_agent a) (kept_of_agent c.keep.new.self) (Some (Takes (batch_of t)))) (sym done.given) done.adds;
      kept = tt;
    }

pub returns-in-Err : goal.returns-in-Err
returns-in-Err c = record { does = tt; adds = tt; kept = c.in-Err.ensures.kept }
