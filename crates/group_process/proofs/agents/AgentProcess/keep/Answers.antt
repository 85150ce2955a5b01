use Rattle.std.proofs.Common.{◌≡◌, ◌≤◌, true, refl, ap, subst, sym, ◌∙◌, Ok}
use Rattle.std.specs.Arc.{arc_value}
use Rattle.metering_model.specs.BatchReading.{batch_in}
use Rattle.metering_model.specs.Holding.{Holding, put}
use Rattle.metering_model.specs.KeptText.{KeptAmong}
use Rattle.metering_model.specs.World.{Kept}
use Rattle.metering_model.proofs.BatchLaws.{IsWellFormed-read}
use Rattle.journal_rules.specs.Stores.{Stored}
use Rattle.process_laws.specs.LocalSteps.{journal_refusal}
use Rattle.group_events.specs.Batches.{batch_of}
use Rattle.group_process.specs.Journals.{is_journal_of}
use Rattle.group_process.specs.Selves.{AgentSelf}
use Rattle.group_process.proofs.JournalLaws.{adds_batch, is_journal_with, journaled_is_next}
use Rattle.group_process.proofs.agents.AgentProcess.keep.Goals as goal

pub returns-in_default : goal.returns-in_default
returns-in_default c = record { journal = tt; given = tt; adds = tt; kept = refl }

pub returns-in_default-try_clone : goal.returns-in_default-try_clone
returns-in_default-try_clone c = record { journal = tt; given = tt; adds = tt; kept = refl }

pub returns-in_default-put : goal.returns-in_default-put
returns-in_default-put c =
    let with : Holding → AgentSelf = λ h. record { group = c.self.inside.group; number = c.self.inside.number; journal = h } in
    let stays = ap (λ (s : Stored). s.batches) c.in_default-put.ensures.kept ∙ ap (λ (k : KeptAmong). k.kept.holding) c.kept.view_is in
    record { journal = tt; given = tt; adds = tt; kept = ap with stays ∙ c.self.view_is }

pub invariant_of-self-2 : goal.invariant_of-self-2
invariant_of-self-2 c =
    let number = c.self.inside.number in
    let b = batch_of (arc_value c.args.batch.now) in
    let here = ap (λ (k : KeptAmong). k.kept.holding) c.kept.view_is in
    let batches = ap (λ (s : Stored). s.batches) c.in-Ok-put.ensures.batches ∙ ap (λ t. put c.kept.inside.store.batches (batch_of t)) c.in-Ok-try_clone.ensures in
    let may = subst (λ (a : AgentSelf). journal_refusal a.group a.number a.journal b ≡ Ok tt) (sym c.self.view_is) c.requires in
    let next = journaled_is_next c.self.inside.group number c.self.inside.kept.kept.holding b may in
    let is = is_journal_with number c.self.inside.kept.kept.holding b c.self.invariant.2 next.0 next.1 in (
      ap (λ (s : Stored). s.agents) c.in-Ok-put.ensures.batches ∙ (ap (λ (k : KeptAmong). k.agents) c.kept.view_is ∙ c.self.invariant.0),
      ap (λ (k : Kept). record k { holding = c.put.new.self.batches }) (ap (λ (k : KeptAmong). k.kept) c.kept.view_is ∙ c.self.invariant.1),
      subst (λ h. is_journal_of number h ≡ true) (sym (batches ∙ ap (λ h. put h b) here)) is,
      record { number = c.self.invariant.3.number },
    )

pub returns : goal.returns
returns c =
    let b = batch_of (arc_value c.args.batch.now) in
    let read = subst (λ t. batch_in t ≡ Ok (batch_of t)) c.deref.ensures c.bytes.ensures.batch in
    let here = ap (λ (k : KeptAmong). k.kept.holding) c.kept.view_is in
    let batches = ap (λ (s : Stored). s.batches) c.in-Ok-put.ensures.batches ∙ ap (λ t. put c.kept.inside.store.batches (batch_of t)) c.in-Ok-try_clone.ensures in
    let with : Holding → AgentSelf = λ h. record { group = c.self.inside.group; number = c.self.inside.number; journal = h } in
    let after : AgentSelf → AgentSelf = λ a. record { group = a.group; number = a.number; journal = put a.journal b } in
    let same = ap with (batches ∙ ap (λ h. put h b) here) ∙ ap after c.self.view_is in
    record {
      journal = same;
      given = c.in-Ok.ensures;
      adds = adds_batch c.args.self.now _ b (IsWellFormed-read (arc_value c.args.batch.now) b read)
          (subst (λ (a : AgentSelf). is_journal_of a.number a.journal ≡ true) c.self.view_is c.self.invariant.2)
          (subst (λ (a : AgentSelf). a.number ≤ a.group.agents) c.self.view_is c.self.invariant.3.number.1)
          c.requires same;
      kept = tt;
    }
