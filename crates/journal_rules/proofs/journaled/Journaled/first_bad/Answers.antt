use Rattle.std.proofs.Common.{◌≡◌, ℕ, map, drop, sym, ap, ◌∙◌}
use Rattle.metering_model.specs.JournalRules.{first_broken}
use Rattle.batch_store.specs.Asked.{asked_in, asked_left}
use Rattle.batch_store.specs.Batches.{batch_of}
use Rattle.journal_rules.specs.FirstBad.{first_bad}
use Rattle.journal_rules.specs.Inner.Left.{placed_from}
use Rattle.journal_rules.proofs.AskedLaws.{same_broken, same_bad}
use Rattle.journal_rules.proofs.journaled.Journaled.first_bad.Goals as goal

pub loop-asked-init : goal.loop-asked-init
loop-asked-init c =
    let w = c.args.self.now in
    let walk = c.into_iter-asked-iterator.result in
    let at = c.into_iter-asked-iterator.ensures.into_iter_gives ∙ c.asked-asked-items.ensures in
    let index : walk.index ≡ 0 = ap (λ t. t.index) at in
    let batch : batch_of walk.bytes ≡ w.batch = ap (λ t. batch_of t.bytes) at ∙ ap (λ v. v.batch) c.self.view_is in
    let all : map asked_in w.batch.records ≡ asked_left walk =
    sym (ap (λ (n : ℕ). map asked_in (drop n (batch_of walk.bytes).records)) index ∙ ap (λ b. map asked_in b.records) batch) in
    record {
      can_next = tt;
      is_finite = tt;
      batch = batch;
      index = index;
      rest =
          same_broken c.args.sheet.now w.batches w.batch.agent w.batch.seq 0 w.batch.records
          ∙ ap (λ rs. first_broken c.args.sheet.now w.batches (placed_from w.batch.agent w.batch.seq 0 rs)) all;
      place =
          same_bad c.args.sheet.now w.batches w.batch.agent w.batch.seq 0 w.batch.records
          ∙ ap (λ rs. first_bad c.args.sheet.now w.batches (placed_from w.batch.agent w.batch.seq 0 rs)) all;
    }
