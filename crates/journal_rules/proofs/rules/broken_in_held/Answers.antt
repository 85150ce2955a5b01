use Rattle.std.proofs.Common.{◌≡◌, Some, sym, ap, subst, ◌∙◌, arith}
use Rattle.std.proofs.lemmas.Option.{same_Some}
use Rattle.metering_model.specs.Holding.{held, placed}
use Rattle.metering_model.specs.JournalRules.{first_broken}
use Rattle.metering_model.proofs.HoldingLaws.{put_held}
use Rattle.batch_store.specs.Batches.{batch_of}
use Rattle.journal_rules.proofs.OneMore.{own_place}
use Rattle.journal_rules.proofs.rules.broken_in_held.Goals as goal

pub invariant_of-first_broken : goal.invariant_of-first_broken
invariant_of-first_broken c =
    let h = c.args.store.now.batches in
    let b = batch_of c.batch_at-batch.result in
    let at = c.batch_at-batch.ensures in
    let found = own_place h b c.args.agent c.args.seq at.held at.agent at.seq in
    let same = put_held h b b c.agents-agents.ensures.stored.is_holding found in
    (omega (arith, at.agent), subst (λ k. held k b.agent b.seq ≡ Some b) (sym same) found)

pub returns : goal.returns
returns c d is =
    let h = c.args.store.now.batches in
    let b = batch_of c.batch_at-batch.result in
    let at = c.batch_at-batch.ensures in
    let found = own_place h b c.args.agent c.args.seq at.held at.agent at.seq in
    let same = put_held h b b c.agents-agents.ensures.stored.is_holding found in
    c.first_broken.ensures
    ∙ (ap (λ k. first_broken c.args.sheet.now k (placed b)) same
    ∙ ap (λ e. first_broken c.args.sheet.now h (placed e)) (same_Some b d (sym at.held ∙ is)))
