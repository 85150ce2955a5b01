use Rattle.std.proofs.Common.{◌∙◌, arith}
use Rattle.group_process.proofs.JournalLaws.{journal_goes_on}
use Rattle.group_process.proofs.agents.is_journal_of.Goals as goal

pub loop-next-preserved : goal.loop-next-preserved
loop-next-preserved c = (
  c.loop-next.invariant.0 ∙ journal_goes_on c.args.agent c.loop-next.next _ _ _ c.in-Some.ensures.steps c.if-not-is_batch_at.ensures.value,
  omega (arith, c.is_batch_at.ensures.most c.if-not-is_batch_at.false),
)
