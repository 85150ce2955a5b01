use Rattle.batch_store.specs.Batches.{batch_of}
use Rattle.journal_rules.proofs.OneMore.{put_there}
use Rattle.journal_rules.proofs.rules.first_bad.Goals as goal

pub invariant_of-first_bad : goal.invariant_of-first_bad
invariant_of-first_bad c =
    (c.requires.agent, put_there c.args.store.now.batches (batch_of c.args.batch.now) c.agents-agents.ensures.stored.is_holding c.requires.new)
