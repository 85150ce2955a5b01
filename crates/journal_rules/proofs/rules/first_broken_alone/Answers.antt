use Rattle.std.proofs.Common.{arith}
use Rattle.batch_store.specs.Batches.{batch_of}
use Rattle.journal_rules.proofs.OneMore.{alone_there}
use Rattle.journal_rules.proofs.rules.first_broken_alone.Goals as goal

pub invariant_of-first_broken : goal.invariant_of-first_broken
invariant_of-first_broken c = (omega (arith, c.agent-agent.ensures.value, c.agent-agent.ensures.range.1), alone_there (batch_of c.args.batch.now))
