use Rattle.std.proofs.Common.{◌<◌, length, ◌≤◌, arith}
use Rattle.metering_model.specs.Cut.{last_of}
use Rattle.batch_store.proofs.LeastAbsent.{has_all-before_first, has_all-one_more, first_missing_is, first_missing_is_none}
use Rattle.batch_store.proofs.stores.Store.first_missing.Goals as goal

pub loop-agent-init : goal.loop-agent-init
loop-agent-init c = has_all-before_first c.args.self.now.batches c.args.cut.now

pub loop-agent-preserved : goal.loop-agent-preserved
loop-agent-preserved c =
    let beyond : last_of c.args.cut.now c.loop-agent.agent < c.first_absent-absent.result = omega arith in
    has_all-one_more c.args.self.now.batches c.args.cut.now c.loop-agent.agent c.first_absent-absent.result c.loop-agent.invariant c.first_absent-absent.ensures.below beyond

pub returns-then-absent-get : goal.returns-then-absent-get
returns-then-absent-get c =
    let within : c.first_absent-absent.result ≤ last_of c.args.cut.now c.loop-agent.agent = omega arith in
    first_missing_is c.args.self.now.batches c.args.cut.now c.loop-agent.agent c.first_absent-absent.result (record {
      positive = omega arith;
      within = within;
      absent = c.first_absent-absent.ensures.absent;
      of_agent = c.first_absent-absent.ensures.below;
      of_earlier = λ a s less. c.loop-agent.invariant a less s;
    })

pub returns : goal.returns
returns c = let beyond : length c.args.cut.now < c.loop-agent.agent = omega arith in first_missing_is_none c.args.self.now.batches c.args.cut.now c.loop-agent.agent beyond c.loop-agent.invariant
