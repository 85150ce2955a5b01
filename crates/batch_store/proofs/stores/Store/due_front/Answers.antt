use Rattle.std.proofs.Common.{◌+◌, ◌<◌, ◌≤◌, ℤ, ℕ, length, subst, sym, arith}
use Rattle.metering_model.specs.Cut.{Cut}
use Rattle.batch_store.specs.Inner.Fronts.{IsLastDue}
use Rattle.batch_store.proofs.LastDue.{FrontSoFar, FrontSoFar-none, FrontSoFar-set, FrontSoFar-all}
use Rattle.batch_store.proofs.stores.Store.due_front.Goals as goal

pub loop-agent-init : goal.loop-agent-init
loop-agent-init c = FrontSoFar-none c.end-end.result c.args.self.now.batches c.args.cut.now c.in_ok-to.to c.in_ok-to.ensures

pub loop-agent-preserved : goal.loop-agent-preserved
loop-agent-preserved c =
    let within : c.loop-agent.agent ≤ length c.args.cut.now = omega arith in
    let some : 1 ≤ c.loop-agent.agent = omega arith in
    let last = subst (λ (after : ℕ). IsLastDue c.end-end.result c.args.self.now.batches c.loop-agent.agent after c.last_due.result) c.get.ensures.value c.last_due.ensures.last in
    let set = FrontSoFar-set c.end-end.result c.args.self.now.batches c.args.cut.now c.loop-agent.to c.loop-agent.agent c.last_due.result c.loop-agent.invariant some within last in
    subst (λ (to : Cut). FrontSoFar c.end-end.result c.args.self.now.batches c.args.cut.now to (c.loop-agent.agent + 1)) (sym c.set.ensures) set

pub returns : goal.returns
returns c =
    let all : length c.args.cut.now < c.loop-agent.agent = omega arith in
    let so_far = subst (λ (end : ℤ). FrontSoFar end c.args.self.now.batches c.args.cut.now c.loop-agent.to c.loop-agent.agent) c.end-end.ensures c.loop-agent.invariant in
    FrontSoFar-all c.args.base c.args.period c.args.self.now.batches c.args.cut.now c.loop-agent.to c.loop-agent.agent so_far all
