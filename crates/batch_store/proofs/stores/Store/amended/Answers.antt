use Rattle.std.proofs.Common.{◌<◌, length, map, arith}
use Rattle.std.proofs.lemmas.List.Filters.{dedup_is}
use Rattle.std.proofs.lemmas.Result.{err_from_is_err_and}
use Rattle.batch_store.specs.Stores.{position_of}
use Rattle.batch_store.proofs.NamedBetween.{Adds-before_first, Adds-agent, are_amended}
use Rattle.batch_store.proofs.RisingPlaces.{place_eq, same_places, rise-sorted}
use Rattle.batch_store.proofs.stores.Store.amended.Goals as goal

pub loop-agent-init : goal.loop-agent-init
loop-agent-init c = Adds-before_first c.args.self.now.batches c.args.from.now c.args.to.now c.new-places.result.items c.new-places.ensures.items

pub loop-agent-preserved : goal.loop-agent-preserved
loop-agent-preserved c =
    Adds-agent c.args.self.now.batches c.args.from.now c.args.to.now c.loop-agent.agent c.get.result c.get-in-loop-agent.result
    c.loop-agent.places.items c.add_amended.new.places.items (omega arith) c.get.ensures.value c.get-in-loop-agent.ensures.value
    c.loop-agent.invariant c.in_ok-add_amended.ensures

pub returns : goal.returns
returns c =
    let size : length c.args.to.now < c.loop-agent.agent = omega arith in
    let is = dedup_is place_eq c.sort_unstable.new.self.items c.dedup.new.self.items c.dedup.ensures.filtered in
    are_amended c.args.self.now.batches c.args.from.now c.args.to.now c.loop-agent.agent c.loop-agent.places.items (map position_of c.dedup.new.self.items) c.agents-agent-end.ensures.stored.is_holding size c.loop-agent.invariant
    (same_places c.loop-agent.places.items c.sort_unstable.new.self.items c.dedup.new.self.items c.sort_unstable.ensures.permutation is)
    (rise-sorted c.sort_unstable.new.self.items c.dedup.new.self.items c.sort_unstable.ensures.sorted is)

pub add_amended-requires-clause-agent_from : goal.add_amended-requires-clause-agent_from
add_amended-requires-clause-agent_from c = c.loop-agent.auto.agent

pub add_amended-requires-clause-agent_to : goal.add_amended-requires-clause-agent_to
add_amended-requires-clause-agent_to c = omega (arith, c.loop-agent-test.true, c.agents-agent-end.ensures.value)

pub returns-in_err-add_amended : goal.returns-in_err-add_amended
returns-in_err-add_amended c =
    let p = err_from_is_err_and c.from_residual.result c.from_residual.ensures.1 in
    rw p.1 tt
