use Rattle.std.proofs.Common.{◌≡◌, ◌≤◌, arith, rules}
use Rattle.std.specs.Arc.{arc_value}
use Rattle.batch_view.specs.Batches.{batch_of}
use Rattle.batch_store.proofs.ShelvesLemmas.{shelf_is_of, is_store_after, value_after, added_there, well_read}
use Rattle.batch_store.proofs.stores.Store.put.Goals as goal

pub put-requires : goal.put-requires
put-requires c =
    let at : c.from.result ≡ (batch_of (arc_value c.args.batch)).agent = search rules in
    let low : 1 ≤ (batch_of (arc_value c.args.batch)).agent = omega (arith, at, c.agent-agent.ensures.range.0) in
    shelf_is_of c.self.inside.shelves.items c.args.self.now (batch_of (arc_value c.args.batch)) c.from.result c.index_mut.result.now c.index_mut.result.now c.self.view_is c.self.invariant low c.requires at c.index_mut.ensures.value

pub invariant_of-self : goal.invariant_of-self
invariant_of-self c =
    let at : c.from.result ≡ (batch_of (arc_value c.args.batch)).agent = search rules in
    let low : 1 ≤ (batch_of (arc_value c.args.batch)).agent = omega (arith, at, c.agent-agent.ensures.range.0) in
    is_store_after c.self.inside.shelves.items c.args.self.now
    (batch_of (arc_value c.args.batch)) c.from.result c.index_mut.result.now c.put.new.self c.self.view_is c.self.invariant low c.requires at c.index_mut.ensures.value c.put.result (well_read (arc_value c.args.batch) low) c.put.ensures.batches c.put.ensures.kept

pub returns-clause-added : goal.returns-clause-added
returns-clause-added c =
    let at : c.from.result ≡ (batch_of (arc_value c.args.batch)).agent = search rules in
    let low : 1 ≤ (batch_of (arc_value c.args.batch)).agent = omega (arith, at, c.agent-agent.ensures.range.0) in
    added_there c.self.inside.shelves.items c.args.self.now (batch_of (arc_value c.args.batch)) c.from.result c.index_mut.result.now c.put.new.self c.self.view_is c.self.invariant low c.requires at c.index_mut.ensures.value c.put.result c.put.ensures.added

pub returns-clause-batches : goal.returns-clause-batches
returns-clause-batches c =
    let at : c.from.result ≡ (batch_of (arc_value c.args.batch)).agent = search rules in
    let low : 1 ≤ (batch_of (arc_value c.args.batch)).agent = omega (arith, at, c.agent-agent.ensures.range.0) in
    value_after c.self.inside.shelves.items c.args.self.now (batch_of (arc_value c.args.batch)) c.from.result c.index_mut.result.now c.put.new.self c.self.view_is c.self.invariant low c.requires at c.index_mut.ensures.value c.put.result (well_read (arc_value c.args.batch) low) c.put.ensures.batches
