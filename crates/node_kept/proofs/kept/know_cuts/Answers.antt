use Rattle.std.proofs.Common.{arith, subst}
use Rattle.std.specs.Arc.{arc_value}
use Rattle.batch_store.specs.Limits.{IsCut}
use Rattle.node_kept.proofs.Limits.{all_more, all_taken}
use Rattle.node_kept.proofs.kept.know_cuts.Goals as goal

pub loop-cut-preserved : goal.loop-cut-preserved
loop-cut-preserved c = all_more arc_value IsCut c.args.cuts.now c.loop-cut.cut-index c.cut-item.result (omega arith) c.cut-item.is c.loop-cut.invariant (subst IsCut c.deref.ensures c.agents.ensures.within)

pub returns : goal.returns
returns c = all_taken arc_value IsCut c.args.cuts.now c.loop-cut.cut-index (omega arith) c.loop-cut.invariant
