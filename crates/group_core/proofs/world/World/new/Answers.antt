use Rattle.std.proofs.Common.{sym, subst}
use Rattle.std.specs.Arc.{arc_value}
use Rattle.metering_model.specs.Sheet.{Sheet}
use Rattle.metering_model.specs.Dates.{IsBaseMonth}
use Rattle.group_state.specs.Reached.{IsReached}
use Rattle.group_state.proofs.Reaching.{opening_reached}
use Rattle.group_core.proofs.world.World.new.Goals as goal

pub invariant_of-result : goal.invariant_of-result
invariant_of-result c =
    subst IsReached (sym c.in_ok-state.ensures)
    (opening_reached c.args.voters c.args.observers c.args.agents (arc_value c.args.sheet) (arc_value c.args.issuer)
    (record {
      voters_from = c.requires.voters_from;
      nodes_to = c.requires.nodes_to;
      agents_from = c.requires.agents_from;
      agents_to = c.requires.agents_to;
      base = subst (λ (x : Sheet). IsBaseMonth x.base) c.deref.ensures (subst IsBaseMonth c.base_month.ensures.value c.base_month.ensures.range);
    }))
