-- What a node may do by itself, whatever stands around it: begin a ballot, or export a period.
use Rattle.std.specs.Prelude.{ℕ, nat_lt, Result, Ok, ok_or, slice_get}
use Rattle.metering_model.specs.Cut.{Cut}
use Rattle.metering_model.specs.FirstFailure.{◌>>=◌, holds_or}
use Rattle.metering_model.specs.Limits.{most_periods, most_rounds}
use Rattle.metering_model.specs.Step.{first_missing, unless_missing}
use Rattle.metering_model.specs.World.{current_period}
use Rattle.metering_model.specs.declared.Refusal.{Refusal}
use Rattle.metering_model.specs.declared.Refusal.TheVariants.{AllClosed, NoBallot, NotClosed, Observer}
use Rattle.group_node.specs.Nodes.{NodeAmong}

-- the period for which node i may begin its next ballot, or why it may begin none
abbrev pub period_to_begin : ℕ → NodeAmong → Result ℕ Refusal
period_to_begin i n = do
  _ ← holds_or (nat_lt i n.voters) Observer
  _ ← holds_or (nat_lt (current_period n.node) most_periods) AllClosed
  _ ← holds_or (nat_lt n.node.kept.round most_rounds) NoBallot
  Ok (current_period n.node)

-- the cut that the node has learned for a period, up to which it has each batch; or why there is none
abbrev pub cut_to_export : ℕ → NodeAmong → Result Cut Refusal
cut_to_export p n = do
  to ← ok_or (slice_get n.node.kept.learned p) (NotClosed (current_period n.node))
  _ ← unless_missing (first_missing n.node.kept.holding to)
  Ok to
