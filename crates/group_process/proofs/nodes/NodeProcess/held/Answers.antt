use Rattle.std.proofs.Common.{ap, arith, inl, inr}
use Rattle.journal_rules.specs.Stores.{Stored}
use Rattle.group_process.specs.Selves.{NodeSelf}
use Rattle.group_process.proofs.HeldLaws.{none_held_in_store}
use Rattle.group_process.proofs.nodes.NodeProcess.held.Goals as goal

pub returns-then-agent-eq0 : goal.returns-then-agent-eq0
returns-then-agent-eq0 c =
    let batches = ap (λ (s : Stored). s.batches) c.store-store.ensures in
    let of_node = ap (λ (n : NodeSelf). n.node.kept.holding) c.self.view_is in
    let agents = c.agents-agents.ensures.value in
    rw (← of_node, ← batches) (none_held_in_store _ c.args.agent c.args.seq c.agents-agents.ensures.stored
    (λ from to. elim c.then-agent-eq0.either [
      | inl zero ↦ omega (arith, zero, from)
      | inr past ↦ let above = past.1 in omega (arith, above, agents, to)
    ]))
