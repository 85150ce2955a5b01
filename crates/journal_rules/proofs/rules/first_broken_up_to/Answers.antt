use Rattle.std.proofs.Common.{sym, ◌∙◌, arith}
use Rattle.journal_rules.proofs.BrokenLaws.{broken_end, broken_from_first}
use Rattle.journal_rules.proofs.rules.first_broken_up_to.Goals as goal

pub returns-in-Some : goal.returns-in-Some
returns-in-Some c =
    let ok = c.agents-agents.ensures.stored.is_holding in
    sym c.in-Some.ensures ∙ (sym c.loop-agent.invariant ∙ broken_from_first c.args.sheet.now c.args.store.now.batches c.args.to.now ok)

pub returns : goal.returns
returns c =
    let ok = c.agents-agents.ensures.stored.is_holding in
    let agents = c.agents-agents.ensures.value in
    let long = c.requires.agents in
    sym (broken_end c.args.sheet.now c.args.store.now.batches c.args.to.now ok c.loop-agent.agent 1 (omega arith))
    ∙ (sym c.loop-agent.invariant ∙ broken_from_first c.args.sheet.now c.args.store.now.batches c.args.to.now ok)
