use Rattle.std.proofs.Common.{sym, ◌∙◌, arith}
use Rattle.metering_model.specs.Holding.{held}
use Rattle.metering_model.proofs.MissingLaws.{some_of, held-up_to_where}
use Rattle.journal_rules.proofs.BrokenLaws.{broken_behind, broken_here, broken_next}
use Rattle.journal_rules.proofs.rules.broken_of_agent.Goals as goal

pub broken_in_held-requires-clause-there : goal.broken_in_held-requires-clause-there
broken_in_held-requires-clause-there c =
    let last = c.get-last.ensures.value in
    held-up_to_where c.args.store.now.batches c.args.to.now c.requires.whole c.args.agent c.loop-seq.seq (omega arith) (omega arith)

pub loop-seq-preserved : goal.loop-seq-preserved
loop-seq-preserved c =
    let h = c.args.store.now.batches in
    let last = c.get-last.ensures.value in
    let ok = c.agents-agents.ensures.stored.is_holding in
    let found = some_of (held h c.args.agent c.loop-seq.seq) (held-up_to_where h c.args.to.now c.requires.whole c.args.agent c.loop-seq.seq (omega arith) (omega arith)) in
    c.loop-seq.invariant
    ∙ broken_behind c.args.sheet.now h c.args.to.now ok c.args.agent c.loop-seq.seq found.0 found.1 (omega arith)
    (sym c.in_default.is ∙ c.broken_in_held.ensures found.0 found.1)

pub returns-in-Some : goal.returns-in-Some
returns-in-Some c =
    let h = c.args.store.now.batches in
    let last = c.get-last.ensures.value in
    let ok = c.agents-agents.ensures.stored.is_holding in
    let found = some_of (held h c.args.agent c.loop-seq.seq) (held-up_to_where h c.args.to.now c.requires.whole c.args.agent c.loop-seq.seq (omega arith) (omega arith)) in
    c.loop-seq.invariant
    ∙ broken_here c.args.sheet.now h c.args.to.now ok c.args.agent c.loop-seq.seq found.0 c.in-Some.rule found.1 (omega arith)
    (sym c.in-Some.is ∙ c.broken_in_held.ensures found.0 found.1)

pub returns : goal.returns
returns c =
    let last = c.get-last.ensures.value in
    let ok = c.agents-agents.ensures.stored.is_holding in
    c.loop-seq.invariant ∙ broken_next c.args.sheet.now c.args.store.now.batches c.args.to.now ok c.args.agent c.loop-seq.seq (omega arith)
