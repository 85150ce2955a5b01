use Rattle.std.proofs.Common.{◌≡◌, ◌+◌, ◌≤◌, length, sym, ap, ◌∙◌, arith, rules}
use Rattle.std.specs.Arc.{arc_value}
use Rattle.std.proofs.lemmas.Result.{err_from_is_err_and}
use Rattle.metering_model.specs.Holding.{put}
use Rattle.batch_store.specs.Stores.{Stored}
use Rattle.batch_store.specs.Batches.{batch_of}
use Rattle.node_kept.proofs.ReadSteps.{told_so, batch_fault, reads_one_more, reads_no_more, no_agent, no_place, when_ok}
use Rattle.node_kept.proofs.reading.read_batches.Goals.{then-place-agents-via-then-place-agents, then-place-agents-via-else-place-agents+then-not-comes_behind}
use Rattle.node_kept.proofs.reading.read_batches.Goals as goal

pub returns-in_err-batch : goal.returns-in_err-batch
returns-in_err-batch c =
    let l = c.loop in
    let p = err_from_is_err_and c.from_residual.result c.from_residual.ensures.1 in
    rw (p.1, p.2) (told_so c.in_err-batch.field-0.0 _ _ (λ f e. batch_fault c.args.text.now c.args.first c.args.agents c.args.count l.counter l.store.batches l.line l.rest.now f c.loop-test.true l.invariant.so_far e) c.in_err-batch.ensures)

pub returns-then-place-agents : goal.returns-then-place-agents
returns-then-place-agents c =
    let l = c.loop in
    let batch = arc_value c.in_ok-batch.batch in
    let bytes = c.view-view.ensures ∙ c.deref.ensures in
    let agent = c.agent.ensures.value ∙ ap (λ t. (batch_of t).agent) bytes in
    let seq = c.seq.ensures.value ∙ ap (λ t. (batch_of t).seq) bytes in
    reads_no_more c.args.text.now c.args.first c.args.agents c.args.count l.counter l.store l.last.agent l.last.seq l.line l.rest.now (batch_of batch) c.agent.result c.seq.result c.in_ok-batch.behind.now
    c.loop-test.true l.invariant c.in_ok-batch.ensures agent seq c.agent.ensures.range.0
    (elim c.then-place-agents.branch [ then-place-agents-via-then-place-agents w ↦ no_agent _ _ _ w.if-place-agents.true | then-place-agents-via-else-place-agents+then-not-comes_behind w ↦ no_place _ _ (sym w.comes_behind.ensures ∙ w.if-not-comes_behind.true) ])

pub loop-preserved : goal.loop-preserved
loop-preserved c =
    let l = c.loop in
    let b = batch_of (arc_value c.in_ok-batch.batch) in
    let bytes = c.view-view.ensures ∙ c.deref.ensures in
    let agent = c.agent.ensures.value ∙ ap (λ t. (batch_of t).agent) bytes in
    let seq = c.seq.ensures.value ∙ ap (λ t. (batch_of t).seq) bytes in
    let count = c.count-records.ensures.value ∙ ap (λ t. length (batch_of t).records) bytes in
    let from = c.from.ensures in
    let most = c.count-records.ensures.range in
    let few : length b.records ≤ 1_000 = omega (arith, count, most) in
    let below : l.line + (1 + c.from.result) ≡ l.line + (1 + length b.records) = omega (arith, count, from) in
    reads_one_more c.args.text.now c.args.first c.args.agents c.args.count l.counter l.store c.put.new.self l.last.agent l.last.seq l.line l.rest.now b c.agent.result c.seq.result _ c.in_ok-batch.behind.now
    c.loop-test.true l.invariant c.in_ok-batch.ensures agent seq c.agent.ensures.range.0 few c.if-place-agents.false (sym c.comes_behind.ensures ∙ c.if-not-comes_behind.false)
    (when_ok c.put.result (◌≡◌ {A = Stored} c.put.new.self (record { agents = l.store.agents; batches = put l.store.batches b })) c.put.ensures.batches c.if-is_err.ensures.negation) below

pub returns : goal.returns
returns c = search rules
