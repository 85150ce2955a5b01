use Rattle.std.proofs.Common.{ap, ◌∙◌, sym, arith}
use Rattle.metering_model.specs.Holding.{placed, put}
use Rattle.metering_model.specs.JournalRules.{first_broken}
use Rattle.group_events.specs.Batches.{batch_of}
use Rattle.group_state.proofs.Changes.{wrong_seq_told, rule_told, full_told, may_journal}
use Rattle.group_state.proofs.state.GroupState.journal_refusal.Goals as goal

pub returns-then-seq-wanted : goal.returns-then-seq-wanted
returns-then-seq-wanted c =
    let agent = c.agent-agent.ensures.value ∙ ap (λ t. (batch_of t).agent) c.view-view.ensures in
    let seq = c.seq.ensures.value ∙ ap (λ t. (batch_of t).seq) c.view-view.ensures in
    wrong_seq_told c.args.self.now (batch_of c.args.batch.now) c.agent-agent.result c.seq.result c.next_seq-wanted.result agent seq (omega arith) c.next_seq-wanted.ensures.next c.if-seq-wanted.true

pub returns-in-Some : goal.returns-in-Some
returns-in-Some c =
    let agent = c.agent-agent.ensures.value ∙ ap (λ t. (batch_of t).agent) c.view-view.ensures in
    let seq = c.seq.ensures.value ∙ ap (λ t. (batch_of t).seq) c.view-view.ensures in
    let broken = ap (λ t. first_broken c.args.self.now.sheet (put c.args.self.now.journals (batch_of t)) (placed (batch_of t))) (sym c.view-view.ensures) ∙ (sym c.broken_rule.ensures ∙ c.in-Some.is) in
    rule_told c.args.self.now (batch_of c.args.batch.now) c.agent-agent.result c.seq.result c.next_seq-wanted.result agent seq (omega arith) c.next_seq-wanted.ensures.next c.if-seq-wanted.false c.in-Some.rule c.refusal_of.result broken c.refusal_of.ensures

pub returns-then-has_room : goal.returns-then-has_room
returns-then-has_room c =
    let agent = c.agent-agent.ensures.value ∙ ap (λ t. (batch_of t).agent) c.view-view.ensures in
    let seq = c.seq.ensures.value ∙ ap (λ t. (batch_of t).seq) c.view-view.ensures in
    let none = ap (λ t. first_broken c.args.self.now.sheet (put c.args.self.now.journals (batch_of t)) (placed (batch_of t))) (sym c.view-view.ensures) ∙ (sym c.broken_rule.ensures ∙ c.in_default.is) in
    may_journal c.args.self.now (batch_of c.args.batch.now) c.agent-agent.result c.seq.result c.next_seq-wanted.result agent seq (omega arith) c.next_seq-wanted.ensures.next c.if-seq-wanted.false none (sym c.has_room.ensures ∙ c.if-has_room.true)

pub returns-else-has_room : goal.returns-else-has_room
returns-else-has_room c =
    let agent = c.agent-agent.ensures.value ∙ ap (λ t. (batch_of t).agent) c.view-view.ensures in
    let seq = c.seq.ensures.value ∙ ap (λ t. (batch_of t).seq) c.view-view.ensures in
    let none = ap (λ t. first_broken c.args.self.now.sheet (put c.args.self.now.journals (batch_of t)) (placed (batch_of t))) (sym c.view-view.ensures) ∙ (sym c.broken_rule.ensures ∙ c.in_default.is) in
    full_told c.args.self.now (batch_of c.args.batch.now) c.agent-agent.result c.seq.result c.next_seq-wanted.result agent seq (omega arith) c.next_seq-wanted.ensures.next c.if-seq-wanted.false none (sym c.has_room.ensures ∙ c.if-has_room.false)
