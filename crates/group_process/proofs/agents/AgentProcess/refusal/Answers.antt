use Rattle.std.proofs.Common.{◌≡◌, ap, subst, sym, ◌∙◌, arith, Ok, Err}
use Rattle.std.specs.Prelude.{MatchOption, Result}
use Rattle.metering_model.specs.KeptText.{KeptAmong}
use Rattle.metering_model.specs.declared.Refusal.{Refusal}
use Rattle.group_events.specs.Batches.{batch_of}
use Rattle.group_process.specs.Selves.{AgentSelf}
use Rattle.group_process.proofs.JournalLaws.{no_agent_told, rule_told, wrong_seq_told}
use Rattle.group_process.proofs.agents.AgentProcess.refusal.Goals as goal

pub returns-then-agent-self : goal.returns-then-agent-self
returns-then-agent-self c =
    let a = c.args.self.now in
    let of = c.agent.ensures.value ∙ ap (λ t. (batch_of t).agent) c.view-view.ensures in
    let number = ap (λ (s : AgentSelf). s.number) c.self.view_is in
    no_agent_told a.group a.number a.journal (batch_of c.args.batch.now) c.agent.result of (rw (← number) c.if-agent-self.true)

pub returns-then-seq-wanted : goal.returns-then-seq-wanted
returns-then-seq-wanted c =
    let a = c.args.self.now in
    let of = c.agent.ensures.value ∙ ap (λ t. (batch_of t).agent) c.view-view.ensures in
    let at = c.seq.ensures.value ∙ ap (λ t. (batch_of t).seq) c.view-view.ensures in
    let mine = c.if-agent-self.false ∙ ap (λ (s : AgentSelf). s.number) c.self.view_is in
    wrong_seq_told a.group a.number a.journal (batch_of c.args.batch.now) c.agent.result c.seq.result c.next_seq-wanted.result of at c.next_seq-wanted.ensures.next mine c.if-seq-wanted.true

pub first_broken-requires-clause-agent : goal.first_broken-requires-clause-agent
first_broken-requires-clause-agent c =
    let agents = ap (λ (k : KeptAmong). k.agents) c.kept.view_is in
    omega (arith, c.agent.ensures.value, c.if-agent-self.false, c.self.invariant.3.number.1, c.self.invariant.0, agents)

pub first_broken-requires-clause-new : goal.first_broken-requires-clause-new
first_broken-requires-clause-new c =
    let mine = c.if-agent-self.false ∙ ap (λ (s : AgentSelf). s.number) c.self.view_is in
    let journal = ap (λ (k : KeptAmong). k.kept.holding) c.kept.view_is ∙ ap (λ (s : AgentSelf). s.journal) c.self.view_is in
    rw (journal, ← c.agent.ensures.value, mine, ← c.seq.ensures.value, c.if-seq-wanted.false) c.next_seq-wanted.ensures.absent

pub returns : goal.returns
returns c =
    let a = c.args.self.now in
    let of = c.agent.ensures.value ∙ ap (λ t. (batch_of t).agent) c.view-view.ensures in
    let at = c.seq.ensures.value ∙ ap (λ t. (batch_of t).seq) c.view-view.ensures in
    let mine = c.if-agent-self.false ∙ ap (λ (s : AgentSelf). s.number) c.self.view_is in
    let sheet = c.deref.ensures ∙ (c.sheet.ensures ∙ ap (λ (s : AgentSelf). s.group.sheet) c.self.view_is) in
    let journal = ap (λ (k : KeptAmong). k.kept.holding) c.kept.view_is ∙ ap (λ (s : AgentSelf). s.journal) c.self.view_is in
    let told = rule_told a.group a.number a.journal (batch_of c.args.batch.now) _ _ _ of at c.next_seq-wanted.ensures.next mine c.if-seq-wanted.false _ _ _ c.first_broken.result sheet journal (ap batch_of c.view-view.ensures) c.first_broken.ensures in
    subst (λ (r : Result (Unit {0}) Refusal). MatchOption c.unless_broken.result (r ≡ Ok tt) (λ why. r ≡ Err why)) (sym told) c.unless_broken.ensures
