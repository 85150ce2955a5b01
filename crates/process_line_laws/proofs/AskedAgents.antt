-- An agent that is asked in lines does an act of the history, or none.
use Rattle.std.proofs.Common.{◌≡◌, ℕ, ◌≤◌, false, List, [], ◌∷◌, ◌++◌, length, Some, codes, refl, sym, ap, ap₂, subst, ◌∙◌, inl, inr, leb-true}
use Rattle.std.specs.Prelude.{nat_le}
use Rattle.std.proofs.lemmas.Bool.{and_parts}
use Rattle.metering_model.specs.Holding.{Holding}
use Rattle.metering_model.specs.KeptText.{kept_text}
use Rattle.process_laws.specs.LocalSteps as model
use Rattle.process_laws.specs.LocalSteps.{AgentCommand, AgentDone, Group, KeptIs, TellJournal, saying}
use Rattle.process_laws.specs.Histories as laws
use Rattle.process_laws.specs.Histories.{Processes, Act, Acted, AgentDoes, acted, after, begun, with_agent_done}
use Rattle.log_text.specs.LogText.{AgentOf, IsLogHead, NodeOf, Who}
use Rattle.group_process.specs.Selves.{AgentSelf, kept_of_agent}
use Rattle.process_text.specs.declared.processes.Process.{Process}
use Rattle.process_text.specs.declared.processes.Process.TheVariants as process
use Rattle.process_text.specs.Answers.{Answers, AnswersAgent, TellsAgent}
use Rattle.process_text.specs.Requests.{AgentRequest, AsksAgent, NoAgentCommand, agent_request}
use Rattle.process_player.specs.Runs.{Asked}
use Rattle.process_line_laws.specs.Told.{texts_sent}
use Rattle.process_line_laws.specs.Hosts.{Asks, Machines, Shortens, head_of, is_who, with_machine}
use Rattle.process_line_laws.specs.Comes.{kept_by, process_there}
use Rattle.process_line_laws.proofs.Answered.{ComesOf, HasAnswered, asked_comes, nothing_comes, shortened_comes}
use Rattle.process_line_laws.proofs.Effects.{journal_stays, journal_there}
use Rattle.process_line_laws.proofs.Logs.{KeepsBy, keeps_more}
use Rattle.process_line_laws.proofs.ReadAnswers.{agent_meant}
use Rattle.process_line_laws.proofs.Stands.{Moves, Stands, answer_written, stands_with}

module _ (g : Group) (m : Machines) (acts : List Act) (stands : Stands g m acts) (a : ℕ) (head : IsLogHead (head_of g (AgentOf a))) where
  abbrev s : Processes
  s = after g (begun g) acts

  abbrev as_process : Holding → Process
  as_process j = process.Agent (record { group = g; number = a; journal = j })

  abbrev self : AgentSelf
  self = record { group = g; number = a; journal = (after g (begun g) acts).journals a }

  pub agent_keeps : KeepsBy (head_of g (AgentOf a)) (m.machine (AgentOf a)).log (kept_of_agent self)
  agent_keeps = (stands.stand.each (AgentOf a)).keeps (as_process (s.journals a)) refl

  pub agent_among : (1 ≤ a) × (a ≤ g.agents)
  agent_among = let both = and_parts (nat_le 1 a) (nat_le a g.agents) head.who in (leb-true _ _ both.0, leb-true _ _ both.1)

  agent_moved : (d : AgentDone) → Moves g s (with_agent_done a d s).after (AgentOf a) (as_process d.journal)
  agent_moved d = record { there = ap (λ j. Some (as_process j)) (journal_there s a d); others = others }
    where
      others : (v : Who) → is_who v (AgentOf a) ≡ false → process_there g (with_agent_done a d s).after v ≡ process_there g s v
      others (NodeOf j) e = refl
      others (AgentOf b) e = ap (λ j. Some (process.Agent (record { group = g; number = b; journal = j }))) (journal_stays s a b d e)

  -- the machines with an act of the agent, whatever its log has become
  pub agent_stands : (act : Act) (d : AgentDone) (log : List ℕ) → acted g s act ≡ with_agent_done a d s → laws.MayAct g s act
      → KeepsBy (head_of g (AgentOf a)) log (kept_by (as_process d.journal))
      → Stands g (record {
        machine = with_machine (AgentOf a) (record { runs = Some (as_process d.journal); log = log }) m.machine;
        sent = m.sent ++ texts_sent g.name d.answer.sends;
      }) (acts ++ act ∷ [])
  agent_stands act d log is may keeps =
      stands_with g m acts stands (AgentOf a) (as_process d.journal) log head keeps act d.answer.sends may
      (subst (λ (x : Acted). Moves g s x.after (AgentOf a) (as_process d.journal)) (sym is) (agent_moved d))
      (ap (λ (x : Acted). length x.after.nodes) is)
      (ap (λ (x : Acted). x.after.sent) is)

  module _ (c : AgentCommand) (new : AgentSelf) (said : List ℕ) (tells : TellsAgent c self new said) where
    abbrev d : AgentDone
    d = record { answer = tells.answer; journal = new.journal }

    new_is : new ≡ record { group = g; number = a; journal = new.journal }
    new_is = ap₂ (λ (x : Group) (b : ℕ). let y : AgentSelf = record { group = x; number = b; journal = new.journal } in
        y) tells.does.group tells.does.number

    whole : acted g s (AgentDoes a c) ≡ with_agent_done a d s
    whole = ap (λ (x : AgentDone). with_agent_done a x s) tells.does.does

    pub agent_answered : HasAnswered g m acts (AgentOf a) (process.Agent new) said (AgentDoes a c)
    agent_answered = record {
      answer = tells.answer;
      added = tells.added;
      read = agent_meant c self new said tells
          (answer_written g acts (AgentDoes a c) (AgentOf a) stands.history agent_among head tells.answer.sends
          (ap (λ (x : Acted). x.after.sent) whole));
      is = ap (λ (x : Acted). x.answer) whole;
      keeps = keeps_more agent_keeps (kept_of_agent new) tells.added tells.adds;
      stands = λ log keeps.
          subst (λ x. Stands g
          (record {
            machine = with_machine (AgentOf a) (record { runs = Some (process.Agent x); log = log }) m.machine;
            sent = m.sent ++ texts_sent g.name tells.answer.sends;
          }) (acts ++ AgentDoes a c ∷ []))
          (sym new_is)
          (agent_stands (AgentDoes a c) d log whole agent_among
          (subst (λ x. KeepsBy (head_of g (AgentOf a)) log (kept_of_agent x)) new_is keeps));
    }

  -- ---- it is asked

  pub agent_asked : (asked : Asked) (next : Process) (said : List ℕ) → Answers (process.Agent self) asked.first asked.below next said
      → ComesOf g m acts (Asks (AgentOf a) asked next said) said
  agent_asked asked (process.Node x) said answers = absurd answers
  agent_asked asked (process.Agent new) said answers = by_request (agent_request asked.first asked.below) refl answers
    where
      by_request : (r : AgentRequest) → agent_request asked.first asked.below ≡ r → AnswersAgent r self new said
          → ComesOf g m acts (Asks (AgentOf a) asked (process.Agent new) said) said
      by_request (AsksAgent c) is tells =
          inl (asked_comes g m acts (AgentOf a) (process.Agent new) said (AgentDoes a c) (agent_answered c new said tells) asked
          (c, is, refl))
      by_request NoAgentCommand is none =
          inr (nothing_comes g m acts stands (AgentOf a) head (as_process (s.journals a)) refl asked (process.Agent new) said (codes "L6")
          (ap process.Agent none.0) none.1 (is, none.1))

  pub agent_shortens : (next : Process) (said : List ℕ) → Answers (process.Agent self) (codes "keep") [] next said
      → ComesOf g m acts (Shortens (AgentOf a) next said) said
  unfolding agent_answered
  agent_shortens (process.Node x) said answers = absurd answers
  agent_shortens (process.Agent new) said answers =
      let told : record { answer = saying (KeptIs (kept_text (kept_of_agent self))); journal = s.journals a }
      ≡ record { answer = answers.answer; journal = new.journal } = answers.does.does in
      let same : kept_of_agent self ≡ kept_of_agent new =
      ap₂ (λ (x : Group) (j : Holding). model.kept_among x (model.journal_kept j)) (sym answers.does.group)
      (ap (λ (e : AgentDone). e.journal) told) in
      inl (shortened_comes g m acts (AgentOf a) (process.Agent new) said (AgentDoes a TellJournal)
      (agent_answered TellJournal new said answers) head refl
      (ap (λ (e : AgentDone). e.answer) (sym told) ∙ ap (λ k. saying (KeptIs (kept_text k))) same))
