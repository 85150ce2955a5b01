-- What an agent does by itself is an event of the world, or needs none.
use Rattle.std.proofs.Common.{◌≡◌, ℕ, ◌≤◌, Bool, true, false, List, [], ◌∷◌, ◌++◌, length, refl, sym, ap, subst, ◌∙◌, arith, Option, Some, None, inl, inr, Result, Ok, Err, eqb-true}
use Rattle.std.specs.Prelude.{◌==◌, if◌then◌else◌}
use Rattle.std.proofs.lemmas.Bool.{eq-eqb, eqb-false}
use Rattle.std.proofs.lemmas.List.Elements.{All-filter}
use Rattle.metering_model.specs.FirstFailure.{◌>>=◌, holds_or}
use Rattle.metering_model.specs.declared.Refusal.{Refusal}
use Rattle.metering_model.specs.declared.Refusal.TheVariants.{NoAgent, Missing, WrongSeq}
use Rattle.metering_model.specs.Batch.{Batch}
use Rattle.metering_model.specs.Holding.{Holding, held, put, placed}
use Rattle.metering_model.specs.JournalRules.{next_seq, first_broken}
use Rattle.metering_model.specs.KeptText.{kept_text}
use Rattle.metering_model.specs.World.{World, Packet, CarriesBatch, Offer, Journal, Journaled, Refused, with_packet}
use Rattle.metering_model.specs.Step.{Outcome, batch_of, unless_broken, or_refused, step}
use Rattle.group_laws.specs.OneAgent.{batches_of}
use Rattle.group_laws.proofs.EveryRun.{contains_at}
use Rattle.group_laws.proofs.OneAgent.{bad_refused}
use Rattle.group_laws.proofs.Steps.{length-push}
use Rattle.process_laws.specs.LocalSteps.{Group, AgentCommand, JournalBatch, SendAgain, TellJournal, OfModel, HasJournaled, KeptIs, HasSent, AgentWentOn, saying, refusing, sending_held, kept_among, journal_kept, AgentDone, unmoved_journal, journal_refusal, journaling}
use Rattle.process_laws.specs.Histories.{Processes, AgentDoes, AgentGoesOn, with_agent_done, acted}
use Rattle.process_laws.proofs.CarriedBatches.{WasCarried, at_held}
use Rattle.process_laws.proofs.Stands.{world_of, one_more, limits, carried, Stands, Comes}
use Rattle.process_laws.proofs.NodeSteps.{get_last, more_sent, next_is, stands_sent}
use Rattle.process_laws.proofs.OwnBatches.{held_own, next_own, found_in, done_by, journal_steps, same_found, own_put, other_put}

-- a journal that was not changed is what it was
unchanged : (s : Processes) (a agent : ℕ) → (if agent == a then s.journals a else s.journals agent) ≡ s.journals agent
unchanged s a agent = by_test (agent == a) refl
  where
    by_test : (t : Bool) → (agent == a) ≡ t → (if t then s.journals a else s.journals agent) ≡ s.journals agent
    by_test false e = refl
    by_test true e = ap s.journals (sym (eqb-true agent a e))

module _ (g : Group) (room : ℕ) (s : Processes) (journals : Holding) (packets : List Packet) (h : Stands g room s journals packets) where
  abbrev w : World
  w = world_of g room journals packets s.nodes

  -- where no journal changes, the world stays what they stand for
  still_stands : (a : ℕ) (sent : List Packet) → Stands g room (record s { sent = sent }) journals packets
      → Stands g room (record s { journals = λ agent. if agent == a then s.journals a else s.journals agent; sent = sent }) journals packets
  still_stands a sent is = record { reached = is.reached; journals_of = λ agent. unchanged s a agent ∙ is.journals_of agent; sent = is.sent; fewer = is.fewer }

  abbrev ComesOf : ℕ → AgentCommand → AgentDone → Type 0
  ComesOf a c d = Comes g room s journals packets (AgentDoes a c) (with_agent_done a d s)

  -- ---- an offer

  -- what an agent asks of a batch, and what comes of the answer
  abbrev tries : ℕ → Batch → Result Batch Refusal
  tries a c = journal_refusal g a (s.journals a) c >>= λ _. Ok c

  abbrev after_found : ℕ → Result Batch Refusal → AgentDone
  after_found a r = elim r [
    | Ok c ↦ record { answer = record { words = HasJournaled c.seq; sends = Some (CarriesBatch c) }; journal = put (s.journals a) c }
    | Err why ↦ unmoved_journal (refusing (OfModel why)) (s.journals a)
  ]

  refuses : (a : ℕ) (offer : Offer) (why : Refusal) → step w (Journal offer) ≡ (Refused why, w) → ComesOf a (JournalBatch offer) (unmoved_journal (refusing (OfModel why)) (s.journals a))
  refuses a offer why steps few = inl (record {
    event = Journal offer;
    is = refl;
    reply = Refused why;
    journals_then = journals;
    packets_then = packets;
    steps = steps;
    tells = refl;
    stands = still_stands a s.sent (record { reached = one_more g room w h.reached (Journal offer) (Refused why, w) steps; journals_of = h.journals_of; sent = h.sent; fewer = h.fewer });
  })

  module _ (offer : Offer) (b : Batch) (is : batch_of offer ≡ Ok b) (low : b.agent ≤ g.agents) where
    abbrev own : Holding
    own = s.journals b.agent

    -- the batch is journaled
    journals_batch : found_in g journals b ≡ Ok tt → ComesOf b.agent (JournalBatch offer) (after_found b.agent (Ok b))
    journals_batch found few = inl (record {
      event = Journal offer;
      is = refl;
      reply = Journaled (length packets);
      journals_then = put journals b;
      packets_then = packets ++ CarriesBatch b ∷ [];
      steps = steps;
      tells = (b, refl, get_last packets (CarriesBatch b));
      stands = record {
        reached = one_more g room w h.reached (Journal offer) now steps;
        journals_of = λ agent. by_test agent (agent == b.agent) refl;
        sent = more_sent s.sent packets (CarriesBatch b) h.sent;
        fewer = let more = length-push s.sent (CarriesBatch b) in let sent = length-push packets (CarriesBatch b) in let fewer = h.fewer in omega (arith, more, sent, fewer);
      };
    })
      where
        now : Outcome
        now = (Journaled (length packets), with_packet (CarriesBatch b) (record w { journals = put journals b }))

        steps : step w (Journal offer) ≡ now
        steps =
            journal_steps g offer b is low room journals packets s.nodes
            ∙ (ap (λ r. or_refused w (done_by g offer b is low w r)) found
            ∙ ap (λ r. or_refused w (r >>= λ k. Ok (Journaled k, with_packet (CarriesBatch b) (record w { journals = put journals b }))))
            (next_is g room s journals packets h (let more = length-push s.sent (CarriesBatch b) in omega (arith, more, few))))

        by_test : (agent : ℕ) (t : Bool) → (agent == b.agent) ≡ t → (if t then put own b else s.journals agent) ≡ batches_of agent (put journals b)
        by_test agent true e =
            ap (λ k. put k b) (h.journals_of b.agent)
            ∙ (own_put g offer b is low journals (limits g room w h.reached).rules.is_holding found
            ∙ ap (λ a. batches_of a (put journals b)) (sym (eqb-true agent b.agent e)))
        by_test agent false e =
            h.journals_of agent
            ∙ other_put g offer b is low journals (limits g room w h.reached).rules.is_holding found agent (λ same. eqb-false agent b.agent e (sym same))

    -- the agent finds the same in its own journal
    finds : found_in g own b ≡ found_in g journals b
    finds = ap (λ k. found_in g k b) (h.journals_of b.agent) ∙ same_found g offer b is low journals (limits g room w h.reached).rules.is_holding

    by_found : (r : Result (Unit {0}) Refusal) → found_in g journals b ≡ r → ComesOf b.agent (JournalBatch offer) (after_found b.agent (r >>= λ _. Ok b))
    by_found (Ok u) found = journals_batch found
    by_found (Err why) found =
        refuses b.agent offer why (journal_steps g offer b is low room journals packets s.nodes ∙ ap (λ r. or_refused w (done_by g offer b is low w r)) found)

    offered : ComesOf b.agent (JournalBatch offer) (journaling g b.agent own offer)
    offered =
        subst (λ r. ComesOf b.agent (JournalBatch offer) (after_found b.agent (r >>= tries b.agent))) (sym is)
        (subst (λ t. ComesOf b.agent (JournalBatch offer) (after_found b.agent ((holds_or t NoAgent >>= λ _. found_in g own b) >>= λ _. Ok b))) (sym (eq-eqb b.agent b.agent refl))
        (by_found (found_in g own b) (sym finds)))

  -- a batch of another agent is none of its own
  of_another : (a : ℕ) (offer : Offer) (b : Batch) → batch_of offer ≡ Ok b → (b.agent == a) ≡ false
      → ComesOf a (JournalBatch offer) (journaling g a (s.journals a) offer)
  of_another a offer b is other =
      subst (λ r. ComesOf a (JournalBatch offer) (after_found a (r >>= tries a))) (sym is)
      (subst (λ t. ComesOf a (JournalBatch offer) (after_found a ((holds_or t NoAgent >>= λ _. rest) >>= λ _. Ok b))) (sym other)
      (λ few. inr (record { needs_none = (b, is, eqb-false b.agent a other, refl); nodes = refl; stands = still_stands a s.sent h })))
    where
      rest : Result (Unit {0}) Refusal
      rest =
          holds_or (b.seq == next_seq (s.journals a) a) (WrongSeq (next_seq (s.journals a) a)) >>= λ _.
          unless_broken (first_broken g.sheet (put (s.journals a) b) (placed b))

  offers : (a : ℕ) → a ≤ g.agents → (offer : Offer) → ComesOf a (JournalBatch offer) (journaling g a (s.journals a) offer)
  offers a low offer = by_batch (batch_of offer) refl
    where
      by_batch : (r : Result Batch Refusal) → batch_of offer ≡ r → ComesOf a (JournalBatch offer) (journaling g a (s.journals a) offer)
      by_batch (Err why) is = subst (λ r. ComesOf a (JournalBatch offer) (after_found a (r >>= tries a))) (sym is) (refuses a offer why (bad_refused w offer why is))
      by_batch (Ok b) is = by_agent (b.agent == a) refl
        where
          by_agent : (t : Bool) → (b.agent == a) ≡ t → ComesOf a (JournalBatch offer) (journaling g a (s.journals a) offer)
          by_agent false other = of_another a offer b is other
          by_agent true at =
              let same = eqb-true b.agent a at in
              subst (λ n. ComesOf n (JournalBatch offer) (journaling g n (s.journals n) offer)) same
              (offered offer b is (subst (λ n. n ≤ g.agents) (sym same) low))

  -- ---- a batch of its own once more

  sends : (a seq : ℕ) → ComesOf a (SendAgain seq) (unmoved_journal (sending_held (s.journals a) a seq) (s.journals a))
  sends a seq = by_held (held (s.journals a) a seq) refl
    where
      -- what it holds is what the world's journals hold
      here : {o : Option Batch} → held (s.journals a) a seq ≡ o → held journals a seq ≡ o
      here is = sym (held_own a seq journals) ∙ (ap (λ k. held k a seq) (sym (h.journals_of a)) ∙ is)

      by_held : (o : Option Batch) → held (s.journals a) a seq ≡ o → ComesOf a (SendAgain seq) (unmoved_journal (elim o [
        | Some b ↦ record { words = HasSent; sends = Some (CarriesBatch b) }
        | None ↦ refusing (OfModel (Missing a seq))
      ]) (s.journals a))
      by_held None is few = inr (record { needs_none = inr (here is, refl); nodes = refl; stands = still_stands a s.sent h })
      by_held (Some b) is few =
          let all = All-filter (λ c. c.agent == a) (WasCarried packets) journals (carried g room w h.reached) in
          let at = at_held (WasCarried packets) (batches_of a journals) a seq b all (ap (λ k. held k a seq) (sym (h.journals_of a)) ∙ is) in
          let sent = contains_at packets at.0 (CarriesBatch b) at.1 in
          inr (record {
            needs_none = inl (b, here is, refl, sent);
            nodes = refl;
            stands = still_stands a (s.sent ++ CarriesBatch b ∷ []) (stands_sent g room s journals packets h (CarriesBatch b) sent);
          })

  pub agent_comes : (a : ℕ) → a ≤ g.agents → (c : AgentCommand) → Comes g room s journals packets (AgentDoes a c) (acted g s (AgentDoes a c))
  agent_comes a low (JournalBatch offer) few = offers a low offer few
  agent_comes a low (SendAgain seq) few = sends a seq few
  agent_comes a low TellJournal few = inr (record {
    needs_none = ap (λ k. saying (KeptIs (kept_text (kept_among g (journal_kept k))))) (h.journals_of a);
    nodes = refl;
    stands = still_stands a s.sent h;
  })

  -- with what it keeps
  pub agent_goes_on_comes : (a : ℕ) (stored : Holding) → s.journals a ≡ stored
      → Comes g room s journals packets (AgentGoesOn a stored) (acted g s (AgentGoesOn a stored))
  agent_goes_on_comes a stored is = subst (λ k. Comes g room s journals packets (AgentGoesOn a k) (acted g s (AgentGoesOn a k))) is (λ few. inr (record {
    needs_none = ap (λ seq. saying (AgentWentOn seq)) (ap (λ k. next_seq k a) (h.journals_of a) ∙ next_own a journals);
    nodes = refl;
    stands = still_stands a s.sent h;
  }))
