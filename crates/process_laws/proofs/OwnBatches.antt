-- What an agent finds of a batch in its own journal is what the journals of all agents have of it. It is drawn from two worlds that
-- differ in their journals alone, in which an agent journals by the same.
use Rattle.std.proofs.Common.{◌≡◌, ℕ, ◌+◌, ◌<◌, ◌≤◌, Bool, true, ◌&&◌, cond, List, [], ◌∷◌, length, map, filter, refl, sym, ap, ◌∙◌, arith, Some, inl, inr, Result, Ok, Err, All}
use Rattle.std.specs.Prelude.{◌==◌}
use Rattle.std.proofs.lemmas.Bool.{cases_Bool, cond-true, cond-false, le-leb, eq-eqb}
use Rattle.std.proofs.lemmas.List.Elements.{All-head, All-tail, All-filter, filter_passes}
use Rattle.metering_model.specs.FirstFailure.{◌>>=◌, holds_or}
use Rattle.metering_model.specs.declared.Refusal.{Refusal}
use Rattle.metering_model.specs.declared.Refusal.TheVariants.{NoAgent, WrongSeq}
use Rattle.metering_model.specs.Batch.{Batch, IsWellFormed}
use Rattle.metering_model.specs.Holding.{Holding, IsHolding, is_batch_at, held, put, placed}
use Rattle.metering_model.specs.JournalRules.{next_seq, first_broken}
use Rattle.metering_model.specs.World.{World, Node, Packet, CarriesBatch, Offer, Journal, Journaled, with_packet, next_packet}
use Rattle.metering_model.specs.Step.{Outcome, batch_of, unless_broken, on_batch, or_refused, step}
use Rattle.metering_model.proofs.BatchOrder.{in_order-filter}
use Rattle.group_laws.specs.Alone.{unnumbered}
use Rattle.group_laws.specs.OneAgent.{batches_of, SameJournalOf}
use Rattle.group_laws.proofs.OneAgent.{journaled_alike, changes_only}
use Rattle.process_laws.specs.LocalSteps.{Group}
use Rattle.process_laws.proofs.CarriedBatches.{All-put}
use Rattle.process_laws.proofs.Stands.{world_of}

-- ---- batches of one agent

filter_all : {A : Type 0} (p : A → Bool) (xs : List A) → All (λ x. p x ≡ true) xs → filter p xs ≡ xs
filter_all p [] all = refl
filter_all p (x ∷ xs) all =
    cond-true (p x) (x ∷ filter p xs) (filter p xs) (All-head (λ y. p y ≡ true) x xs all)
    ∙ ap (λ ys. x ∷ ys) (filter_all p xs (All-tail (λ y. p y ≡ true) x xs all))

own_again : (a : ℕ) (h : Holding) → batches_of a (batches_of a h) ≡ batches_of a h
own_again a h = filter_all (λ b. b.agent == a) (batches_of a h) (filter_passes (λ b. b.agent == a) h)

put_is_own : (b : Batch) (h : Holding) → batches_of b.agent (put (batches_of b.agent h) b) ≡ put (batches_of b.agent h) b
put_is_own b h =
    filter_all (λ c. c.agent == b.agent) (put (batches_of b.agent h) b)
    (All-put (λ c. (c.agent == b.agent) ≡ true) (batches_of b.agent h) b (filter_passes (λ c. c.agent == b.agent) h) (eq-eqb b.agent b.agent refl))

own_holding : (a : ℕ) (h : Holding) → IsHolding h → IsHolding (batches_of a h)
own_holding a h is = record {
  in_order = in_order-filter (λ b. b.agent == a) h is.in_order;
  batches = All-filter (λ b. b.agent == a) IsWellFormed h is.batches;
}

-- what it has of the agent is found among that one's own
pub held_own : (a seq : ℕ) (h : Holding) → held (batches_of a h) a seq ≡ held h a seq
held_own a seq [] = refl
held_own a seq (c ∷ h) = elim (cases_Bool (c.agent == a)) [
  | inl same ↦
      ap (λ k. held k a seq) (cond-true (c.agent == a) (c ∷ batches_of a h) (batches_of a h) same)
      ∙ ap (cond (is_batch_at a seq c) (Some c)) (held_own a seq h)
  | inr other ↦
      ap (λ k. held k a seq) (cond-false (c.agent == a) (c ∷ batches_of a h) (batches_of a h) other)
      ∙ (held_own a seq h ∙ sym (cond-false (is_batch_at a seq c) (Some c) (held h a seq) (ap (λ t. t && (c.seq == seq)) other)))
]

pub next_own : (a : ℕ) (h : Holding) → next_seq (batches_of a h) a ≡ next_seq h a
next_own a h = ap (λ (bs : Holding). length (map (λ b. b.seq) bs) + 1) (own_again a h)

-- ---- what is found of a batch

-- its sequence is the next, and it breaks no rule, in these journals
abbrev pub found_in : Group → Holding → Batch → Result (Unit {0}) Refusal
found_in g journals b = do
  _ ← holds_or (b.seq == next_seq journals b.agent) (WrongSeq (next_seq journals b.agent))
  unless_broken (first_broken g.sheet (put journals b) (placed b))

-- steps that may fail, in another grouping
regrouped : {A B C E : Type 0} (r : Result A E) (f : A → Result B E) (k : B → Result C E) → (r >>= λ x. f x >>= k) ≡ ((r >>= f) >>= k)
regrouped (Ok x) f k = refl
regrouped (Err e) f k = refl

module _ (g : Group) (offer : Offer) (b : Batch) (is : batch_of offer ≡ Ok b) (low : b.agent ≤ g.agents) where
  -- the world goes by what is found
  abbrev pub done_by : World → Result (Unit {0}) Refusal → Result Outcome Refusal
  done_by w r = r >>= λ _. next_packet w >>= λ k. Ok (Journaled k, with_packet (CarriesBatch b) (record w { journals = put w.journals b }))

  abbrev next_in : Holding → Result (Unit {0}) Refusal
  next_in journals = holds_or (b.seq == next_seq journals b.agent) (WrongSeq (next_seq journals b.agent))

  abbrev rules_in : Holding → Result (Unit {0}) Refusal
  rules_in journals = unless_broken (first_broken g.sheet (put journals b) (placed b))

  abbrev number_in : World → Result Outcome Refusal
  number_in w = done_by w (Ok tt)

  pub journal_steps : (room : ℕ) (journals : Holding) (packets : List Packet) (nodes : List Node)
      → step (world_of g room journals packets nodes) (Journal offer)
      ≡ or_refused (world_of g room journals packets nodes) (done_by (world_of g room journals packets nodes) (found_in g journals b))
  journal_steps room journals packets nodes =
      let w : World = world_of g room journals packets nodes in
      ap (λ r. or_refused w (r >>= on_batch w)) is
      ∙ (ap (λ t. or_refused w (holds_or t NoAgent >>= λ _. next_in journals >>= λ _. rules_in journals >>= λ _. number_in w)) (le-leb b.agent g.agents low)
      ∙ ap (or_refused w) (regrouped (next_in journals) (λ _. rules_in journals) (λ _. number_in w)))

  module _ (journals : Holding) (holding : IsHolding journals) where
    -- a world with all journals, and one with the agent's alone
    abbrev whole : World
    whole = world_of g 1 journals [] []

    abbrev alone : World
    alone = world_of g 1 (batches_of b.agent journals) [] []

    same_step : SameJournalOf b.agent whole alone (step whole (Journal offer)) (step alone (Journal offer))
    same_step = journaled_alike whole alone offer b is (record {
      sheet = refl;
      agents = refl;
      batches = own_again b.agent journals;
      holding = holding;
      holding_too = own_holding b.agent journals holding;
      room = lt_refl;
      room_too = lt_refl;
    })
      where
        lt_refl : 0 < 1
        lt_refl = omega arith

    -- both are found the same, since they are answered alike
    same_answers : (r q : Result (Unit {0}) Refusal) → unnumbered (or_refused alone (done_by alone q)).0 ≡ unnumbered (or_refused whole (done_by whole r)).0 → q ≡ r
    same_answers (Ok u) (Ok v) e = refl
    same_answers (Ok u) (Err why) e = absurd (cc)
    same_answers (Err why) (Ok u) e = absurd (cc)
    same_answers (Err why) (Err other) e = cc

    steps_whole : step whole (Journal offer) ≡ or_refused whole (done_by whole (found_in g journals b))
    steps_whole = journal_steps 1 journals [] []

    steps_alone : step alone (Journal offer) ≡ or_refused alone (done_by alone (found_in g (batches_of b.agent journals) b))
    steps_alone = journal_steps 1 (batches_of b.agent journals) [] []

    pub same_found : found_in g (batches_of b.agent journals) b ≡ found_in g journals b
    same_found = same_answers (found_in g journals b) (found_in g (batches_of b.agent journals) b)
        (sym (ap (λ (o : Outcome). unnumbered o.0) steps_alone) ∙ (same_step.reply ∙ ap (λ (o : Outcome). unnumbered o.0) steps_whole))

    module _ (found : found_in g journals b ≡ Ok tt) where
      journals_whole : (step whole (Journal offer)).1.journals ≡ put journals b
      journals_whole = ap (λ (o : Outcome). o.1.journals) (steps_whole ∙ ap (λ r. or_refused whole (done_by whole r)) found)

      journals_alone : (step alone (Journal offer)).1.journals ≡ put (batches_of b.agent journals) b
      journals_alone = ap (λ (o : Outcome). o.1.journals) (steps_alone ∙ ap (λ r. or_refused alone (done_by alone r)) (same_found ∙ found))

      -- the agent's batches are then those of the other world
      pub own_put : put (batches_of b.agent journals) b ≡ batches_of b.agent (put journals b)
      own_put =
          sym (put_is_own b journals)
          ∙ (sym (ap (batches_of b.agent) journals_alone) ∙ (same_step.batches ∙ ap (batches_of b.agent) journals_whole))

      -- and another's are as they were
      pub other_put : (other : ℕ) → (b.agent ≡ other → ⊥) → batches_of other journals ≡ batches_of other (put journals b)
      other_put other apart = sym ((changes_only whole offer b is).others other apart) ∙ ap (batches_of other) journals_whole
