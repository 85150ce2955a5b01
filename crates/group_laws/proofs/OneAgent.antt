-- Of the journals, a batch's reply and its agent's batches after it hang on that agent's batches alone.
use Rattle.std.proofs.Common.{◌≡◌, ℕ, ◌+◌, ◌<◌, Bool, true, false, ◌&&◌, cond, List, [], ◌∷◌, length, map, refl, sym, ap, subst, ◌∙◌, nat_lt, Option, Some, None, Result, Ok, Err, inl, inr}
use Rattle.std.specs.Prelude.{◌==◌, slice_get, if◌then◌else◌, nat_le}
use Rattle.std.specs.List.{list_all, enumerate_from}
use Rattle.std.specs.Option.{option_and_then}
use Rattle.std.proofs.Math.Seq.{drop-append_seam, drop-length, take-append_seam, take-length}
use Rattle.std.proofs.lemmas.Bool.{lt-ltb, cases_Bool, cond-true, cond-false, and_parts, eq-eqb, both_ways, and_from, ne_eqb}
use Rattle.metering_model.specs.FirstFailure.{◌>>=◌, holds_or}
use Rattle.metering_model.specs.declared.BrokenRule.{BrokenRule}
use Rattle.metering_model.specs.declared.BrokenRule.TheVariants.{BadTarget}
use Rattle.metering_model.specs.declared.Refusal.{Refusal}
use Rattle.metering_model.specs.declared.Refusal.TheVariants.{NoAgent, WrongSeq, WorldFull}
use Rattle.metering_model.specs.Batch.{Batch, Record, Reads, Amends}
use Rattle.metering_model.specs.Sheet.{Sheet}
use Rattle.metering_model.specs.Holding.{Holding, comes_before, is_in_order, is_batch_at, held, put, sequences_of, Position, Placed, placed, reading_of}
use Rattle.metering_model.specs.JournalRules.{broken_by, first_broken, comes_earlier, is_fit_target, next_seq}
use Rattle.metering_model.specs.World.{World, Offer, Journal, CarriesBatch, Journaled, Refused, next_packet, with_packet}
use Rattle.metering_model.specs.Step.{Outcome, batch_of, unless_broken, on_batch, or_refused, step}
use Rattle.metering_model.proofs.BatchOrder.{put_cases, in_order_parts, list_all-filter, never_both, at_itself, not_at-after, not_at-before, place_of_batch}
use Rattle.metering_model.proofs.Journals.{sequences-of_agent, sequences-of_another}
use Rattle.group_laws.specs.OneAgent.{batches_of, AgreeAtAgent, SameJournalOf, ChangesOnlyAgent}

-- ---- an agent's batches of a holding with a first one

own_first : (a : ℕ) (c : Batch) (h : Holding) → (c.agent == a) ≡ true → batches_of a (c ∷ h) ≡ c ∷ batches_of a h
own_first a c h e = cond-true (c.agent == a) (c ∷ batches_of a h) (batches_of a h) e

own_past : (a : ℕ) (c : Batch) (h : Holding) → (c.agent == a) ≡ false → batches_of a (c ∷ h) ≡ batches_of a h
own_past a c h e = cond-false (c.agent == a) (c ∷ batches_of a h) (batches_of a h) e

own_itself : (b : Batch) → (b.agent == b.agent) ≡ true
own_itself b = eq-eqb b.agent b.agent refl

-- ---- what they have

held_own : (a seq : ℕ) (h : Holding) → held (batches_of a h) a seq ≡ held h a seq
held_own a seq [] = refl
held_own a seq (c ∷ h) = elim (cases_Bool (c.agent == a)) [
  | inl same ↦ ap (λ k. held k a seq) (own_first a c h same) ∙ ap (cond (is_batch_at a seq c) (Some c)) (held_own a seq h)
  | inr other ↦
      ap (λ k. held k a seq) (own_past a c h other)
      ∙ (held_own a seq h ∙ sym (cond-false (is_batch_at a seq c) (Some c) (held h a seq) (ap (λ t. t && (c.seq == seq)) other)))
]

sequences_own : (a : ℕ) (h : Holding) → sequences_of a (batches_of a h) ≡ sequences_of a h
sequences_own a [] = refl
sequences_own a (c ∷ h) = elim (cases_Bool (c.agent == a)) [
  | inl same ↦
      ap (sequences_of a) (own_first a c h same)
      ∙ (sequences-of_agent a c (batches_of a h) same ∙ (ap (λ ss. c.seq ∷ ss) (sequences_own a h) ∙ sym (sequences-of_agent a c h same)))
  | inr other ↦ ap (sequences_of a) (own_past a c h other) ∙ (sequences_own a h ∙ sym (sequences-of_another a c h other))
]

-- ---- a batch more

put_in_front : (b : Batch) (h : Holding) → list_all (comes_before b) h ≡ true → put h b ≡ b ∷ h
put_in_front b [] all = refl
put_in_front b (c ∷ h) all = cond-true (comes_before b c) (b ∷ c ∷ h) _ (and_parts (comes_before b c) (list_all (comes_before b) h) all).0

not_here : (b c : Batch) → comes_before c b ≡ true → is_batch_at b.agent b.seq c ≡ true → ⊥
not_here b c after at = both_ways (is_batch_at b.agent b.seq b) (not_at-after c b b.agent b.seq after at) (at_itself b)

put_behind : (b c : Batch) (h : Holding) → comes_before c b ≡ true → put (c ∷ h) b ≡ c ∷ put h b
put_behind b c h after = put_cases (λ k. k ≡ c ∷ put h b) b c h
    (λ before. absurd (never_both c b after before))
    (λ _. refl)
    (λ at. absurd (not_here b c after at))

put_at_place : (b c : Batch) (h : Holding) → is_batch_at b.agent b.seq c ≡ true → put (c ∷ h) b ≡ c ∷ h
put_at_place b c h at = put_cases (λ k. k ≡ c ∷ h) b c h
    (λ before. absurd (both_ways (is_batch_at b.agent b.seq b) (not_at-before b c b.agent b.seq before at) (at_itself b)))
    (λ after. absurd (not_here b c after at))
    (λ _. refl)

-- An agent's batches, with one of its batches_of put among them, are those of the holding that it is put into.
put_own : (h : Holding) (b : Batch) → is_in_order h ≡ true → batches_of b.agent (put h b) ≡ put (batches_of b.agent h) b
put_own [] b o = own_first b.agent b [] (own_itself b)
put_own (c ∷ h) b o =
    let rest = put_own h b (in_order_parts c h o).1 in
    put_cases (λ k. batches_of b.agent k ≡ put (batches_of b.agent (c ∷ h)) b) b c h
    (λ before. own_first b.agent b (c ∷ h) (own_itself b)
    ∙ sym (put_in_front b (batches_of b.agent (c ∷ h)) (list_all-filter (comes_before b) (λ x. x.agent == b.agent) (c ∷ h) (in_order_parts b (c ∷ h) (and_from _ _ before o)).0)))
    (λ after. elim (cases_Bool (c.agent == b.agent)) [
      | inl same ↦ own_first b.agent c (put h b) same ∙ (ap (λ k. c ∷ k) rest ∙ sym (ap (λ k. put k b) (own_first b.agent c h same) ∙ put_behind b c (batches_of b.agent h) after))
      | inr other ↦ own_past b.agent c (put h b) other ∙ (rest ∙ sym (ap (λ k. put k b) (own_past b.agent c h other)))
    ])
    (λ at. let same = eq-eqb c.agent b.agent (place_of_batch b.agent b.seq c at).0 in
    own_first b.agent c h same ∙ sym (ap (λ k. put k b) (own_first b.agent c h same) ∙ put_at_place b c (batches_of b.agent h) at))

-- Those of another agent stay.
put_other : (h : Holding) (b : Batch) (a : ℕ) → (b.agent == a) ≡ false → batches_of a (put h b) ≡ batches_of a h
put_other [] b a other = own_past a b [] other
put_other (c ∷ h) b a other =
    let rest = put_other h b a other in
    put_cases (λ k. batches_of a k ≡ batches_of a (c ∷ h)) b c h
    (λ _. own_past a b (c ∷ h) other)
    (λ _. elim (cases_Bool (c.agent == a)) [
      | inl same ↦ own_first a c (put h b) same ∙ (ap (λ k. c ∷ k) rest ∙ sym (own_first a c h same))
      | inr past ↦ own_past a c (put h b) past ∙ (rest ∙ sym (own_past a c h past))
    ])
    (λ _. refl)

held_put_own : (h : Holding) (b : Batch) (seq : ℕ) → is_in_order h ≡ true → held (put (batches_of b.agent h) b) b.agent seq ≡ held (put h b) b.agent seq
held_put_own h b seq o = ap (λ k. held k b.agent seq) (sym (put_own h b o)) ∙ held_own b.agent seq (put h b)

-- ---- the rules

module _ (sheet : Sheet) (h k : Holding) where
  same_broken : (at : Position) (what : Record) → ((seq : ℕ) → held h at.agent seq ≡ held k at.agent seq) → broken_by sheet h at what ≡ broken_by sheet k at what
  same_broken at (Reads r) same = refl
  same_broken at (Amends seq index value) same =
      ap (λ o. if comes_earlier at seq index && is_fit_target value o then None else Some BadTarget)
      (ap (option_and_then (λ (x : Batch). option_and_then reading_of (slice_get x.records index))) (same seq))

  abbrev first_of : Option BrokenRule → Option BrokenRule → Option BrokenRule
  first_of o rest = elim o [ Some rule ↦ Some rule | None ↦ rest ]

  abbrev place_in : Batch → ℕ × Record → Placed
  place_in b e = record { place = record { agent = b.agent; seq = b.seq; index = e.0 }; what = e.1 }

  same_first_broken : (b : Batch) (es : List (ℕ × Record)) → ((seq : ℕ) → held h b.agent seq ≡ held k b.agent seq)
      → first_broken sheet h (map (place_in b) es) ≡ first_broken sheet k (map (place_in b) es)
  same_first_broken b [] same = refl
  same_first_broken b (x ∷ es) same =
      ap (λ o. first_of o (first_broken sheet h (map (place_in b) es))) (same_broken (place_in b x).place (place_in b x).what same)
      ∙ ap (first_of (broken_by sheet k (place_in b x).place (place_in b x).what)) (same_first_broken b es same)

-- what the journals do with a batch, by what was found of it
abbrev after_rules : World → Batch → Bool → Bool → Refusal → Result (Unit {0}) Refusal → Result ℕ Refusal → Result Outcome Refusal
after_rules w b known next wrong unbroken number = do
  _ ← holds_or known NoAgent
  _ ← holds_or next wrong
  _ ← unbroken
  k ← number
  Ok (Journaled k, with_packet (CarriesBatch b) (record w { journals = put w.journals b }))

-- ---- two worlds in which the agent journals by the same

module _ (w v : World) (b : Batch) (agree : AgreeAtAgent b.agent w v) where
  abbrev wanted : ℕ
  wanted = next_seq w.journals b.agent

  abbrev rules_of : Result (Unit {0}) Refusal
  rules_of = unless_broken (first_broken w.sheet (put w.journals b) (placed b))

  same_sequences : sequences_of b.agent v.journals ≡ sequences_of b.agent w.journals
  same_sequences = sym (sequences_own b.agent v.journals) ∙ (ap (sequences_of b.agent) agree.batches ∙ sequences_own b.agent w.journals)

  same_held : (seq : ℕ) → held (put v.journals b) b.agent seq ≡ held (put w.journals b) b.agent seq
  same_held seq =
      sym (held_put_own v.journals b seq agree.holding_too.in_order)
      ∙ (ap (λ h. held (put h b) b.agent seq) agree.batches ∙ held_put_own w.journals b seq agree.holding.in_order)

  same_rules : first_broken v.sheet (put v.journals b) (placed b) ≡ first_broken w.sheet (put w.journals b) (placed b)
  same_rules =
      ap (λ s. first_broken s (put v.journals b) (placed b)) agree.sheet
      ∙ same_first_broken w.sheet (put v.journals b) (put w.journals b) b (enumerate_from 0 b.records) same_held

  -- the same is found in both
  found_alike : on_batch v b ≡ after_rules v b (nat_le b.agent w.agents) (b.seq == wanted) (WrongSeq wanted) rules_of (next_packet v)
  found_alike =
      ap (λ n. after_rules v b (nat_le b.agent n) (b.seq == next_seq v.journals b.agent) (WrongSeq (next_seq v.journals b.agent)) (unless_broken (first_broken v.sheet (put v.journals b) (placed b))) (next_packet v)) agree.agents
      ∙ (ap (λ (ss : List ℕ). after_rules v b (nat_le b.agent w.agents) (b.seq == length ss + 1) (WrongSeq (length ss + 1)) (unless_broken (first_broken v.sheet (put v.journals b) (placed b))) (next_packet v)) same_sequences
      ∙ ap (λ f. after_rules v b (nat_le b.agent w.agents) (b.seq == wanted) (WrongSeq wanted) (unless_broken f) (next_packet v)) same_rules)

  abbrev Alike : Result Outcome Refusal → Result Outcome Refusal → Type 0
  Alike r s = SameJournalOf b.agent w v (or_refused w r) (or_refused v s)

  refused_alike : (e : Refusal) → Alike (Err e) (Err e)
  refused_alike e = record { reply = refl; batches = agree.batches; sent = drop-length v.packets ∙ sym (drop-length w.packets) }

  same_journal : (known next : Bool) (wrong : Refusal) (unbroken : Result (Unit {0}) Refusal)
      → Alike (after_rules w b known next wrong unbroken (Ok (length w.packets))) (after_rules v b known next wrong unbroken (Ok (length v.packets)))
  same_journal false next wrong unbroken = refused_alike NoAgent
  same_journal true false wrong unbroken = refused_alike wrong
  same_journal true true wrong (Err e) = refused_alike e
  same_journal true true wrong (Ok u) = record {
    reply = refl;
    batches = put_own v.journals b agree.holding_too.in_order ∙ (ap (λ h. put h b) agree.batches ∙ sym (put_own w.journals b agree.holding.in_order));
    sent = drop-append_seam v.packets (CarriesBatch b ∷ []) ∙ sym (drop-append_seam w.packets (CarriesBatch b ∷ []));
  }

  has_room : (x : World) → length x.packets < x.room → next_packet x ≡ Ok (length x.packets)
  has_room x room = cond-true (nat_lt (length x.packets) x.room) (Ok (length x.packets)) (Err WorldFull) (lt-ltb (length x.packets) x.room room)

  batch_alike : Alike (on_batch w b) (on_batch v b)
  batch_alike =
      subst (λ s. Alike (on_batch w b) s) (sym (found_alike ∙ ap (after_rules v b (nat_le b.agent w.agents) (b.seq == wanted) (WrongSeq wanted) rules_of) (has_room v agree.room_too)))
      (subst (λ r. Alike r (after_rules v b (nat_le b.agent w.agents) (b.seq == wanted) (WrongSeq wanted) rules_of (Ok (length v.packets))))
      (sym (ap (after_rules w b (nat_le b.agent w.agents) (b.seq == wanted) (WrongSeq wanted) rules_of) (has_room w agree.room)))
      (same_journal (nat_le b.agent w.agents) (b.seq == wanted) (WrongSeq wanted) rules_of))

-- a journal whose offer is that batch
stepped : (w : World) (offer : Offer) (b : Batch) → batch_of offer ≡ Ok b → step w (Journal offer) ≡ or_refused w (on_batch w b)
stepped w offer b is = ap (λ r. or_refused w (r >>= on_batch w)) is

pub journaled_alike : (w v : World) (offer : Offer) (b : Batch) → batch_of offer ≡ Ok b → AgreeAtAgent b.agent w v → SameJournalOf b.agent w v (step w (Journal offer)) (step v (Journal offer))
journaled_alike w v offer b is agree =
    subst (λ o. SameJournalOf b.agent w v o (step v (Journal offer))) (sym (stepped w offer b is))
    (subst (λ o. SameJournalOf b.agent w v (or_refused w (on_batch w b)) o) (sym (stepped v offer b is)) (batch_alike w v b agree))

-- ---- what stays

module _ (w : World) (b : Batch) where
  abbrev Only : Result Outcome Refusal → Type 0
  Only r = ChangesOnlyAgent b.agent w (or_refused w r)

  only_refused : (e : Refusal) → Only (Err e)
  only_refused e = record { sheet = refl; issuer = refl; agents = refl; room = refl; voters = refl; nodes = refl; packets = take-length w.packets; others = λ other apart. refl }

  only_journaled : (known next : Bool) (wrong : Refusal) (unbroken : Result (Unit {0}) Refusal) (number : Result ℕ Refusal) → Only (after_rules w b known next wrong unbroken number)
  only_journaled false next wrong unbroken number = only_refused NoAgent
  only_journaled true false wrong unbroken number = only_refused wrong
  only_journaled true true wrong (Err e) number = only_refused e
  only_journaled true true wrong (Ok u) (Err e) = only_refused e
  only_journaled true true wrong (Ok u) (Ok k) = record {
    sheet = refl;
    issuer = refl;
    agents = refl;
    room = refl;
    voters = refl;
    nodes = refl;
    packets = take-append_seam w.packets (CarriesBatch b ∷ []);
    others = λ other apart. put_other w.journals b other (ne_eqb b.agent other apart);
  }

pub changes_only : (w : World) (offer : Offer) (b : Batch) → batch_of offer ≡ Ok b → ChangesOnlyAgent b.agent w (step w (Journal offer))
changes_only w offer b is =
    subst (ChangesOnlyAgent b.agent w) (sym (stepped w offer b is))
    (only_journaled w b (nat_le b.agent w.agents) (b.seq == next_seq w.journals b.agent) (WrongSeq (next_seq w.journals b.agent)) (unless_broken (first_broken w.sheet (put w.journals b) (placed b))) (next_packet w))

pub bad_refused : (w : World) (offer : Offer) (r : Refusal) → batch_of offer ≡ Err r → step w (Journal offer) ≡ (Refused r, w)
bad_refused w offer r is = ap (λ x. or_refused w (x >>= on_batch w)) is
