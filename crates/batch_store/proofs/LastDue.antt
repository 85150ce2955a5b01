-- How far one agent's batches are due, and that this is the entry of the model's front.
use Rattle.std.proofs.Common.{◌≡◌, ℕ, suc, ◌+◌, ◌<◌, ◌≤◌, true, false, [], ◌∷◌, length, refl, sym, ap, subst, ◌∙◌, arith, Option, Some, None, ℤ, inl, inr, slice_index}
use Rattle.std.specs.Prelude.{slice_set, ◌-◌}
use Rattle.std.specs.List.{list_all}
use Rattle.std.specs.Option.{IsSomeAnd, option_map_or}
use Rattle.std.proofs.lemmas.Bool.{cases_lt, both_ways}
use Rattle.std.proofs.lemmas.List.{length-set}
use Rattle.metering_model.specs.Batch.{Batch}
use Rattle.metering_model.specs.Cut.{Cut, last_of}
use Rattle.metering_model.specs.Dates.{period_end}
use Rattle.metering_model.specs.Front.{starts_before, front}
use Rattle.metering_model.specs.Holding.{Holding, IsHolding, held}
use Rattle.metering_model.proofs.CutLaws.{last_of-set, last_of-set_other}
use Rattle.metering_model.proofs.Fronts.{front_goes_on, front_is_greatest, length-front}
use Rattle.metering_model.proofs.HoldingLaws.{held_place}
use Rattle.metering_model.proofs.PartLaws.{held_well}
use Rattle.batch_store.specs.Inner.Fronts.{is_due_by, StartsBefore, IsLastDue}

module _ (moment : ℤ) (h : Holding) (agent : ℕ) where
  pub is_due_by-absent : (seq : ℕ) → None ≡ held h agent seq → false ≡ is_due_by moment h agent seq
  is_due_by-absent seq at = ap (λ o. option_map_or (λ b. list_all (starts_before moment) b.records) o false) at

  pub is_due_by-held : (seq : ℕ) (b : Batch) → Some b ≡ held h agent seq → list_all (starts_before moment) b.records ≡ is_due_by moment h agent seq
  is_due_by-held seq b at = ap (λ o. option_map_or (λ b. list_all (starts_before moment) b.records) o false) at

  pub starts_where_due : (seq : ℕ) → is_due_by moment h agent seq ≡ true → StartsBefore moment h agent seq
  starts_where_due seq due = either (held h agent seq) due
    where
      either : (o : Option Batch) → option_map_or (λ b. list_all (starts_before moment) b.records) o false ≡ true → IsSomeAnd o (λ b. list_all (starts_before moment) b.records ≡ true)
      either None e = both_ways false refl e
      either (Some b) e = e

  pub late_where_not_due : (seq : ℕ) → is_due_by moment h agent seq ≡ false → StartsBefore moment h agent seq → ⊥
  late_where_not_due seq late = either (held h agent seq) late
    where
      either : (o : Option Batch) → option_map_or (λ b. list_all (starts_before moment) b.records) o false ≡ false → IsSomeAnd o (λ b. list_all (starts_before moment) b.records ≡ true) → ⊥
      either None e starts = starts
      either (Some b) e starts = both_ways _ e starts

  -- one more batch is due
  pub due_one_more : (after upto : ℕ) → ((s : ℕ) → after < s → s ≤ upto → StartsBefore moment h agent s) → StartsBefore moment h agent (upto + 1) → (s : ℕ) → after < s → s ≤ upto + 1 → StartsBefore moment h agent s
  due_one_more after upto due next s above within = elim (cases_lt upto s) [
    | inl last ↦ let same : upto + 1 ≡ s = omega arith in subst (λ x. StartsBefore moment h agent x) same next
    | inr earlier ↦ due s above earlier
  ]

  -- no batch stands behind 1,000,000
  pub late_beyond : (seq : ℕ) → IsHolding h → 1_000_000 < seq → StartsBefore moment h agent seq → ⊥
  late_beyond seq is beyond starts = either (held h agent seq) refl starts
    where
      either : (o : Option Batch) → held h agent seq ≡ o → IsSomeAnd o (λ b. list_all (starts_before moment) b.records ≡ true) → ⊥
      either None e s = s
      either (Some b) e s =
          let within = (held_well h agent seq b is.batches e).seq.1 in
          let place = (held_place h agent seq b e).1 in
          omega arith

-- The last due sequence of an agent is its entry in the front.
pub last_of-front : (base p : ℕ) (h : Holding) (cut : Cut) (agent last : ℕ) → 1 ≤ agent → agent ≤ length cut → IsLastDue (period_end base p) h agent (last_of cut agent) last → last_of (front base h cut p) agent ≡ last
last_of-front base p h cut agent last some within is =
    let least = front_is_greatest base p h cut agent last some within is.due in
    elim (cases_lt last (last_of (front base h cut p) agent)) [
      | inl more ↦ let grows = is.grows in absurd (is.next ((front_goes_on base p h cut).due agent (last + 1) (omega arith) (omega arith)))
      | inr equal ↦ omega arith
    ]

same_entries : (c d : Cut) → length c ≡ length d → ((i : ℕ) → i < length c → slice_index c i ≡ slice_index d i) → c ≡ d
same_entries [] [] size same = refl
same_entries [] (y ∷ d) size same = absurd (omega arith)
same_entries (x ∷ c) [] size same = absurd (omega arith)
same_entries (x ∷ c) (y ∷ d) size same = ap (λ z. z ∷ c) (same 0 (omega arith)) ∙ ap (λ ys. y ∷ ys) (same_entries c d (omega arith) (λ i less. same (suc i) (omega arith)))

-- A cut that has each agent's last due sequence is the front.
pub front_is : (base p : ℕ) (h : Holding) (cut to : Cut) → length to ≡ length cut → ((agent : ℕ) → 1 ≤ agent → agent ≤ length cut → IsLastDue (period_end base p) h agent (last_of cut agent) (last_of to agent)) → to ≡ front base h cut p
front_is base p h cut to size is =
    same_entries to (front base h cut p) (size ∙ sym (length-front base p h cut)) (λ i less. sym (last_of-front base p h cut (suc i) (slice_index to i) (omega arith) (omega arith) (is (suc i) (omega arith) (omega arith))))

-- The agents before one have their last due sequences.
pub record FrontSoFar (moment : ℤ) (h : Holding) (cut to : Cut) (before : ℕ) : Type 0 where
  pub size : length to ≡ length cut
  pub last : (agent : ℕ) → 1 ≤ agent → agent < before → IsLastDue moment h agent (last_of cut agent) (last_of to agent)

pub FrontSoFar-none : (moment : ℤ) (h : Holding) (cut to : Cut) → to ≡ cut → FrontSoFar moment h cut to 1
FrontSoFar-none moment h cut to same = record { size = ap length same; last = λ agent some less. absurd (omega arith) }

-- and one more, which is put
pub FrontSoFar-set : (moment : ℤ) (h : Holding) (cut to : Cut) (agent last : ℕ) → FrontSoFar moment h cut to agent → 1 ≤ agent → agent ≤ length cut → IsLastDue moment h agent (last_of cut agent) last → FrontSoFar moment h cut (slice_set to (agent - 1) last) (agent + 1)
FrontSoFar-set moment h cut to agent last so_far some within is = record {
  size = length-set to (agent - 1) last ∙ so_far.size;
  last = λ a low less. elim (cases_lt a agent) [
    | inl earlier ↦
        let kept = last_of-set_other to (agent - 1) last a (λ e. absurd (omega arith)) in
        subst (λ x. IsLastDue moment h a (last_of cut a) x) (sym kept) (so_far.last a low earlier)
    | inr here ↦
        let size = so_far.size in
        let same : agent ≡ a = omega arith in
        let index : agent - 1 + 1 ≡ agent = omega arith in
        let put : last_of (slice_set to (agent - 1) last) agent ≡ last = subst (λ x. last_of (slice_set to (agent - 1) last) x ≡ last) index (last_of-set to (agent - 1) last (omega arith)) in
        subst (λ x. IsLastDue moment h x (last_of cut x) (last_of (slice_set to (agent - 1) last) x)) same (subst (λ y. IsLastDue moment h agent (last_of cut agent) y) (sym put) is)
  ];
}

-- With all agents' it is the front.
pub FrontSoFar-all : (base p : ℕ) (h : Holding) (cut to : Cut) (before : ℕ) → FrontSoFar (period_end base p) h cut to before → length cut < before → to ≡ front base h cut p
FrontSoFar-all base p h cut to before so_far all = front_is base p h cut to so_far.size (λ agent some within. so_far.last agent some (omega arith))
