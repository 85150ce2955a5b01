-- A reading is given a value by its own batch, so that its value at each sequence from its own on is what some batch gives.
use Rattle.std.proofs.Common.{◌≡◌, ℕ, zero, suc, ◌+◌, ◌-◌, ◌<◌, ◌≤◌, Bool, true, false, List, [], ◌∷◌, map, refl, sym, ap, subst, ◌∙◌, arith, Option, Some, None, ℤ, pos, unwrap_or, is_some}
use Rattle.std.specs.Prelude.{nat_lt, slice_get, ◌↔◌, IsSome, IfSome}
use Rattle.std.specs.List.{enumerate_from, filter_map, cons_option, last_or}
use Rattle.std.specs.Option.{option_or, option_and_then, option_map}
use Rattle.std.proofs.lemmas.Bool.{cond-true, cond-false, lt-ltb, le-ltb}
use Rattle.metering_model.specs.Batch.{Batch, Record, Reading, Reads, Amends}
use Rattle.metering_model.specs.Holding.{Holding, IsHolding, Position, Placed, held, is_same_place, reading_of, reading_at}
use Rattle.metering_model.specs.ValueAtSequence.{value_given_by, value_at}
use Rattle.metering_model.proofs.HoldingLaws.{held_place}
use Rattle.metering_model.proofs.PartLaws.{held_well}
use Rattle.metering_model.proofs.RecordPlaces.{same_position}
use Rattle.metering_model.proofs.ValueBounds.{same_place_itself}
use Rattle.batch_view.specs.Kept.{kind_in, value_given_in}
use Rattle.batch_store.specs.Inner.Values.{last_given}
use Rattle.batch_store.proofs.LastGiven.{is_some-last_or, found_at, last_given-held}

abbrev place_in : Batch → ℕ × Record → Placed
place_in b e = record { place = record { agent = b.agent; seq = b.seq; index = e.0 }; what = e.1 }

-- the values of a batch's records from index n on
abbrev values_from : Position → Batch → ℕ → List Record → List ℤ
values_from p b n rs = filter_map (value_given_by p) (map (place_in b) (enumerate_from n rs))

given_by_reading : (p : Position) (b : Batch) (n k : ℕ) (rs : List Record) (o : Option ℤ) → p.agent ≡ b.agent → p.seq ≡ b.seq → p.index ≡ n + k → is_some (option_and_then reading_of (slice_get rs k)) ≡ true
    → is_some (last_or o (values_from p b n rs)) ≡ true
given_by_reading p b n k [] o agent seq index there = absurd (cc)
given_by_reading p b n zero (Amends s i v ∷ rs) o agent seq index there = absurd (cc)
given_by_reading p b n zero (Reads r ∷ rs) o agent seq index there =
    let here : ◌≡◌ {A = Position} (record { agent = b.agent; seq = b.seq; index = n }) p = same_position p b.agent b.seq n (sym agent) (sym seq) (omega arith) in
    let given : value_given_by p (place_in b (n, Reads r)) ≡ Some r.value = ap (λ q. value_given_by p (record { place = q; what = Reads r })) here ∙ cond-true (is_same_place p p) (Some r.value) None (same_place_itself p) in
    subst (λ v. is_some (last_or o (cons_option v (values_from p b (n + 1) rs))) ≡ true) (sym given) (is_some-last_or (Some r.value) (values_from p b (n + 1) rs) refl)
given_by_reading p b n (suc k) (x ∷ rs) o agent seq index there = by_first (value_given_by p (place_in b (n, x))) (λ q. given_by_reading p b (n + 1) k rs q agent seq (omega arith) there)
  where
    by_first : (v : Option ℤ) → ((q : Option ℤ) → is_some (last_or q (values_from p b (n + 1) rs)) ≡ true) → is_some (last_or o (cons_option v (values_from p b (n + 1) rs))) ≡ true
    by_first None rest = rest o
    by_first (Some v) rest = rest (Some v)

-- a reading has a kind, and nothing else has one
kind_is : (b : Batch) (index : ℕ) → is_some (kind_in b index) ≡ is_some (option_and_then reading_of (slice_get b.records index))
kind_is b index = of_reading (option_and_then reading_of (slice_get b.records index))
  where
    of_reading : (o : Option Reading) → is_some (option_map (λ r. r.kind) o) ≡ is_some o
    of_reading None = refl
    of_reading (Some r) = refl

-- what a reading's own batch gives it
pub own_gives : (h : Holding) (p : Position) (b : Batch) → Some b ≡ held h p.agent p.seq → is_some (kind_in b p.index) ≡ true → is_some (value_given_in b p.seq p.index) ≡ true
own_gives h p b at there =
    let place = held_place h p.agent p.seq b (sym at) in
    given_by_reading (record { agent = b.agent; seq = p.seq; index = p.index }) b 0 p.index b.records None refl (sym place.1) (omega arith) (sym (kind_is b p.index) ∙ there)

-- ---- whether there is a reading

pub reading-absent : (h : Holding) (p : Position) → None ≡ held h p.agent p.seq → is_some (reading_at h p) ≡ false
reading-absent h p at = ap (λ o. is_some (option_and_then (λ b. option_and_then reading_of (slice_get b.records p.index)) o)) (sym at)

pub reading-held : (h : Holding) (p : Position) (b : Batch) → Some b ≡ held h p.agent p.seq → is_some (reading_at h p) ≡ is_some (kind_in b p.index)
reading-held h p b at =
    ap (λ o. is_some (option_and_then (λ b. option_and_then reading_of (slice_get b.records p.index)) o)) (sym at) ∙ sym (kind_is b p.index)

-- ---- its value

pub value-before : (h : Holding) (p : Position) (upto : ℕ) → upto < p.seq → pos 0 ≡ value_at h p upto
value-before h p upto less = sym (cond-true (nat_lt upto p.seq) (pos 0) (unwrap_or (last_given h p upto) (pos 0)) (lt-ltb upto p.seq less))

value-given : (h : Holding) (p : Position) (upto : ℕ) (v : ℤ) → p.seq ≤ upto → last_given h p upto ≡ Some v → v ≡ value_at h p upto
value-given h p upto v least given = sym (cond-false (nat_lt upto p.seq) (pos 0) (unwrap_or (last_given h p upto) (pos 0)) (le-ltb upto p.seq least) ∙ ap (λ o. unwrap_or o (pos 0)) given)

-- ---- an answer of `value_at`

pub seq-within : (h : Holding) (p : Position) (b : Batch) → IsHolding h → Some b ≡ held h p.agent p.seq → (0 < p.seq) × (p.seq ≤ 1_000_000)
seq-within h p b is at =
    let well = (held_well h p.agent p.seq b is.batches (sym at)).seq in
    let place = (held_place h p.agent p.seq b (sym at)).1 in
    (omega (arith, well.0, place), omega (arith, well.1, place))

-- it is there just where a reading is,
pub there-where : (h : Holding) (p : Position) (v : Option ℤ) (t : Bool) → is_some v ≡ t → is_some (reading_at h p) ≡ t → IsSome v ↔ (is_some (reading_at h p) ≡ true)
there-where h p v t given there = ((λ some. there ∙ (sym given ∙ some)), (λ is. given ∙ (sym there ∙ is)))

-- and the value of the last record,
pub value-where : (h : Holding) (p : Position) (upto : ℕ) (v q : Option ℤ) → p.seq ≤ upto → last_given h p upto ≡ option_or v q → IfSome v (λ value. value ≡ value_at h p upto)
value-where h p upto None q least given = tt
value-where h p upto (Some v) q least given = value-given h p upto v least given

pub zero-where : (h : Holding) (p : Position) (upto : ℕ) (v : Option ℤ) → upto < p.seq → v ≡ Some (pos 0) → IfSome v (λ value. value ≡ value_at h p upto)
zero-where h p upto v less is = subst (λ o. IfSome o (λ value. value ≡ value_at h p upto)) (sym is) (value-before h p upto less)

-- which the reading's own batch gives where none behind it does.
pub own-last : (h : Holding) (p : Position) (upto : ℕ) (b : Batch) (later v q : Option ℤ) → IsHolding h → Some b ≡ held h p.agent p.seq → is_some (kind_in b p.index) ≡ true → last_given h p upto ≡ option_or later (last_given h p p.seq) → is_some later ≡ false → v ≡ value_given_in b p.seq p.index
    → last_given h p upto ≡ option_or v q
own-last h p upto b later v q is at there so_far none value =
    so_far ∙ (not_later later none ∙ found_at h p p.seq p.seq b v q is (seq-within h p b is at).0 refl at value (ap is_some value ∙ own_gives h p b at there))
  where
    not_later : (o : Option ℤ) → is_some o ≡ false → option_or o (last_given h p p.seq) ≡ last_given h p p.seq
    not_later None e = refl
    not_later (Some x) e = absurd (cc)

-- ---- the reading of a batch that is held

-- The record of a reading that is there is in the batch that is held,
pub record_held : (h : Holding) (p : Position) (b : Batch) (r : Reading) → held h p.agent p.seq ≡ Some b → reading_at h p ≡ Some r → slice_get b.records p.index ≡ Some (Reads r)
record_held h p b r at found = from_record (slice_get b.records p.index) (sym (ap (option_and_then (λ (x : Batch). option_and_then reading_of (slice_get x.records p.index))) at) ∙ found)
  where
    from_record : (o : Option Record) → option_and_then reading_of o ≡ Some r → o ≡ Some (Reads r)
    from_record None e = absurd (cc)
    from_record (Some (Reads x)) e = ap (option_map Reads) e
    from_record (Some (Amends s i v)) e = absurd (cc)

own_some : (p : Position) (b : Batch) (r : Reading) → p.agent ≡ b.agent → p.seq ≡ b.seq → slice_get b.records p.index ≡ Some (Reads r) → is_some (value_given_in b p.seq p.index) ≡ true
own_some p b r agent seq got =
    given_by_reading (record { agent = b.agent; seq = p.seq; index = p.index }) b 0 p.index b.records None refl seq (omega arith) (ap (λ o. is_some (option_and_then reading_of o)) got)

-- and what was given up to its own sequence, that batch gave it.
pub own_given : (h : Holding) (p : Position) (b : Batch) (r : Reading) → IsHolding h → held h p.agent p.seq ≡ Some b → slice_get b.records p.index ≡ Some (Reads r) → last_given h p p.seq ≡ value_given_in b p.seq p.index
own_given h p b r is at got =
    let place = held_place h p.agent p.seq b at in
    let first = (held_well h p.agent p.seq b is.batches at).seq.0 in
    let next : p.seq ≡ p.seq - 1 + 1 = omega (arith, first, place.1) in
    ap (last_given h p) next
    ∙ (last_given-held h p (p.seq - 1) b is (subst (λ n. Some b ≡ held h p.agent n) next (sym at))
    ∙ some_or (value_given_in b p.seq p.index) (last_given h p (p.seq - 1)) (own_some p b r (sym place.0) (sym place.1) got))
  where
    some_or : (o q : Option ℤ) → is_some o ≡ true → option_or o q ≡ o
    some_or None q e = absurd (cc)
    some_or (Some v) q e = refl
