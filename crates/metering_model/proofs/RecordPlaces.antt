-- A holding has one record at each place at most.
use Rattle.std.proofs.Common.{◌≡◌, ℕ, zero, suc, ◌+◌, ◌<◌, Bool, true, false, ◌&&◌, List, [], ◌∷◌, ◌++◌, map, filter, Option, Some, None, refl, sym, ap, ap₂, ◌∙◌, arith, inl, inr}
use Rattle.std.specs.Prelude.{slice_get, ◌==◌}
use Rattle.std.specs.List.{enumerate_from}
use Rattle.std.specs.Option.{option_and_then}
use Rattle.std.proofs.lemmas.Bool.{and_right, cond-true, cond-false, cases_Bool, eq-eqb, ne_eqb}
use Rattle.std.proofs.lemmas.List.Elements.{filter-append}
use Rattle.std.proofs.lemmas.List.{append-nil}
use Rattle.metering_model.specs.Batch.{Batch, Record, Reading, Reads, Amends}
use Rattle.metering_model.specs.Holding.{Holding, IsHolding, is_in_order, is_batch_at, held, Position, Placed, placed, records_in_order, is_same_place, reading_of, reading_at}
use Rattle.metering_model.proofs.BatchOrder.{place_of_batch, in_order_parts, held_none-after}

-- a record of a batch, placed
abbrev pub place_in : Batch → ℕ × Record → Placed
place_in b e = record { place = record { agent = b.agent; seq = b.seq; index = e.0 }; what = e.1 }

-- the record at an index, placed; and that of a batch, if there is a batch
abbrev pub place_record : Position → Option Record → List Placed
place_record p None = []
place_record p (Some what) = record { place = p; what = what } ∷ []

abbrev pub record_at : Holding → Position → Option Record
record_at h p = option_and_then (λ b. slice_get b.records p.index) (held h p.agent p.seq)

pub same_position : (p : Position) (a s i : ℕ) → a ≡ p.agent → s ≡ p.seq → i ≡ p.index → ◌≡◌ {A = Position} (record { agent = a; seq = s; index = i }) p
same_position p a s i ea es ei =
    ap (λ (x : ℕ). let q : Position = record { agent = x; seq = s; index = i } in q) ea
    ∙ (ap (λ (x : ℕ). let q : Position = record { agent = p.agent; seq = x; index = i } in q) es
    ∙ ap (λ (x : ℕ). let q : Position = record { agent = p.agent; seq = p.seq; index = x } in q) ei)

-- whether a record stands at a place
abbrev pub stands_at : Position → Placed → Bool
stands_at p x = is_same_place x.place p

-- a batch of another place has no record there
none_there : (p : Position) (b : Batch) → is_batch_at p.agent p.seq b ≡ false → (es : List (ℕ × Record)) → filter (stands_at p) (map (place_in b) es) ≡ []
none_there p b other [] = refl
none_there p b other (e ∷ es) =
    cond-false (((b.agent == p.agent) && (b.seq == p.seq)) && (e.0 == p.index)) (place_in b e ∷ filter (stands_at p) (map (place_in b) es)) (filter (stands_at p) (map (place_in b) es)) (and_left _ _ other)
    ∙ none_there p b other es
  where
    and_left : (x y : Bool) → x ≡ false → (x && y) ≡ false
    and_left x y h = ap (λ t. t && y) h

-- a record of a batch of that place stands there if it has the index
same_index : (p : Position) (b : Batch) (n : ℕ) → is_batch_at p.agent p.seq b ≡ true → (((b.agent == p.agent) && (b.seq == p.seq)) && (n == p.index)) ≡ (n == p.index)
same_index p b n at = ap (λ t. t && (n == p.index)) at

-- records with greater indexes are none of that place
none_behind : (p : Position) (b : Batch) (n : ℕ) → p.index < n → (rs : List Record) → filter (stands_at p) (map (place_in b) (enumerate_from n rs)) ≡ []
none_behind p b n past [] = refl
none_behind p b n past (r ∷ rs) =
    let rest = none_behind p b (n + 1) (omega arith) rs in
    cond-false (((b.agent == p.agent) && (b.seq == p.seq)) && (n == p.index)) (place_in b (n, r) ∷ filter (stands_at p) (map (place_in b) (enumerate_from (n + 1) rs))) (filter (stands_at p) (map (place_in b) (enumerate_from (n + 1) rs)))
    (and_right _ (n == p.index) (ne_eqb n p.index (λ e. omega arith)))
    ∙ rest

-- the record of an index, counted from n
at_index : (p : Position) (b : Batch) → is_batch_at p.agent p.seq b ≡ true → (n k : ℕ) → p.index ≡ n + k → (rs : List Record) → filter (stands_at p) (map (place_in b) (enumerate_from n rs)) ≡ place_record p (slice_get rs k)
at_index p b at n k e [] = refl
at_index p b at n zero e (r ∷ rs) =
    let here = same_index p b n at ∙ eq-eqb n p.index (omega arith) in
    let place = place_of_batch p.agent p.seq b at in
    let index : n ≡ p.index = omega arith in
    cond-true (((b.agent == p.agent) && (b.seq == p.seq)) && (n == p.index)) (place_in b (n, r) ∷ filter (stands_at p) (map (place_in b) (enumerate_from (n + 1) rs))) (filter (stands_at p) (map (place_in b) (enumerate_from (n + 1) rs))) here
    ∙ (ap (λ xs. place_in b (n, r) ∷ xs) (none_behind p b (n + 1) (omega arith) rs)
    ∙ ap (λ (q : Position). record { place = q; what = r } ∷ []) (same_position p b.agent b.seq n place.0 place.1 index))
at_index p b at n (suc k) e (r ∷ rs) =
    let past = same_index p b n at ∙ ne_eqb n p.index (λ same. omega arith) in
    cond-false (((b.agent == p.agent) && (b.seq == p.seq)) && (n == p.index)) (place_in b (n, r) ∷ filter (stands_at p) (map (place_in b) (enumerate_from (n + 1) rs))) (filter (stands_at p) (map (place_in b) (enumerate_from (n + 1) rs))) past
    ∙ at_index p b at (n + 1) k (omega arith) rs

-- in a holding the records at a place are the one that is looked up there
pub records_at : (h : Holding) → is_in_order h ≡ true → (p : Position) → filter (stands_at p) (records_in_order h) ≡ place_record p (record_at h p)
records_at [] o p = refl
records_at (b ∷ h) o p =
    let parts = in_order_parts b h o in
    let rest = records_at h parts.1 p in
    let joined = filter-append (stands_at p) (placed b) (records_in_order h) in
    let looked = λ (o : Option Batch). place_record p (option_and_then (λ c. slice_get c.records p.index) o) in
    elim (cases_Bool (is_batch_at p.agent p.seq b)) [
      | inl at ↦
          let nothing = ap looked (held_none-after b h p.agent p.seq parts.0 at) in
          joined
          ∙ (ap₂ ◌++◌ (at_index p b at 0 p.index (omega arith) b.records) (rest ∙ nothing)
          ∙ (append-nil (place_record p (slice_get b.records p.index))
          ∙ sym (ap looked (cond-true (is_batch_at p.agent p.seq b) (Some b) (held h p.agent p.seq) at))))
      | inr other ↦
          joined
          ∙ (ap₂ ◌++◌ (none_there p b other (enumerate_from 0 b.records)) rest
          ∙ sym (ap looked (cond-false (is_batch_at p.agent p.seq b) (Some b) (held h p.agent p.seq) other)))
    ]

-- where a reading is looked up, the record is that reading
pub record_found : (h : Holding) (p : Position) (r : Reading) → reading_at h p ≡ Some r → record_at h p ≡ Some (Reads r)
record_found h p r found = is_reading (held h p.agent p.seq) found
  where
    is_read : (o : Option Record) → option_and_then reading_of o ≡ Some r → o ≡ Some (Reads r)
    is_read None e = absurd (cc)
    is_read (Some (Reads s)) e = let same : s ≡ r = cc in ap (λ x. Some (Reads x)) same
    is_read (Some (Amends seq index value)) e = let none : ◌≡◌ {A = Option Reading} None (Some r) = e in absurd (cc)

    is_reading : (o : Option Batch) → option_and_then (λ b. option_and_then reading_of (slice_get b.records p.index)) o ≡ Some r → option_and_then (λ b. slice_get b.records p.index) o ≡ Some (Reads r)
    is_reading None e = absurd (cc)
    is_reading (Some b) e = is_read (slice_get b.records p.index) e

-- so the records at its place are that reading
pub reading_there : (h : Holding) (p : Position) (r : Reading) → IsHolding h → reading_at h p ≡ Some r → filter (stands_at p) (records_in_order h) ≡ record { place = p; what = Reads r } ∷ []
reading_there h p r ok found = records_at h ok.in_order p ∙ ap (place_record p) (record_found h p r found)
