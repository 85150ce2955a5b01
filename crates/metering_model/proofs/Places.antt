-- Each record of a holding has a place of its own, and each reading between two cuts a row.
use Rattle.std.proofs.Common.{◌≡◌, ℕ, zero, suc, ◌+◌, ◌<◌, ◌≤◌, Bool, true, not, ◌&&◌, List, [], ◌∷◌, ◌++◌, map, refl, sym, ap, subst, ◌∙◌, arith, Option, Some, None, option_map, inl, inr, nat_lt, pos}
use Rattle.std.specs.Prelude.{◌==◌, slice_get}
use Rattle.std.specs.List.{list_all, enumerate_from, filter_map, cons_option}
use Rattle.std.specs.Option.{option_and_then}
use Rattle.std.proofs.lemmas.Bool.{and_parts, and_from, lt-ltb, cases_Bool, cond-true, cond-false, both_ways, eq-eqb, not-true}
use Rattle.std.proofs.lemmas.Bool.Decides.{nat_tests}
use Rattle.std.proofs.lemmas.Option.{same_Some, none-some, slice_get-map}
use Rattle.metering_model.specs.Batch.{Batch, Record, Reading, Reads, Amends}
use Rattle.metering_model.specs.Sheet.{Sheet, Issuer}
use Rattle.metering_model.specs.Cut.{Cut, last_of}
use Rattle.metering_model.specs.Holding.{Holding, IsHolding, comes_before, is_in_order, is_batch_at, held, Position, Placed, placed, records_in_order, is_same_place, reading_of, reading_at, up_to}
use Rattle.metering_model.specs.ValueAtSequence.{value_at}
use Rattle.metering_model.specs.declared.ChargeClass.TheVariants.{New}
use Rattle.metering_model.specs.Row.{Row, row}
use Rattle.metering_model.specs.Rows.{row_of, PlacedRow, placed_row, placed_rows}
use Rattle.metering_model.proofs.BatchOrder.{in_order_parts, place_of_batch}
use Rattle.metering_model.proofs.HoldingLaws.{IsHolding-up_to, held-up_to}
use Rattle.metering_model.proofs.NewRows.{row_parts}

-- ---- places

abbrev differs : Position → Position → Bool
differs p q = not (is_same_place p q)

abbrev are_apart : List Position → Bool
are_apart [] = true
are_apart (p ∷ ps) = list_all (differs p) ps && are_apart ps

same_place_itself : (p : Position) → is_same_place p p ≡ true
same_place_itself p = and_from ((p.agent == p.agent) && (p.seq == p.seq)) (p.index == p.index) (and_from (p.agent == p.agent) (p.seq == p.seq) (eq-eqb p.agent p.agent refl) (eq-eqb p.seq p.seq refl)) (eq-eqb p.index p.index refl)

all_at : (test : Position → Bool) (ps : List Position) (k : ℕ) (p : Position) → list_all test ps ≡ true → slice_get ps k ≡ Some p → test p ≡ true
all_at test [] k p h e = absurd (none-some p e)
all_at test (q ∷ ps) zero p h e = subst (λ x. test x ≡ true) (same_Some q p e) (and_parts (test q) (list_all test ps) h).0
all_at test (q ∷ ps) (suc k) p h e = all_at test ps k p (and_parts (test q) (list_all test ps) h).1 e

not_the_same : (ps : List Position) (k : ℕ) (p q : Position) → list_all (differs p) ps ≡ true → slice_get ps k ≡ Some q → p ≡ q → ⊥
not_the_same ps k p q h e same = both_ways (is_same_place p p) (not-true _ (all_at (differs p) ps k p h (e ∙ ap Some (sym same)))) (same_place_itself p)

same_index : (ps : List Position) (k l : ℕ) (p q : Position) → are_apart ps ≡ true → slice_get ps k ≡ Some p → slice_get ps l ≡ Some q → p ≡ q → k ≡ l
same_index [] k l p q h e f same = absurd (none-some p e)
same_index (x ∷ ps) zero zero p q h e f same = refl
same_index (x ∷ ps) zero (suc l) p q h e f same = absurd (not_the_same ps l x q (and_parts (list_all (differs x) ps) (are_apart ps) h).0 f (same_Some x p e ∙ same))
same_index (x ∷ ps) (suc k) zero p q h e f same = absurd (not_the_same ps k x p (and_parts (list_all (differs x) ps) (are_apart ps) h).0 e (same_Some x q f ∙ sym same))
same_index (x ∷ ps) (suc k) (suc l) p q h e f same = ap (λ n. suc n) (same_index ps k l p q (and_parts (list_all (differs x) ps) (are_apart ps) h).1 e f same)

-- ---- the places of a holding

abbrev place_in : Batch → ℕ × Record → Placed
place_in b e = record { place = record { agent = b.agent; seq = b.seq; index = e.0 }; what = e.1 }

abbrev records_from : Batch → ℕ → List Record → List Placed
records_from b i rs = map (place_in b) (enumerate_from i rs)

abbrev places : List Placed → List Position
places xs = map (λ x. x.place) xs

later_index : (p : Position) (b : Batch) (i : ℕ) → p.index < i → differs p (record { agent = b.agent; seq = b.seq; index = i }) ≡ true
later_index p b i less = grind (arith, nat_tests)

later_batch : (p : Position) (b c : Batch) (i : ℕ) → p.agent ≡ b.agent → p.seq ≡ b.seq → comes_before b c ≡ true → differs p (record { agent = c.agent; seq = c.seq; index = i }) ≡ true
later_batch p b c i e f before = grind (arith, nat_tests)

differs_from_later : (p : Position) (b : Batch) (i : ℕ) (rs : List Record) → p.index < i → list_all (differs p) (places (records_from b i rs)) ≡ true
differs_from_later p b i [] less = refl
differs_from_later p b i (r ∷ rs) less =
    and_from (differs p (record { agent = b.agent; seq = b.seq; index = i })) (list_all (differs p) (places (records_from b (i + 1) rs))) (later_index p b i less) (differs_from_later p b (i + 1) rs (omega arith))

apart_in_batch : (b : Batch) (i : ℕ) (rs : List Record) → are_apart (places (records_from b i rs)) ≡ true
apart_in_batch b i [] = refl
apart_in_batch b i (r ∷ rs) =
    let here = differs_from_later (record { agent = b.agent; seq = b.seq; index = i }) b (i + 1) rs (omega arith) in
    and_from (list_all (differs (record { agent = b.agent; seq = b.seq; index = i })) (places (records_from b (i + 1) rs))) (are_apart (places (records_from b (i + 1) rs))) here (apart_in_batch b (i + 1) rs)

differs_from_batch : (p : Position) (b c : Batch) (i : ℕ) (rs : List Record) → p.agent ≡ b.agent → p.seq ≡ b.seq → comes_before b c ≡ true → list_all (differs p) (places (records_from c i rs)) ≡ true
differs_from_batch p b c i [] e f before = refl
differs_from_batch p b c i (r ∷ rs) e f before =
    and_from (differs p (record { agent = c.agent; seq = c.seq; index = i })) (list_all (differs p) (places (records_from c (i + 1) rs))) (later_batch p b c i e f before) (differs_from_batch p b c (i + 1) rs e f before)

all_places_append : (test : Position → Bool) (xs ys : List Placed) → list_all test (places xs) ≡ true → list_all test (places ys) ≡ true → list_all test (places (xs ++ ys)) ≡ true
all_places_append test [] ys h k = k
all_places_append test (x ∷ xs) ys h k = let parts = and_parts (test x.place) (list_all test (places xs)) h in and_from (test x.place) (list_all test (places (xs ++ ys))) parts.0 (all_places_append test xs ys parts.1 k)

differs_from_all : (p : Position) (b : Batch) (h : Holding) → p.agent ≡ b.agent → p.seq ≡ b.seq → list_all (comes_before b) h ≡ true → list_all (differs p) (places (records_in_order h)) ≡ true
differs_from_all p b [] e f before = refl
differs_from_all p b (c ∷ h) e f before =
    let parts = and_parts (comes_before b c) (list_all (comes_before b) h) before in
    all_places_append (differs p) (placed c) (records_in_order h) (differs_from_batch p b c 0 c.records e f parts.0) (differs_from_all p b h e f parts.1)

apart_append : (b : Batch) (i : ℕ) (rs : List Record) (h : Holding) → list_all (comes_before b) h ≡ true → are_apart (places (records_in_order h)) ≡ true → are_apart (places (records_from b i rs ++ records_in_order h)) ≡ true
apart_append b i [] h before rest = rest
apart_append b i (r ∷ rs) h before rest =
    let p : Position = record { agent = b.agent; seq = b.seq; index = i } in
    let own = differs_from_later p b (i + 1) rs (omega arith) in
    let others = differs_from_all p b h refl refl before in
    and_from (list_all (differs p) (places (records_from b (i + 1) rs ++ records_in_order h))) (are_apart (places (records_from b (i + 1) rs ++ records_in_order h)))
    (all_places_append (differs p) (records_from b (i + 1) rs) (records_in_order h) own others) (apart_append b (i + 1) rs h before rest)

pub records_apart : (h : Holding) → is_in_order h ≡ true → are_apart (places (records_in_order h)) ≡ true
records_apart [] o = refl
records_apart (b ∷ h) o =
    let parts = in_order_parts b h o in apart_append b 0 b.records h parts.0 (records_apart h parts.1)

-- ---- rows keep their places

abbrev row_places : List PlacedRow → List Position
row_places ys = map (λ y. y.place) ys

module _ (f : Placed → Option PlacedRow) (keeps : (x : Placed) (y : PlacedRow) → f x ≡ Some y → x.place ≡ y.place) where
  rows_differ : (p : Position) (xs : List Placed) → list_all (differs p) (places xs) ≡ true → list_all (differs p) (row_places (filter_map f xs)) ≡ true
  rows_differ p [] h = refl
  rows_differ p (x ∷ xs) h =
      let parts = and_parts (differs p x.place) (list_all (differs p) (places xs)) h in
      by_row (f x) refl parts.0 (rows_differ p xs parts.1)
    where
      by_row : (o : Option PlacedRow) → f x ≡ o → differs p x.place ≡ true → list_all (differs p) (row_places (filter_map f xs)) ≡ true → list_all (differs p) (row_places (cons_option o (filter_map f xs))) ≡ true
      by_row None e d rest = rest
      by_row (Some y) e d rest = and_from (differs p y.place) (list_all (differs p) (row_places (filter_map f xs))) (subst (λ q. differs p q ≡ true) (keeps x y e) d) rest

  rows_apart : (xs : List Placed) → are_apart (places xs) ≡ true → are_apart (row_places (filter_map f xs)) ≡ true
  rows_apart [] h = refl
  rows_apart (x ∷ xs) h =
      let parts = and_parts (list_all (differs x.place) (places xs)) (are_apart (places xs)) h in
      by_row (f x) refl (rows_differ x.place xs parts.0) (rows_apart xs parts.1)
    where
      by_row : (o : Option PlacedRow) → f x ≡ o → list_all (differs x.place) (row_places (filter_map f xs)) ≡ true → are_apart (row_places (filter_map f xs)) ≡ true → are_apart (row_places (cons_option o (filter_map f xs))) ≡ true
      by_row None e d rest = rest
      by_row (Some y) e d rest = and_from (list_all (differs y.place) (row_places (filter_map f xs))) (are_apart (row_places (filter_map f xs))) (subst (λ q. list_all (differs q) (row_places (filter_map f xs)) ≡ true) (keeps x y e) d) rest

-- two rows of one period at one place are one
pub same_row_index : (sheet : Sheet) (issuer : Issuer) (h : Holding) (period : ℕ) (from to : Cut) (k l : ℕ) (x y : PlacedRow) → IsHolding h →
    slice_get (placed_rows sheet issuer h period from to) k ≡ Some x → slice_get (placed_rows sheet issuer h period from to) l ≡ Some y → x.place ≡ y.place → k ≡ l
same_row_index sheet issuer h period from to k l x y is e f same =
    let rs = placed_rows sheet issuer h period from to in
    let at = slice_get-map (λ (y : PlacedRow). y.place) rs in
    same_index (row_places rs) k l x.place y.place
    (rows_apart (placed_row sheet issuer h period from to) (λ z y e. (row_parts sheet issuer h period from to z y e).0) (records_in_order (up_to to h)) (records_apart (up_to to h) (IsHolding-up_to h to is).in_order))
    (at k ∙ ap (option_map (λ (y : PlacedRow). y.place)) e) (at l ∙ ap (option_map (λ (y : PlacedRow). y.place)) f) same

-- ---- each reading between the cuts has a row

abbrev Has : {A : Type 0} → List A → A → Type 0
Has xs x = (k : ℕ) × (slice_get xs k ≡ Some x)

has_left : {A : Type 0} (xs ys : List A) (x : A) → Has xs x → Has (xs ++ ys) x
has_left [] ys x h = absurd (none-some x h.1)
has_left (z ∷ xs) ys x (zero, e) = (0, e)
has_left (z ∷ xs) ys x (suc k, e) = let rest = has_left xs ys x (k, e) in (suc rest.0, rest.1)

has_right : {A : Type 0} (xs ys : List A) (x : A) → Has ys x → Has (xs ++ ys) x
has_right [] ys x h = h
has_right (z ∷ xs) ys x h = let rest = has_right xs ys x h in (suc rest.0, rest.1)

has_record : (b : Batch) (i : ℕ) (rs : List Record) (k : ℕ) (r : Record) → slice_get rs k ≡ Some r → Has (records_from b i rs) (place_in b (i + k, r))
has_record b i [] k r e = absurd (none-some r e)
has_record b i (x ∷ rs) zero r e = let same : i ≡ i + 0 = omega arith in (0, ap Some (ap (λ (y : Record). place_in b (i, y)) (same_Some x r e) ∙ ap (λ n. place_in b (n, r)) same))
has_record b i (x ∷ rs) (suc k) r e =
    let rest = has_record b (i + 1) rs k r e in
    let same : i + 1 + k ≡ i + suc k = omega arith in
    (suc rest.0, rest.1 ∙ ap (λ n. Some (place_in b (n, r))) same)

abbrev placed_at : ℕ → ℕ → ℕ → Record → Placed
placed_at agent seq index r = record { place = record { agent = agent; seq = seq; index = index }; what = r }

has_in_order : (h : Holding) (agent seq index : ℕ) (b : Batch) (r : Record) → held h agent seq ≡ Some b → slice_get b.records index ≡ Some r → Has (records_in_order h) (record { place = record { agent = agent; seq = seq; index = index }; what = r })
has_in_order [] agent seq index b r e f = absurd (none-some b e)
has_in_order (c ∷ h) agent seq index b r e f = elim (cases_Bool (is_batch_at agent seq c)) [
  | inl at ↦
      let same : c ≡ b = same_Some c b (sym (cond-true (is_batch_at agent seq c) (Some c) (held h agent seq) at) ∙ e) in
      let place = place_of_batch agent seq c at in
      let here = has_record c 0 c.records index r (subst (λ (x : Batch). slice_get x.records index ≡ Some r) (sym same) f) in
      let zero_more : 0 + index ≡ index = omega arith in
      has_left (placed c) (records_in_order h) _ (
        here.0,
        here.1
            ∙ (ap (λ n. Some (place_in c (n, r))) zero_more
            ∙ (ap (λ (a : ℕ). Some (placed_at a c.seq index r)) place.0
            ∙ ap (λ (s : ℕ). Some (placed_at agent s index r)) place.1)),
      )
  | inr past ↦ has_right (placed c) (records_in_order h) _ (has_in_order h agent seq index b r (sym (cond-false (is_batch_at agent seq c) (Some c) (held h agent seq) past) ∙ e) f)
]

has_filtered : (f : Placed → Option PlacedRow) (xs : List Placed) (x : Placed) (y : PlacedRow) → Has xs x → f x ≡ Some y → Has (filter_map f xs) y
has_filtered f [] x y h e = absurd (none-some x h.1)
has_filtered f (z ∷ xs) x y (zero, i) e = by_row (f z) (ap f (same_Some z x i) ∙ e)
  where
    by_row : (o : Option PlacedRow) → o ≡ Some y → Has (cons_option o (filter_map f xs)) y
    by_row None g = absurd (none-some y g)
    by_row (Some w) g = (0, g)
has_filtered f (z ∷ xs) x y (suc k, i) e = by_row (f z) (has_filtered f xs x y (k, i) e)
  where
    by_row : (o : Option PlacedRow) → Has (filter_map f xs) y → Has (cons_option o (filter_map f xs)) y
    by_row None rest = rest
    by_row (Some w) rest = (suc rest.0, rest.1)

pub record HasNewRow (sheet : Sheet) (issuer : Issuer) (h : Holding) (period : ℕ) (from to : Cut) (at : Position) : Type 0 where
  pub index : ℕ
  pub placed_row : PlacedRow
  pub is : slice_get (placed_rows sheet issuer h period from to) index ≡ Some placed_row
  pub new : placed_row.row.charge_class ≡ None
  pub place : placed_row.place ≡ at

module _ (sheet : Sheet) (issuer : Issuer) (h : Holding) (period : ℕ) (from to : Cut) where
  new_row_is : (at : Position) (r : Reading) → last_of from at.agent < at.seq → row_of sheet issuer h period from to at (Reads r) ≡ Some (row sheet issuer r period New (pos 0) (value_at h at (last_of to at.agent)))
  new_row_is at r above = cond-true (nat_lt (last_of from at.agent) at.seq) _ _ (lt-ltb _ _ above)

  pub has_new_row : (at : Position) (r : Reading) → reading_at h at ≡ Some r → last_of from at.agent < at.seq → at.seq ≤ last_of to at.agent → HasNewRow sheet issuer h period from to at
  has_new_row at r e above within = by_batch (held h at.agent at.seq) refl e
    where
      reading_is : (x : Record) → reading_of x ≡ Some r → x ≡ Reads r
      reading_is (Reads y) g = cc
      reading_is (Amends s i v) g = absurd (none-some r g)

      by_record : (b : Batch) → held h at.agent at.seq ≡ Some b → (o : Option Record) → slice_get b.records at.index ≡ o → option_and_then reading_of o ≡ Some r → HasNewRow sheet issuer h period from to at
      by_record b found None f g = absurd (none-some r g)
      by_record b found (Some x) f g =
          let record_is = f ∙ ap Some (reading_is x g) in
          let source = has_in_order (up_to to h) at.agent at.seq at.index b (Reads r) (held-up_to to h at.agent at.seq within ∙ found) record_is in
          let made : PlacedRow = record { place = at; row = row sheet issuer r period New (pos 0) (value_at h at (last_of to at.agent)) } in
          let gives : placed_row sheet issuer h period from to (record { place = at; what = Reads r }) ≡ Some made = ap (option_map (λ (y : Row). record { place = at; row = y })) (new_row_is at r above) in
          let has = has_filtered (placed_row sheet issuer h period from to) (records_in_order (up_to to h)) (record { place = at; what = Reads r }) made source gives in
          record { index = has.0; placed_row = made; is = has.1; new = refl; place = refl }

      by_batch : (o : Option Batch) → held h at.agent at.seq ≡ o → option_and_then (λ b. option_and_then reading_of (slice_get b.records at.index)) o ≡ Some r → HasNewRow sheet issuer h period from to at
      by_batch None found g = absurd (none-some r g)
      by_batch (Some b) found g = by_record b found (slice_get b.records at.index) refl g
