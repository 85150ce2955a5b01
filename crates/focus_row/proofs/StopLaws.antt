-- The rows that are left from a place on: what may be passed over, and what a batch gives.
use Rattle.std.proofs.Common.{◌≡◌, ℕ, zero, suc, ◌+◌, ◌<◌, ◌≤◌, Bool, true, false, ◌&&◌, List, [], ◌∷◌, ◌++◌, length, map, filter, refl, sym, ap, subst, ◌∙◌, arith, append-nil, append_assoc, Option, Some, None, inl, inr, cond, pos, ℤ, get_or}
use Rattle.std.specs.Prelude.{◌⊎◌, ◌≤ℤ◌, All, if◌then◌else◌, drop, nat_lt, nat_le, option_map, slice_get}
use Rattle.std.specs.List.{filter_map, cons_option, Contains}
use Rattle.std.specs.Option.{option_and_then}
use Rattle.std.proofs.lemmas.Bool.{cond-true, cond-false, cases_lt, cases_eq, and_parts, leb-true, le-ltb}
use Rattle.std.proofs.lemmas.Bool.Decides.{nat_tests}
use Rattle.std.proofs.lemmas.Int.{ints}
use Rattle.std.proofs.lemmas.List.{map-append, length-map, length-append}
use Rattle.std.proofs.lemmas.List.Elements.{All-head, All-tail, All-weaker, All-contains, filter_map-append}
use Rattle.metering_model.specs.Batch.{Batch, Record, Reading, Reads, Amends, is_priced}
use Rattle.metering_model.specs.Cut.{Cut, last_of}
use Rattle.metering_model.specs.Holding.{Holding, IsHolding, Position, Placed, placed, held, records_in_order, up_to, reading_at, reading_of}
use Rattle.metering_model.specs.ValueAtSequence.{value_at}
use Rattle.metering_model.specs.declared.ChargeClass.TheVariants.{Correction}
use Rattle.metering_model.specs.Row.{Row, row}
use Rattle.metering_model.specs.Rows.{PlacedRow, differ, row_of, row_of_reading, placed_row, rows}
use Rattle.metering_model.proofs.AgreementLaws.{last_of_grows, value_at-up_to}
use Rattle.metering_model.proofs.HoldingLaws.{IsHolding-up_to, held-up_to}
use Rattle.metering_model.proofs.ValueBounds.{all_filter_map, value_not_negative}
use Rattle.journal_rules.specs.Stores.{named_by, named_between, AreAmended}
use Rattle.journal_rules.specs.Inner.Left.{is_from, left, placed_from}
use Rattle.focus_row.specs.Inner.Left.{Between, MayBeCharged, rows_in, rows_left}
use Rattle.focus_row.specs.Inner.Places.{IsNextNamed, NoneNamed}
use Rattle.charge_row.specs.declared.columns.FocusRow.{FocusRow}
use Rattle.charge_row.specs.FocusRows.{model_row}
use Rattle.journal_rules.proofs.LeftLaws.{IsInCut, in_cut, left_all, left_first, left_next, left_none}
use Rattle.focus_row.proofs.BetweenLaws.{same_at_both}

-- ---- a reading up to the earlier cut

same_itself : (a : ℤ) → differ a a ≡ false
same_itself a = grind (arith, ints)

module _ (s : Between) (may : MayBeCharged s) where
  pub grows_at : (agent : ℕ) → last_of s.from agent ≤ last_of s.to agent
  grows_at agent = last_of_grows s.from s.to agent may.grows

  pub not_negative_at : (p : Position) (r : Reading) (upto : ℕ) → reading_at s.batches p ≡ Some r → is_priced r.kind ≡ true
      → p.seq ≤ last_of s.to p.agent → upto ≤ last_of s.to p.agent → pos 0 ≤ℤ value_at s.batches p upto
  not_negative_at p r upto found priced within low =
      let there : reading_at (up_to s.to s.batches) p ≡ Some r =
      ap (option_and_then (λ (b : Batch). option_and_then reading_of (slice_get b.records p.index))) (held-up_to s.to s.batches p.agent p.seq within) ∙ found in
      subst (λ v. pos 0 ≤ℤ v) (value_at-up_to s.to s.batches p upto low) (value_not_negative s.sheet (up_to s.to s.batches) p r there priced upto may.met)

  -- a reading up to the earlier cut that nothing names has no row
  pub no_row_unnamed : (p : Position) (r : Reading) → p.seq ≤ last_of s.from p.agent → (Contains (named_between s.batches s.from s.to) p → ⊥)
      → None ≡ row_of_reading s.sheet s.issuer s.batches s.period s.from s.to p r
  no_row_unnamed p r low unnamed =
      let was = value_at s.batches p (last_of s.from p.agent) in
      let now = value_at s.batches p (last_of s.to p.agent) in
      let same : differ was now ≡ false = ap (differ was) (sym (same_at_both s.batches s.from s.to p may.grows low unnamed)) ∙ same_itself was in
      sym (cond-false (nat_lt (last_of s.from p.agent) p.seq) _ _ (le-ltb (last_of s.from p.agent) p.seq low)
      ∙ cond-false (differ was now) _ None same)

-- a reading up to the earlier cut whose values differ is corrected from the one to the other
pub row_corrected : (s : Between) (p : Position) (r : Reading) (was now : ℤ) (charged : Row) → p.seq ≤ last_of s.from p.agent
    → was ≡ value_at s.batches p (last_of s.from p.agent) → now ≡ value_at s.batches p (last_of s.to p.agent) → differ was now ≡ true
    → charged ≡ row s.sheet s.issuer r s.period Correction was now → Some charged ≡ row_of_reading s.sheet s.issuer s.batches s.period s.from s.to p r
row_corrected s p r was now charged low is_was is_now other is =
    let from = value_at s.batches p (last_of s.from p.agent) in
    let to = value_at s.batches p (last_of s.to p.agent) in
    let apart : differ from to ≡ true = subst (λ v. differ v to ≡ true) is_was (subst (λ v. differ was v ≡ true) is_now other) in
    let at_cuts : charged ≡ row s.sheet s.issuer r s.period Correction from to =
    subst (λ v. charged ≡ row s.sheet s.issuer r s.period Correction v to) is_was (subst (λ v. charged ≡ row s.sheet s.issuer r s.period Correction was v) is_now is) in
    sym (cond-false (nat_lt (last_of s.from p.agent) p.seq) _ _ (le-ltb (last_of s.from p.agent) p.seq low)
    ∙ (cond-true (differ from to) _ None apart ∙ ap Some (sym at_cuts)))

-- ---- what a batch gives

abbrev row_at : Between → Placed → Option Row
row_at s x = row_of s.sheet s.issuer s.batches s.period s.from s.to x.place x.what

module _ (s : Between) where
  rows_in_first : (x : Placed) (xs : List Placed) (o : Option Row) → row_at s x ≡ o → rows_in s (x ∷ xs) ≡ cons_option o (rows_in s xs)
  rows_in_first x xs None e = ap (λ p. map (λ y. y.row) (cons_option (option_map (λ (r : Row). let y : PlacedRow = record { place = x.place; row = r } in y) p) (filter_map (placed_row s.sheet s.issuer s.batches s.period s.from s.to) xs))) e
  rows_in_first x xs (Some r) e = ap (λ p. map (λ y. y.row) (cons_option (option_map (λ (r : Row). let y : PlacedRow = record { place = x.place; row = r } in y) p) (filter_map (placed_row s.sheet s.issuer s.batches s.period s.from s.to) xs))) e

  pub rows_in-append : (xs ys : List Placed) → rows_in s (xs ++ ys) ≡ rows_in s xs ++ rows_in s ys
  rows_in-append xs ys =
      let f = placed_row s.sheet s.issuer s.batches s.period s.from s.to in
      ap (map (λ y. y.row)) (filter_map-append f xs ys) ∙ map-append (λ (y : PlacedRow). y.row) (filter_map f xs) (filter_map f ys)

  -- one more record, by its row
  pub one_more_record : (a q i : ℕ) (r : Record) (before after : List Record) (o : Option Row) → before ≡ r ∷ after
      → o ≡ row_of s.sheet s.issuer s.batches s.period s.from s.to (record { agent = a; seq = q; index = i }) r
      → rows_in s (placed_from a q i before) ≡ cons_option o (rows_in s (placed_from a q (i + 1) after))
  one_more_record a q i r before after o e f =
      ap (λ rs. rows_in s (placed_from a q i rs)) e
      ∙ rows_in_first (record { place = record { agent = a; seq = q; index = i }; what = r }) (placed_from a q (i + 1) after) o (sym f)

  pub rows_first : IsHolding s.batches → (a q : ℕ) (b : Batch) → held s.batches a q ≡ Some b → q ≤ last_of s.to a
      → rows_left s a q ≡ rows_in s (placed b) ++ rows_left s a (q + 1)
  unfolding rows_left
  rows_first ok a q b found within =
      let order = (IsHolding-up_to s.batches s.to ok).in_order in
      ap (λ k. rows_in s (records_in_order k)) (left_first (up_to s.to s.batches) a q b order (held-up_to s.to s.batches a q within ∙ found))
      ∙ rows_in-append (placed b) (records_in_order (left a (q + 1) (up_to s.to s.batches)))

  pub rows_start : IsHolding s.batches → rows_left s 1 1 ≡ rows s.sheet s.issuer s.batches s.period s.from s.to
  unfolding rows_left
  rows_start ok = ap (λ k. rows_in s (records_in_order k)) (left_all s.batches s.to ok)

  pub rows_end : IsHolding s.batches → (a q : ℕ) → length s.to < a → rows_left s a q ≡ []
  unfolding rows_left
  rows_end ok a q past = ap (λ k. rows_in s (records_in_order k)) (left_none s.batches s.to ok a q past)

  rows_next : IsHolding s.batches → (a q : ℕ) → last_of s.to a < q → rows_left s a q ≡ rows_left s (a + 1) 1
  unfolding rows_left
  rows_next ok a q past = ap (λ k. rows_in s (records_in_order k)) (left_next s.batches s.to ok a q past)

-- ---- what is passed over

cond_some : {A : Type 0} (t : Bool) (x y : A) → (if t then Some x else None) ≡ Some y → (t ≡ true) × (x ≡ y)
cond_some true x y e = (refl, cc)
cond_some false x y e = absurd (cc)

named_low : (from to : Cut) (at : Position) (what : Record) (p : Position) → named_by from to at what ≡ Some p → p.seq ≤ last_of from p.agent
named_low from to at (Reads r) p e = absurd (cc)
named_low from to at (Amends seq index value) p e =
    let target : Position = record { agent = at.agent; seq = seq; index = index } in
    let parts = cond_some (nat_lt (last_of from at.agent) at.seq && nat_le at.seq (last_of to at.agent) && nat_le seq (last_of from at.agent)) target p e in
    let tests = and_parts (nat_lt (last_of from at.agent) at.seq && nat_le at.seq (last_of to at.agent)) (nat_le seq (last_of from at.agent)) parts.0 in
    subst (λ (q : Position). q.seq ≤ last_of from q.agent) parts.1 (leb-true seq (last_of from at.agent) tests.1)

all_named_low : (h : Holding) (from to : Cut) → All (λ p. p.seq ≤ last_of from p.agent) (named_between h from to)
all_named_low h from to = all_filter_map (λ (p : Position). p.seq ≤ last_of from p.agent) (λ (x : Placed). named_by from to x.place x.what) (records_in_order h) (λ k d inside p e. let x = get_or (records_in_order h) k d in named_low from to x.place x.what p e)

module _ (s : Between) (may : MayBeCharged s) (ps : List Position) (am : AreAmended s.batches s.from s.to ps) where
  -- whether a batch may be passed over: it is up to the earlier cut, and nothing names a place in it
  IsSilent : Batch → Type 0
  IsSilent b = (b.seq ≤ last_of s.from b.agent) × ((index : ℕ) → Contains ps (record { agent = b.agent; seq = b.seq; index = index }) → ⊥)

  no_rows : (a q i : ℕ) (rs : List Record) → q ≤ last_of s.from a → ((index : ℕ) → Contains ps (record { agent = a; seq = q; index = index }) → ⊥)
      → rows_in s (placed_from a q i rs) ≡ []
  no_rows a q i [] low unnamed = refl
  no_rows a q i (Amends seq index value ∷ rs) low unnamed = no_rows a q (i + 1) rs low unnamed
  no_rows a q i (Reads r ∷ rs) low unnamed =
      let p : Position = record { agent = a; seq = q; index = i } in
      let none = no_row_unnamed s may p r low (λ has. unnamed i ((am.each p).1 has)) in
      one_more_record s a q i (Reads r) (Reads r ∷ rs) rs None refl none ∙ no_rows a q (i + 1) rs low unnamed

  passed_over : (f g : Batch → Bool) (k : Holding) → All (λ b. (f b ≡ g b) ⊎ IsSilent b) k → rows_in s (records_in_order (filter f k)) ≡ rows_in s (records_in_order (filter g k))
  unfolding IsSilent
  passed_over f g [] all = refl
  passed_over f g (b ∷ k) all =
      let P = λ (b : Batch). (f b ≡ g b) ⊎ IsSilent b in
      let rest = passed_over f g k (All-tail P b k all) in
      elim (All-head P b k all) [
        | inl same ↦ ap (λ t. rows_in s (records_in_order (cond t (b ∷ filter f k) (filter f k)))) same ∙ with_first (g b) rest
        | inr silent ↦
            let none = no_rows b.agent b.seq 0 b.records silent.0 silent.1 in
            without none (f b) (filter f k) ∙ (rest ∙ sym (without none (g b) (filter g k)))
      ]
    where
      with_first : (t : Bool) → rows_in s (records_in_order (filter f k)) ≡ rows_in s (records_in_order (filter g k))
          → rows_in s (records_in_order (cond t (b ∷ filter f k) (filter f k))) ≡ rows_in s (records_in_order (cond t (b ∷ filter g k) (filter g k)))
      with_first true e =
          rows_in-append s (placed b) (records_in_order (filter f k))
          ∙ (ap (λ rs. rows_in s (placed b) ++ rs) e ∙ sym (rows_in-append s (placed b) (records_in_order (filter g k))))
      with_first false e = e

      without : rows_in s (placed b) ≡ [] → (t : Bool) (k : Holding) → rows_in s (records_in_order (cond t (b ∷ k) k)) ≡ rows_in s (records_in_order k)
      without none true k = rows_in-append s (placed b) (records_in_order k) ∙ ap (λ rs. rs ++ rows_in s (records_in_order k)) none
      without none false k = refl

  skips : (a q a' q' : ℕ) → ((b : Batch) → IsInCut s.to b → (is_from a q b ≡ is_from a' q' b) ⊎ IsSilent b) → rows_left s a q ≡ rows_left s a' q'
  unfolding rows_left
  skips a q a' q' each =
      passed_over (is_from a q) (is_from a' q') (up_to s.to s.batches)
      (All-weaker (IsInCut s.to) (λ b. (is_from a q b ≡ is_from a' q' b) ⊎ IsSilent b) each (up_to s.to s.batches) (in_cut s.batches s.to may.stored.is_holding))

  same_tests : (a q n : ℕ) (b : Batch) → q ≤ n → (b.agent ≡ a → q ≤ b.seq → b.seq < n → ⊥) → is_from a n b ≡ is_from a q b
  same_tests a q n b less other = grind (arith, nat_tests)

  -- nothing is lost between a sequence and a later one where all batches between are silent
  skip_to : (a q n : ℕ) → q ≤ n → ((b : Batch) → IsInCut s.to b → b.agent ≡ a → q ≤ b.seq → b.seq < n → IsSilent b) → rows_left s a n ≡ rows_left s a q
  skip_to a q n less silent = skips a n a q by_batch
    where
      by_batch : (b : Batch) → IsInCut s.to b → (is_from a n b ≡ is_from a q b) ⊎ IsSilent b
      by_batch b is = elim (cases_eq b.agent a) [
        | inr other ↦ inl (same_tests a q n b less (λ e low high. other e))
        | inl own ↦ elim (cases_lt b.seq q) [
          | inl below ↦ inl (same_tests a q n b less (λ e low high. omega arith))
          | inr from ↦ elim (cases_lt b.seq n) [
            | inr above ↦ inl (same_tests a q n b less (λ e low high. omega arith))
            | inl between ↦ inr (silent b is own from between)
          ]
        ]
      ]

  pub skip_to_named : (a q n : ℕ) → IsNextNamed ps a q n → (n ≤ last_of s.from a) × (rows_left s a n ≡ rows_left s a q)
  unfolding IsSilent
  skip_to_named a q n next =
      let low : next.place.seq ≤ last_of s.from next.place.agent = All-contains (λ (p : Position). p.seq ≤ last_of s.from p.agent) (named_between s.batches s.from s.to) next.place (all_named_low s.batches s.from s.to) ((am.each next.place).0 next.named) in
      let same : last_of s.from next.place.agent ≡ last_of s.from a = ap (last_of s.from) next.of_agent in
      let batch = next.of_batch in
      let within : n ≤ last_of s.from a = omega arith in (
        within,
        skip_to a q n next.not_before (λ b is own from less.
            let last : last_of s.from b.agent ≡ last_of s.from a = ap (last_of s.from) own in
            (omega arith, λ index has. let least = next.least _ has own from in omega arith)),
      )

  pub skip_unnamed : (a q n : ℕ) → NoneNamed ps a q → q ≤ n → (q < n → n ≤ last_of s.from a + 1) → rows_left s a n ≡ rows_left s a q
  unfolding IsSilent
  skip_unnamed a q n none less near = skip_to a q n less (λ b is own from below.
      let last : last_of s.from b.agent ≡ last_of s.from a = ap (last_of s.from) own in
      let bound = near (omega arith) in
      (omega arith, λ index has. none.none _ has own from))

  pub skip_agent : (a q n : ℕ) → NoneNamed ps a q → q ≤ n → (q < n → n ≤ last_of s.from a + 1) → last_of s.to a < n → rows_left s (a + 1) 1 ≡ rows_left s a q
  skip_agent a q n none less near past = sym (rows_next s may.stored.is_holding a n past) ∙ skip_unnamed a q n none less near

-- ---- a walk over the records of a batch

-- the record at an index is the first of those from there on
pub left_at : {A : Type 0} (xs : List A) (i : ℕ) (x : A) → slice_get xs i ≡ Some x → drop i xs ≡ x ∷ drop (i + 1) xs
left_at [] i x e = absurd (cc)
left_at (y ∷ xs) zero x e = let same : y ≡ x = cc in ap (λ z. z ∷ xs) same
left_at (y ∷ xs) (suc i) x e =
    let next : suc i + 1 ≡ suc (i + 1) = omega arith in
    left_at xs i x e ∙ ap (λ n. x ∷ drop n (y ∷ xs)) (sym next)

-- the row of a record stands before the others, if there is one
with_option : (xs : List Row) (o : Option Row) (ys : List Row) → (xs ++ cons_option o []) ++ ys ≡ xs ++ cons_option o ys
with_option xs None ys = ap (λ zs. zs ++ ys) (append-nil xs)
with_option xs (Some x) ys = append_assoc xs (x ∷ []) ys

-- one more record: its row, if it has one, stands behind the others
pub next_record : (s : Between) (a q i : ℕ) (r : Record) (before after : List Record) → before ≡ r ∷ after → (all : List Row) (xs ys : List FocusRow)
    → map model_row ys ≡ map model_row xs ++ cons_option (row_of s.sheet s.issuer s.batches s.period s.from s.to (record { agent = a; seq = q; index = i }) r) []
    → map model_row xs ++ rows_in s (placed_from a q i before) ≡ all → map model_row ys ++ rows_in s (placed_from a q (i + 1) after) ≡ all
next_record s a q i r before after first all xs ys added so_far =
    let o = row_of s.sheet s.issuer s.batches s.period s.from s.to (record { agent = a; seq = q; index = i }) r in
    let left = rows_in s (placed_from a q (i + 1) after) in
    ap (λ zs. zs ++ left) added
    ∙ (with_option (map model_row xs) o left
    ∙ (ap (λ zs. map model_row xs ++ zs) (sym (one_more_record s a q i r before after o first refl)) ∙ so_far))

-- one more record: it gives one row more at most
pub one_row_more : (o : Option Row) (xs ys : List FocusRow) → map model_row ys ≡ map model_row xs ++ cons_option o [] → length ys ≤ length xs + 1
one_row_more o xs ys added =
    let both : length ys ≡ length xs + length (cons_option o []) =
    sym (length-map ys model_row) ∙ (ap length added
    ∙ (length-append (map model_row xs) (cons_option o []) ∙ ap (λ n. n + length (cons_option o [])) (length-map xs model_row))) in
    let few = one_at_most o in
    omega arith
  where
    one_at_most : (p : Option Row) → length (cons_option p []) ≤ 1
    one_at_most None = omega arith
    one_at_most (Some x) = omega arith
