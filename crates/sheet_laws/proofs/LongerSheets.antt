-- A sheet with more rows goes on from the one that it had been, and prices all that it did.
use Rattle.std.proofs.Common.{◌≡◌, ℕ, Bool, true, false, not, ◌&&◌, ◌||◌, List, [], ◌∷◌, filter, refl, sym, ap, subst, ◌∙◌, inl, inr, Option, Some, None, ℤ, ◌<ℤ◌, ◌≤ℤ◌, arith, option_map, Contains}
use Rattle.std.specs.Prelude.{All, find, int_le, int_lt, if◌then◌else◌}
use Rattle.std.specs.Option.{is_some}
use Rattle.std.proofs.lemmas.Bool.{and_parts, cond-true, cond-false, cases_Bool}
use Rattle.std.proofs.lemmas.Int.{ints}
use Rattle.std.proofs.lemmas.Option.{same_Some, none-some}
use Rattle.std.proofs.lemmas.List.Elements.{All-nil, All-cons, All-head, All-tail, All-contains, All-contains_itself, All-weaker, All-filter, filter_passes}
use Rattle.metering_model.specs.Dates.{day_of}
use Rattle.metering_model.specs.Batch.{is_priced}
use Rattle.metering_model.specs.BatchReading.{is_same}
use Rattle.metering_model.specs.Sheet.{PriceRow, Commitment, Region, Sheet}
use Rattle.metering_model.specs.PriceInForce.{later_of, latest, price_in_force, commitment_with, region_with, region_named}
use Rattle.metering_model.specs.JournalRules.{is_fit_commitment}
use Rattle.metering_model.specs.Row.{price_of, commitment_of}
use Rattle.metering_model.proofs.FieldLaws.{same_read}
use Rattle.metering_model.proofs.PriceLaws.{in_force_begun, none_in_force}
use Rattle.metering_model.proofs.SheetLaws.{latest_has}
use Rattle.sheet_laws.specs.Longer.{GoesOnFrom, NamesAlike, IsLonger, rows_before, rows_of_known, without_from}
use Rattle.sheet_laws.specs.Runs.{PricesAllOf}
use Rattle.sheet_laws.proofs.TwoRows.{in_force, fit_parts, same_commitment}

-- ---- lists

-- what passes a test that is stricter than another is found among what passes the other
filter_twice : {A : Type 0} (p q : A → Bool) → ((x : A) → p x ≡ true → q x ≡ true) → (xs : List A) → filter p (filter q xs) ≡ filter p xs
filter_twice p q stricter [] = refl
filter_twice p q stricter (x ∷ xs) = elim (cases_Bool (q x)) [
  | inl t ↦
      ap (filter p) (cond-true (q x) (x ∷ filter q xs) (filter q xs) t)
      ∙ ap (λ ys. if p x then x ∷ ys else ys) (filter_twice p q stricter xs)
  | inr f ↦
      ap (filter p) (cond-false (q x) (x ∷ filter q xs) (filter q xs) f)
      ∙ filter_twice p q stricter xs
      ∙ sym (cond-false (p x) (x ∷ filter p xs) (filter p xs) (fails x f))
]
  where
    fails : (x : _) → q x ≡ false → p x ≡ false
    fails x f = elim (cases_Bool (p x)) [ inl t ↦ absurd (let yes = stricter x t in cc) | inr n ↦ n ]

-- one filter behind another is one filter
filter_both : {A : Type 0} (p q r : A → Bool) → ((x : A) → (q x && p x) ≡ r x) → (xs : List A) → filter p (filter q xs) ≡ filter r xs
filter_both p q r both [] = refl
filter_both {A} p q r both (x ∷ xs) = by_tests (q x) (p x) (r x) (both x) refl (filter_both p q r both xs)
  where
    by_tests : (a b c : Bool) → (a && b) ≡ c → b ≡ p x → filter p (filter q xs) ≡ filter r xs → filter p (if a then x ∷ filter q xs else filter q xs) ≡ (if c then x ∷ filter r xs else filter r xs)
    by_tests false b c e f rest = rest ∙ ap (λ t. if t then x ∷ filter r xs else filter r xs) e
    by_tests true b c e f rest = ap (λ t. if t then x ∷ filter p (filter q xs) else filter p (filter q xs)) (sym f ∙ e) ∙ ap (λ (ys : List A). if c then x ∷ ys else ys) rest

keeps_all : {A : Type 0} (p : A → Bool) (xs : List A) → All (λ x. p x ≡ true) xs → filter p xs ≡ xs
keeps_all p [] all = refl
keeps_all {A} p (x ∷ xs) all =
    cond-true (p x) (x ∷ filter p xs) (filter p xs) (All-head (λ (y : A). p y ≡ true) x xs all)
    ∙ ap (λ (ys : List A). x ∷ ys) (keeps_all p xs (All-tail (λ (y : A). p y ≡ true) x xs all))

-- what is found is an element, and passes the test
found : {A : Type 0} (P : A → Type 0) (test : A → Bool) (xs : List A) (y : A) → All P xs → find test xs ≡ Some y → P y × (test y ≡ true)
found P test [] y all e = absurd (none-some y e)
found P test (x ∷ xs) y all e = elim (cases_Bool (test x)) [
  | inl t ↦ subst (λ z. P z × (test z ≡ true)) (same_Some x y (sym (cond-true (test x) (Some x) (find test xs) t) ∙ e)) (All-head P x xs all, t)
  | inr f ↦ found P test xs y (All-tail P x xs all) (sym (cond-false (test x) (Some x) (find test xs) f) ∙ e)
]

-- ---- prices

begun_before : (a b c : ℤ) → int_le a b ≡ true → b <ℤ c → int_lt a c ≡ true
begun_before a b c h k = grind (arith, ints)

through : (a b c : ℤ) → a ≤ℤ b → b ≤ℤ c → a ≤ℤ c
through a b c h k = grind (arith, ints)

first : (a b c : ℤ) → a <ℤ b → b ≤ℤ c → a <ℤ c
first a b c h k = grind (arith, ints)

never : (a b : ℤ) → a ≤ℤ b → b <ℤ a → ⊥
never a b h k = grind (arith, ints)

found_commitments : (old new : Sheet) → All (λ c. commitment_with new c.id ≡ Some c) old.commitments → (id : List ℕ) (c : Commitment) → commitment_with old id ≡ Some c → commitment_with new id ≡ Some c
found_commitments old new commitments id c e =
    let it = found (λ (d : Commitment). commitment_with new d.id ≡ Some d) (λ d. is_same d.id id) old.commitments c commitments e in
    ap (commitment_with new) (sym (same_read c.id id it.1)) ∙ it.0

-- ---- the latest of rows of which some begin before all others

later_first : (a b : ℤ) → a <ℤ b → int_lt a b ≡ true
later_first a b h = grind (arith, ints)

not_later : (a b : ℤ) → b <ℤ a → int_lt a b ≡ false
not_later a b h = grind (arith, ints)

later_not_none : (r : PriceRow) (o : Option PriceRow) → later_of r o ≡ None → ⊥
later_not_none r None e = none-some r (sym e)
later_not_none r (Some s) e = elim (cases_Bool (int_lt r.from s.from)) [
  | inl t ↦ none-some s (sym e ∙ cond-true (int_lt r.from s.from) (Some s) (Some r) t)
  | inr f ↦ none-some r (sym e ∙ cond-false (int_lt r.from s.from) (Some s) (Some r) f)
]

-- one that begins earlier is passed over
over_earlier : (y q : PriceRow) → y.from <ℤ q.from → later_of y (Some q) ≡ Some q
over_earlier y q early = cond-true (int_lt y.from q.from) (Some q) (Some y) (later_first y.from q.from early)

before_earlier : (y q : PriceRow) → q.from <ℤ y.from → later_of y (Some q) ≡ Some y
before_earlier y q early = cond-false (int_lt y.from q.from) (Some q) (Some y) (not_later y.from q.from early)

module _ (Of : PriceRow → Type 0) (known : PriceRow → Bool) (apart : (e n : PriceRow) → Of e → Of n → known e ≡ false → known n ≡ true → e.from <ℤ n.from) where
  abbrev IsAdded : PriceRow → Type 0
  IsAdded x = Of x × (known x ≡ false)

  -- where none is known, all are added
  all_added : (ys : List PriceRow) → All Of ys → latest (filter known ys) ≡ None → All IsAdded ys
  all_added [] all none = All-nil IsAdded
  all_added (y ∷ ys) all none = elim (cases_Bool (known y)) [
    | inl t ↦ absurd (later_not_none y (latest (filter known ys)) (sym (ap latest (cond-true (known y) (y ∷ filter known ys) (filter known ys) t)) ∙ none))
    | inr f ↦
        All-cons IsAdded y ys (All-head Of y ys all, f)
        (all_added ys (All-tail Of y ys all) (sym (ap latest (cond-false (known y) (y ∷ filter known ys) (filter known ys) f)) ∙ none))
  ]

  -- the latest of those that are known is the latest of all
  latest_known : (ys : List PriceRow) → All Of ys → (q : PriceRow) → latest (filter known ys) ≡ Some q → latest ys ≡ Some q
  latest_known [] all q e = e
  latest_known (y ∷ ys) all q e = elim (cases_Bool (known y)) [
    | inl t ↦ by_known t (latest (filter known ys)) refl (latest_known ys (All-tail Of y ys all)) (sym (ap latest (cond-true (known y) (y ∷ filter known ys) (filter known ys) t)) ∙ e)
    | inr f ↦
        let is = sym (ap latest (cond-false (known y) (y ∷ filter known ys) (filter known ys) f)) ∙ e in
        let of_q = latest_has Of (filter known ys) q (All-filter known Of ys (All-tail Of y ys all)) is in
        let known_q = latest_has (λ (x : PriceRow). known x ≡ true) (filter known ys) q (filter_passes known ys) is in
        ap (later_of y) (latest_known ys (All-tail Of y ys all) q is) ∙ over_earlier y q (apart y q (All-head Of y ys all) of_q f known_q)
  ]
    where
      by_rest : known y ≡ true → All IsAdded ys → (o : Option PriceRow) → latest ys ≡ o → later_of y o ≡ Some y
      by_rest t added None is = refl
      by_rest t added (Some x) is =
          let of_x = latest_has IsAdded ys x added is in
          before_earlier y x (apart x y of_x.0 (All-head Of y ys all) of_x.1 t)

      by_known : known y ≡ true → (o : Option PriceRow) → latest (filter known ys) ≡ o → ((s : PriceRow) → latest (filter known ys) ≡ Some s → latest ys ≡ Some s) →
          later_of y o ≡ Some q → later_of y (latest ys) ≡ Some q
      by_known t None is rest f = by_rest t (all_added ys (All-tail Of y ys all) is) (latest ys) refl ∙ f
      by_known t (Some s) is rest f = ap (later_of y) (rest s is) ∙ f

there : {A : Type 0} (o : Option A) → is_some o ≡ true → (x : A) × (o ≡ Some x)
there None e = absurd (cc)
there (Some x) e = (x, refl)

none : {A : Type 0} (o : Option A) → is_some o ≡ false → o ≡ None
none None e = refl
none (Some x) e = absurd (cc)

swapped : (a b c : Bool) → (c ≡ true → a ≡ true) → ((a && b) && c) ≡ (c && b)
swapped true true true h = refl
swapped true true false h = refl
swapped true false true h = refl
swapped true false false h = refl
swapped false b true h = let no : false ≡ true = h refl in absurd (cc)
swapped false b false h = refl

module _ (day : ℤ) (old new : Sheet) (same : rows_of_known day old new ≡ rows_before day old) (sku : List ℕ) (before : ℤ) (early : before <ℤ day) where
  abbrev has_begun : PriceRow → Bool
  has_begun r = is_same r.sku sku && int_le r.from before

  abbrev is_known : PriceRow → Bool
  is_known r = is_some (price_in_force old r.sku r.from)

  abbrev begins : PriceRow → Bool
  begins r = int_lt r.from day

  begins_then : (r : PriceRow) → has_begun r ≡ true → begins r ≡ true
  begins_then r h = begun_before r.from before day (and_parts (is_same r.sku sku) (int_le r.from before) h).1 early

  are_apart : (e n : PriceRow) → has_begun e ≡ true → has_begun n ≡ true → is_known e ≡ false → is_known n ≡ true → e.from <ℤ n.from
  are_apart e n of_e of_n unknown known =
      let e_is = same_read e.sku sku (and_parts (is_same e.sku sku) (int_le e.from before) of_e).0 in
      let n_is = same_read n.sku sku (and_parts (is_same n.sku sku) (int_le n.from before) of_n).0 in
      let m = there (price_in_force old n.sku n.from) known in
      let begun = in_force_begun n.sku n.from old m.0 m.1 in
      let after = none_in_force e.sku e.from old (none (price_in_force old e.sku e.from) unknown) in
      first (e.from) (m.0.from) (n.from) (All-contains (λ (q : PriceRow). q.sku ≡ e.sku → e.from <ℤ q.from) old.prices m.0 after begun.0 (begun.1 ∙ n_is ∙ sym e_is)) begun.2

  known_rows : filter is_known (filter has_begun new.prices) ≡ filter has_begun old.prices
  known_rows =
      filter_both is_known has_begun (λ r. has_begun r && is_known r) (λ r. refl) new.prices
      ∙ sym (filter_both has_begun (λ r. begins r && is_known r) (λ r. has_begun r && is_known r) (λ r. swapped (begins r) (is_known r) (has_begun r) (begins_then r)) new.prices)
      ∙ ap (filter has_begun) same
      ∙ filter_twice has_begun begins begins_then old.prices

  still_latest : (p : PriceRow) → price_in_force old sku before ≡ Some p → price_in_force new sku before ≡ Some p
  still_latest p e = latest_known (λ r. has_begun r ≡ true) is_known are_apart (filter has_begun new.prices) (filter_passes has_begun new.prices) p (ap latest known_rows ∙ e)

itself : (a : ℤ) → a ≤ℤ a
itself a = grind (arith, ints)

-- where a row begins, a price of its SKU is in force
known_itself : (sheet : Sheet) → All (λ r. is_some (price_in_force sheet r.sku r.from) ≡ true) sheet.prices
known_itself sheet =
    All-weaker (Contains sheet.prices) (λ (r : PriceRow). is_some (price_in_force sheet r.sku r.from) ≡ true) (λ r has. by_price r has (price_in_force sheet r.sku r.from) refl) sheet.prices
    (All-contains_itself sheet.prices)
  where
    by_price : (r : PriceRow) → Contains sheet.prices r → (o : Option PriceRow) → price_in_force sheet r.sku r.from ≡ o → is_some o ≡ true
    by_price r has (Some q) is = refl
    by_price r has None is =
        absurd (never r.from r.from (itself r.from) (All-contains (λ (q : PriceRow). q.sku ≡ r.sku → r.from <ℤ q.from) sheet.prices r (none_in_force r.sku r.from sheet is) has refl))

module _ (day : ℤ) (old new : Sheet) where
  going_on : new.base ≡ old.base → rows_of_known day old new ≡ rows_before day old → All (λ c. commitment_with new c.id ≡ Some c) old.commitments → GoesOnFrom day old new
  going_on base known commitments = record {
    base = base;
    prices = λ sku before p early e. ap (option_map without_from) (still_latest day old new known sku before early p e);
    commitments = found_commitments old new commitments;
  }

  -- the same rows from before the day, and none besides
  same_known : rows_before day new ≡ rows_before day old → rows_of_known day old new ≡ rows_before day old
  same_known same =
      sym (filter_both is_known begins (λ r. begins r && is_known r) (λ r. refl) new.prices)
      ∙ ap (filter is_known) same
      ∙ keeps_all is_known (filter begins old.prices) (All-filter begins (λ (r : PriceRow). is_known r ≡ true) old.prices (known_itself old))
    where
      is_known : PriceRow → Bool
      is_known r = is_some (price_in_force old r.sku r.from)

      begins : PriceRow → Bool
      begins r = int_lt r.from day

  -- whatever the new sheet has of later rows
  pub goes_on_by : new.base ≡ old.base → rows_before day new ≡ rows_before day old → All (λ c. commitment_with new c.id ≡ Some c) old.commitments → GoesOnFrom day old new
  goes_on_by base same commitments = going_on base (same_known same) commitments

module _ (day : ℤ) (old new : Sheet) (longer : IsLonger day old new) where
  pub goes_on : GoesOnFrom day old new
  goes_on = going_on day old new longer.base longer.before longer.commitments

  pub named : (id name : List ℕ) → region_named old id ≡ Some name → NamesAlike old new id
  named id name e = by_region (region_with old id) refl e ∙ sym e
    where
      by_region : (o : Option Region) → region_with old id ≡ o → option_map (λ (x : Region). x.name) o ≡ Some name → region_named new id ≡ Some name
      by_region None is f = absurd (none-some name f)
      by_region (Some x) is f =
          let it = found (λ (y : Region). region_named new y.id ≡ Some y.name) (λ y. is_same y.id id) old.regions x longer.regions is in
          ap (region_named new) (sym (same_read x.id id it.1)) ∙ it.0 ∙ f

  -- ---- what the old sheet prices

  still_in_force : (sku : List ℕ) (at : ℤ) (p : PriceRow) → price_in_force old sku at ≡ Some p → is_some (price_in_force new sku at) ≡ true
  still_in_force sku at p e = by_new (price_in_force new sku at) refl
    where
      by_new : (o : Option PriceRow) → price_in_force new sku at ≡ o → is_some o ≡ true
      by_new (Some q) is = refl
      by_new None is =
          let begun = in_force_begun sku at old p e in
          let k = begun.0 in
          let still = subst (λ (x : PriceRow). is_some (price_in_force new x.sku x.from) ≡ true) k.2 (longer.still k.0 p k.1) in
          let q = there (price_in_force new p.sku p.from) still in
          let other = in_force_begun p.sku p.from new q.0 q.1 in
          let l = other.0 in
          let late = subst (λ (x : PriceRow). x.sku ≡ sku → at <ℤ x.from) l.2 (none_in_force sku at new is l.0 q.0 l.1) (other.1 ∙ begun.1) in
          absurd (never q.0.from at (through q.0.from p.from at other.2 begun.2) late)

  pub prices_all : PricesAllOf old new
  prices_all r fit = by_priced (is_priced r.kind) refl
    where
      by_priced : (b : Bool) → is_priced r.kind ≡ b → (not b || (is_some (if b then price_in_force new r.key (day_of r.start) else None) && is_fit_commitment r (commitment_of new r))) ≡ true
      by_priced false e = refl
      by_priced true e =
          let p = in_force old r fit e in
          let has = still_in_force r.key (day_of r.start) p.0 p.1 in
          let commits = (fit_parts (is_priced r.kind) (is_some (price_of old r)) (is_fit_commitment r (commitment_of old r)) fit e).1 in
          let same = ap (is_fit_commitment r) (same_commitment day old new goes_on r fit) ∙ commits in
          rw has (rw same refl)
