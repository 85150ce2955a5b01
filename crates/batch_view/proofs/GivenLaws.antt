-- The value that the last record on a reading gives it, by where that record stands.
use Rattle.std.proofs.Common.{◌≡◌, ℕ, zero, suc, ◌+◌, ◌<◌, ◌≤◌, ◌==◌, ◌&&◌, Bool, true, false, List, [], ◌∷◌, length, map, Option, Some, None, ℤ, All, MatchOption, get_or, refl, sym, ap, subst, ◌∙◌, arith}
use Rattle.std.specs.List.{slice_get, filter_map, enumerate_from, cons_option, last_or, Contains}
use Rattle.std.proofs.lemmas.Bool.{eqb-true, eq-eqb, and_parts, and_from}
use Rattle.std.proofs.lemmas.List.Sorted.{Contains-permutation, IsPermutation-sym}
use Rattle.metering_model.specs.Batch.{Batch, Record, Reading, Reads, Amends}
use Rattle.metering_model.specs.Holding.{is_same_place}
use Rattle.metering_model.specs.ValueAtSequence.{value_given, value_given_by}
use Rattle.batch_view.specs.Kept.{amendment_of, amendments_in, AreAmendmentsOf, value_given_in}
use Rattle.batch_view.specs.Inner.Amended.{Names, IsLastNamed}
use Rattle.batch_view.specs.Inner.Given.{HasReading, LacksReading}
use Rattle.batch_view.specs.declared.owned.Amendment.{Amendment}

-- ---- places

same_place : (agent seq index s i : ℕ) → seq ≡ s → index ≡ i
    → is_same_place (record { agent = agent; seq = seq; index = index }) (record { agent = agent; seq = s; index = i }) ≡ true
same_place agent seq index s i e f = and_from _ _ (and_from _ _ (eq-eqb agent agent refl) (eq-eqb seq s e)) (eq-eqb index i f)

other_place : (agent seq index s i : ℕ) → ((seq ≡ s) × (index ≡ i) → ⊥)
    → is_same_place (record { agent = agent; seq = seq; index = index }) (record { agent = agent; seq = s; index = i }) ≡ false
other_place agent seq index s i other = by_test _ refl
  where
    by_test : (t : Bool) → ((agent == agent) && (seq == s) && (index == i)) ≡ t → ((agent == agent) && (seq == s) && (index == i)) ≡ false
    by_test false e = e
    by_test true e =
        let parts = and_parts _ _ e in
        absurd (other (eqb-true _ _ (and_parts _ _ parts.0).1, eqb-true _ _ parts.1))

module _ (b : Batch) (seq index : ℕ) where
  abbrev given : ℕ → Record → Option ℤ
  given k r = value_given (record { agent = b.agent; seq = seq; index = index }) (record { agent = b.agent; seq = b.seq; index = k }) r

  abbrev all_given : ℕ → List Record → List ℤ
  all_given n rs =
      filter_map (value_given_by (record { agent = b.agent; seq = seq; index = index }))
      (map (λ e. record { place = record { agent = b.agent; seq = b.seq; index = e.0 }; what = e.1 }) (enumerate_from n rs))

  -- the record gives the reading a value
  abbrev Gives : ℕ → Record → Type 0
  Gives k (Reads r) = (seq ≡ b.seq) × (index ≡ k)
  Gives k (Amends s i v) = (seq ≡ s) × (index ≡ i)

  abbrev worth : Record → ℤ
  worth (Reads r) = r.value
  worth (Amends s i v) = v

  gives : (k : ℕ) (r : Record) → Gives k r → given k r ≡ Some (worth r)
  gives k (Reads r) h = rw (same_place b.agent seq index b.seq k h.0 h.1) refl
  gives k (Amends s i v) h = rw (same_place b.agent seq index s i h.0 h.1) refl

  gives_none : (k : ℕ) (r : Record) → (Gives k r → ⊥) → given k r ≡ None
  gives_none k (Reads r) h = rw (other_place b.agent seq index b.seq k h) refl
  gives_none k (Amends s i v) h = rw (other_place b.agent seq index s i h) refl

  -- ---- the last one that gives a value

  none_given : (n : ℕ) (rs : List Record) (o : Option ℤ) → ((k : ℕ) (r : Record) → slice_get rs k ≡ Some r → given (n + k) r ≡ None) → last_or o (all_given n rs) ≡ o
  none_given n [] o h = refl
  none_given n (r ∷ rs) o h =
      let here = subst (λ m. given m r ≡ None) (omega arith) (h 0 r refl) in
      ap (λ x. last_or o (cons_option x (all_given (n + 1) rs))) here ∙ none_given (n + 1) rs o (later h)
    where
      later : ((k : ℕ) (x : Record) → slice_get (r ∷ rs) k ≡ Some x → given (n + k) x ≡ None) → (k : ℕ) (x : Record) → slice_get rs k ≡ Some x → given (n + 1 + k) x ≡ None
      later h k x e = let same : n + suc k ≡ n + 1 + k = omega arith in subst (λ m. given m x ≡ None) same (h (suc k) x e)

  last_given : (n : ℕ) (rs : List Record) (o : Option ℤ) (k : ℕ) (r : Record) (v : ℤ) → slice_get rs k ≡ Some r → given (n + k) r ≡ Some v
      → ((j : ℕ) (x : Record) → k < j → slice_get rs j ≡ Some x → given (n + j) x ≡ None) → last_or o (all_given n rs) ≡ Some v
  last_given n [] o k r v is here others = absurd (cc)
  last_given n (y ∷ rs) o zero r v is here others =
      let same : r ≡ y = cc in
      let first = subst (λ m. given m y ≡ Some v) (omega arith) (subst (λ x. given (n + 0) x ≡ Some v) same here) in
      ap (λ x. last_or o (cons_option x (all_given (n + 1) rs))) first ∙ none_given (n + 1) rs (Some v) (later others)
    where
      later : ((j : ℕ) (x : Record) → 0 < j → slice_get (y ∷ rs) j ≡ Some x → given (n + j) x ≡ None) → (j : ℕ) (x : Record) → slice_get rs j ≡ Some x → given (n + 1 + j) x ≡ None
      later h j x e = let same : n + suc j ≡ n + 1 + j = omega arith in subst (λ m. given m x ≡ None) same (h (suc j) x (omega arith) e)
  last_given n (y ∷ rs) o (suc k) r v is here others = by_first (given n y) (λ p. last_given (n + 1) rs p k r v is (moved here) (later others))
    where
      moved : given (n + suc k) r ≡ Some v → given (n + 1 + k) r ≡ Some v
      moved h = let same : n + suc k ≡ n + 1 + k = omega arith in subst (λ m. given m r ≡ Some v) same h

      later : ((j : ℕ) (x : Record) → suc k < j → slice_get (y ∷ rs) j ≡ Some x → given (n + j) x ≡ None) → (j : ℕ) (x : Record) → k < j → slice_get rs j ≡ Some x → given (n + 1 + j) x ≡ None
      later h j x l e = let same : n + suc j ≡ n + 1 + j = omega arith in subst (λ m. given m x ≡ None) same (h (suc j) x (omega arith) e)

      by_first : (x : Option ℤ) → ((p : Option ℤ) → last_or p (all_given (n + 1) rs) ≡ Some v) → last_or o (cons_option x (all_given (n + 1) rs)) ≡ Some v
      by_first None rest = rest o
      by_first (Some w) rest = rest (Some w)

-- ---- amendments and records

contained_from : (n : ℕ) (rs : List Record) (k s i : ℕ) (v : ℤ) → slice_get rs k ≡ Some (Amends s i v)
    → Contains (filter_map (λ e. amendment_of e.0 e.1) (enumerate_from n rs)) (record { seq = s; index = i; value = v; own = n + k })
contained_from n [] k s i v e = absurd (cc)
contained_from n (r ∷ rs) zero s i v e =
    let same : Amends s i v ≡ r = cc in
    let own : n ≡ n + 0 = omega arith in
    subst (λ x. Contains (cons_option (amendment_of n x) (filter_map (λ e. amendment_of e.0 e.1) (enumerate_from (n + 1) rs))) (record { seq = s; index = i; value = v; own = n + 0 })) same
    (0, omega arith, ap (λ m. record { seq = s; index = i; value = v; own = m }) own)
contained_from n (r ∷ rs) (suc k) s i v e =
    let rest = contained_from (n + 1) rs k s i v e in
    let own : n + 1 + k ≡ n + suc k = omega arith in
    onto _ (amendment_of n r) (subst (λ m. Contains (filter_map (λ e. amendment_of e.0 e.1) (enumerate_from (n + 1) rs)) (record { seq = s; index = i; value = v; own = m })) own rest)
  where
    onto : (xs : List Amendment) {x : Amendment} (o : Option Amendment) → Contains xs x → Contains (cons_option o xs) x
    onto xs None c = c
    onto xs (Some y) c = (suc c.0, omega (arith, c.1), c.2)

all_from : (n : ℕ) (rs whole : List Record) → ((k : ℕ) (r : Record) → slice_get rs k ≡ Some r → slice_get whole (n + k) ≡ Some r)
    → (a : Amendment) → Contains (filter_map (λ e. amendment_of e.0 e.1) (enumerate_from n rs)) a → slice_get whole a.own ≡ Some (Amends a.seq a.index a.value)
all_from n [] whole at a c = absurd (omega (arith, c.1))
all_from n (Reads r ∷ rs) whole at a c = all_from (n + 1) rs whole (λ k x e. let same : n + suc k ≡ n + 1 + k = omega arith in subst (λ m. slice_get whole m ≡ Some x) same (at (suc k) x e)) a c
all_from n (Amends s i v ∷ rs) whole at a c = by_place c.0 c.1 c.2 (λ d. all_from (n + 1) rs whole next a d)
  where
    rest : List Amendment
    rest = filter_map (λ e. amendment_of e.0 e.1) (enumerate_from (n + 1) rs)

    first : Amendment
    first = record { seq = s; index = i; value = v; own = n }

    next : (k : ℕ) (r : Record) → slice_get rs k ≡ Some r → slice_get whole (n + 1 + k) ≡ Some r
    next k r e = let same : n + suc k ≡ n + 1 + k = omega arith in subst (λ m. slice_get whole m ≡ Some r) same (at (suc k) r e)

    by_place : (k : ℕ) → k < length (first ∷ rest) → get_or (first ∷ rest) k a ≡ a → (Contains rest a → slice_get whole a.own ≡ Some (Amends a.seq a.index a.value))
        → slice_get whole a.own ≡ Some (Amends a.seq a.index a.value)
    by_place zero h e others =
        let here = subst (λ m. slice_get whole m ≡ Some (Amends s i v)) (omega arith) (at 0 (Amends s i v) refl) in
        subst (λ x. slice_get whole x.own ≡ Some (Amends x.seq x.index x.value)) e here
    by_place (suc k) h e others = others (k, omega (arith, h), e)

module _ (b : Batch) (sorted : List Amendment) (are : AreAmendmentsOf b sorted) where
  pub listed : (k s i : ℕ) (v : ℤ) → slice_get b.records k ≡ Some (Amends s i v) → Contains sorted (record { seq = s; index = i; value = v; own = k })
  listed k s i v e =
      let own : 0 + k ≡ k = omega arith in
      Contains-permutation _ _ _ are.all (subst (λ m. Contains (amendments_in b) (record { seq = s; index = i; value = v; own = m })) own (contained_from 0 b.records k s i v e))

  pub found_in : (a : Amendment) → Contains sorted a → slice_get b.records a.own ≡ Some (Amends a.seq a.index a.value)
  found_in a c =
      all_from 0 b.records b.records (λ k r e. let same : k ≡ 0 + k = omega arith in subst (λ m. slice_get b.records m ≡ Some r) same e) a
      (Contains-permutation _ _ _ (IsPermutation-sym _ _ are.all) c)

  module _ (seq index : ℕ) where
    -- what holds of each amendment of the position holds of a record that is one
    named_at : (P : Amendment → Type 0) → All (λ a. Names seq index a → P a) sorted → (k s i : ℕ) (v : ℤ) → slice_get b.records k ≡ Some (Amends s i v)
        → seq ≡ s → index ≡ i → P (record { seq = s; index = i; value = v; own = k })
    named_at P all k s i v e same_seq same_index =
        let c = listed k s i v e in
        let at = subst (λ a. Names seq index a → P a) c.2 (all c.0 (record { seq = s; index = i; value = v; own = k }) c.1) in
        at (sym same_seq, sym same_index)

    -- no record behind this place gives the reading a value
    abbrev Quiet : ℕ → Type 0
    Quiet place = (j : ℕ) (x : Record) → place < j → slice_get b.records j ≡ Some x → given b seq index (0 + j) x ≡ None

    quiet_record : (k : ℕ) (x : Record) → (Gives b seq index k x → ⊥) → given b seq index (0 + k) x ≡ None
    quiet_record k x h = let same : k ≡ 0 + k = omega arith in subst (λ m. given b seq index m x ≡ None) same (gives_none b seq index k x h)

    giving : (k : ℕ) (x : Record) → Gives b seq index k x → given b seq index (0 + k) x ≡ Some (worth b seq index x)
    giving k x h = let same : k ≡ 0 + k = omega arith in subst (λ m. given b seq index m x ≡ Some (worth b seq index x)) same (gives b seq index k x h)

    pub unamended : (o : Option ℤ) → All (λ a. Names seq index a → ⊥) sorted → MatchOption o (LacksReading b seq index) (HasReading b seq index) → o ≡ value_given_in b seq index
    unamended None none lacks = sym (none_given b seq index 0 b.records None each)
      where
        each : (k : ℕ) (r : Record) → slice_get b.records k ≡ Some r → given b seq index (0 + k) r ≡ None
        each k (Reads r) e = quiet_record k (Reads r) (λ h. lacks r h.0 (subst (λ m. slice_get b.records m ≡ Some (Reads r)) (sym h.1) e))
        each k (Amends s i v) e = quiet_record k (Amends s i v) (λ h. named_at (λ a. ⊥) none k s i v e h.0 h.1)
    unamended (Some v) none has =
        sym (last_given b seq index 0 b.records None index (Reads has.reading) v has.got (giving index (Reads has.reading) (has.own, refl) ∙ ap Some (sym has.value_is)) later)
      where
        later : Quiet index
        later j (Reads r) l e = quiet_record j (Reads r) (λ h. omega (arith, h.1, l))
        later j (Amends s i w) l e = quiet_record j (Amends s i w) (λ h. named_at (λ a. ⊥) none j s i w e h.0 h.1)

    -- A reading keeps its own value where all of the batch's own amendments of it stand above it.
    pub own_kept : (v : ℤ) → All (λ a. Names seq index a → a.own ≤ index) sorted → HasReading b seq index v → Some v ≡ value_given_in b seq index
    own_kept v above has =
        sym (last_given b seq index 0 b.records None index (Reads has.reading) v has.got (giving index (Reads has.reading) (has.own, refl) ∙ ap Some (sym has.value_is)) quiet)
      where
        quiet : Quiet index
        quiet j (Reads r) l e = quiet_record j (Reads r) (λ h. omega (arith, h.1, l))
        quiet j (Amends s i w) l e = quiet_record j (Amends s i w) (λ h. let at = named_at (λ a. a.own ≤ index) above j s i w e h.0 h.1 in omega (arith, at, l))

    module _ (last : Amendment) (is_last : IsLastNamed sorted seq index last) where
      by_last : Quiet last.own → Some last.value ≡ value_given_in b seq index
      by_last quiet =
          sym (last_given b seq index 0 b.records None last.own (Amends last.seq last.index last.value) last.value (found_in last is_last.found)
          (giving last.own (Amends last.seq last.index last.value) (sym is_last.named.0, sym is_last.named.1)) quiet)

      not_behind : (j s i : ℕ) (w : ℤ) → last.own < j → slice_get b.records j ≡ Some (Amends s i w) → seq ≡ s → index ≡ i → ⊥
      not_behind j s i w l e f g = let at = named_at (λ a. a.own ≤ last.own) is_last.others j s i w e f g in omega (arith, at, l)

      pub amended : LacksReading b seq index → Some last.value ≡ value_given_in b seq index
      amended lacks = by_last quiet
        where
          quiet : Quiet last.own
          quiet j (Reads r) l e = quiet_record j (Reads r) (λ h. lacks r h.0 (subst (λ m. slice_get b.records m ≡ Some (Reads r)) (sym h.1) e))
          quiet j (Amends s i w) l e = quiet_record j (Amends s i w) (λ h. not_behind j s i w l e h.0 h.1)

      pub amended_later : index ≤ last.own → Some last.value ≡ value_given_in b seq index
      amended_later behind = by_last quiet
        where
          quiet : Quiet last.own
          quiet j (Reads r) l e = quiet_record j (Reads r) (λ h. omega (arith, h.1, l, behind))
          quiet j (Amends s i w) l e = quiet_record j (Amends s i w) (λ h. not_behind j s i w l e h.0 h.1)

      pub own_later : (v : ℤ) → last.own < index → HasReading b seq index v → Some v ≡ value_given_in b seq index
      own_later v before has =
          sym (last_given b seq index 0 b.records None index (Reads has.reading) v has.got (giving index (Reads has.reading) (has.own, refl) ∙ ap Some (sym has.value_is)) quiet)
        where
          quiet : Quiet index
          quiet j (Reads r) l e = quiet_record j (Reads r) (λ h. omega (arith, h.1, l))
          quiet j (Amends s i w) l e = quiet_record j (Amends s i w) (λ h. not_behind j s i w (omega (arith, l, before)) e h.0 h.1)

-- Where a batch amends nothing, its readings keep their values.
pub own_alone : (b : Batch) (k : ℕ) (r : Reading) → AreAmendmentsOf b [] → slice_get b.records k ≡ Some (Reads r) → value_given_in b b.seq k ≡ Some r.value
own_alone b k r are got = sym (own_kept b [] are b.seq k r.value (λ j d less. absurd (omega (arith, less))) (record { reading = r; own = refl; got = got; value_is = refl }))
