-- What amendments give the readings of one batch, found batch by batch from the last on.
use Rattle.std.proofs.Common.{◌≡◌, ℕ, zero, suc, ◌+◌, ◌-◌, ◌<◌, ◌≤◌, List, [], ◌∷◌, ◌++◌, length, Option, Some, None, ℤ, pos, unwrap_or, refl, sym, ap, subst, ◌∙◌, arith}
use Rattle.std.specs.Prelude.{nat_lt, slice_get, slice_index_or}
use Rattle.std.specs.Option.{option_or}
use Rattle.std.proofs.lemmas.Bool.{cond-false, le-ltb}
use Rattle.std.proofs.lemmas.List.{length-append}
use Rattle.std.proofs.lemmas.Option.{slice_get_within}
use Rattle.metering_model.specs.Batch.{Batch, Reading, Reads}
use Rattle.metering_model.specs.Holding.{Holding, IsHolding, Position, held}
use Rattle.metering_model.specs.ValueAtSequence.{value_at}
use Rattle.batch_view.specs.Kept.{value_given_in}
use Rattle.batch_store.specs.Stores.{AreAmendedValues}
use Rattle.batch_store.specs.Inner.Values.{last_given, at_index}
use Rattle.batch_store.specs.Inner.Amenders.{NoneAmends, IsLastAmender}
use Rattle.batch_store.proofs.LastGiven.{last_given-held, last_given-absent}
use Rattle.batch_store.proofs.OwnValue.{own_given, record_held}
use Rattle.batch_store.proofs.Spared.{spared}

-- What the list has, or else what was given up to `left`, is what was given up to `upto`.
abbrev pub AreGivenAbove : Holding → ℕ → ℕ → ℕ → ℕ → List (Option ℤ) → Type 0
AreGivenAbove h agent seq upto left values = (k : ℕ) → k < length values → last_given h (at_index agent seq k) upto ≡ option_or (slice_index_or values k None) (last_given h (at_index agent seq k) left)

-- ---- a list of nothing

abbrev pub AreNone : List (Option ℤ) → Type 0
AreNone values = (k : ℕ) → slice_index_or values k None ≡ None

pub none_yet : AreNone []
none_yet k = refl

pub one_none_more : (values : List (Option ℤ)) → AreNone values → AreNone (values ++ None ∷ [])
one_none_more [] none zero = refl
one_none_more [] none (suc k) = refl
one_none_more (v ∷ values) none zero = none 0
one_none_more (v ∷ values) none (suc k) = one_none_more values (λ j. none (suc j)) k

pub length_more : (values : List (Option ℤ)) → length (values ++ None ∷ []) ≡ length values + 1
length_more values = length-append values (None ∷ [])

-- ---- batch by batch

or_or : (x y z : Option ℤ) → option_or x (option_or y z) ≡ option_or (option_or x y) z
or_or None y z = refl
or_or (Some v) y z = refl

pub above_first : (h : Holding) (agent seq upto : ℕ) (values : List (Option ℤ)) → ((k : ℕ) → slice_index_or values k None ≡ None) → AreGivenAbove h agent seq upto upto values
above_first h agent seq upto values none = λ k less. ap (λ o. option_or o (last_given h (at_index agent seq k) upto)) (sym (none k))

module _ (h : Holding) (agent seq upto left : ℕ) (is : IsHolding h) (values : List (Option ℤ)) (above : AreGivenAbove h agent seq upto left values) where
  -- none is left that amends the batch,
  pub above_all : seq ≤ left → NoneAmends (held h agent) seq seq left → AreGivenAbove h agent seq upto seq values
  above_all least none = λ k less. above k less ∙ ap (option_or (slice_index_or values k None)) (spared h (at_index agent seq k) left seq is (omega arith) least none)

  module _ (by : ℕ) (last : IsLastAmender (held h agent) seq left by) where
    to_last : (k : ℕ) → k < length values → last_given h (at_index agent seq k) upto ≡ option_or (slice_index_or values k None) (last_given h (at_index agent seq k) by)
    to_last k less =
        let behind = last.behind in
        above k less ∙ ap (option_or (slice_index_or values k None)) (spared h (at_index agent seq k) left by is (omega (arith, behind)) last.within last.none_later)

    below : (m : ℕ) → seq < m → m ≡ m - 1 + 1
    below m less = omega (arith, less)

    -- the last one that does gives its values,
    pub above_given : (b : Batch) (new : List (Option ℤ)) → Some b ≡ held h agent by → length new ≡ length values
        → ((k : ℕ) → k < length values → slice_index_or new k None ≡ option_or (slice_index_or values k None) (value_given_in b seq k)) → AreGivenAbove h agent seq upto (by - 1) new
    above_given b new at same put = λ k less.
        let within : k < length values = omega (arith, less, same) in
        let next = below by last.behind in
        let p = at_index agent seq k in
        to_last k within
        ∙ (ap (λ o. option_or (slice_index_or values k None) o) (ap (last_given h p) next ∙ last_given-held h p (by - 1) b is (subst (λ n. Some b ≡ held h agent n) next at))
        ∙ (or_or (slice_index_or values k None) (value_given_in b seq k) (last_given h p (by - 1))
        ∙ ap (λ o. option_or o (last_given h p (by - 1))) (sym (put k within))))

    -- or is not there.
    pub above_absent : None ≡ held h agent by → AreGivenAbove h agent seq upto (by - 1) values
    above_absent at = λ k less.
        let next = below by last.behind in
        let p = at_index agent seq k in
        to_last k less ∙ ap (λ o. option_or (slice_index_or values k None) o) (ap (last_given h p) next ∙ last_given-absent h p (by - 1) is (subst (λ n. None ≡ held h agent n) next at))

-- ---- the values that stand for the readings

value_from : (h : Holding) (p : Position) (upto : ℕ) (v : ℤ) (o : Option ℤ) → p.seq ≤ upto → last_given h p upto ≡ option_or o (Some v) → unwrap_or o v ≡ value_at h p upto
value_from h p upto v o least given =
    sym (cond-false (nat_lt upto p.seq) (pos 0) (unwrap_or (last_given h p upto) (pos 0)) (le-ltb upto p.seq least) ∙ (ap (λ x. unwrap_or x (pos 0)) given ∙ either o))
  where
    either : (o : Option ℤ) → unwrap_or (option_or o (Some v)) (pos 0) ≡ unwrap_or o v
    either None = refl
    either (Some x) = refl

-- With what the batch's own amendments give, they are all of them.
pub values_all : (h : Holding) (agent seq upto : ℕ) (b : Batch) (values new : List (Option ℤ)) → IsHolding h → seq ≤ upto → held h agent seq ≡ Some b → length values ≡ length b.records → AreGivenAbove h agent seq upto seq values
    → ((k : ℕ) (r : Reading) → k < length values → slice_get b.records k ≡ Some (Reads r) → option_or (slice_index_or new k None) (Some r.value) ≡ option_or (slice_index_or values k None) (value_given_in b seq k))
    → AreAmendedValues h agent seq upto new
values_all h agent seq upto b values new is least at many above put = λ k r found.
    let got = record_held h (at_index agent seq k) b r at found in
    let inside = slice_get_within b.records k (Reads r) got in
    let less : k < length values = omega (arith, inside, many) in
    value_from h (at_index agent seq k) upto r.value (slice_index_or new k None) least
    (above k less ∙ (ap (λ o. option_or (slice_index_or values k None) o) (own_given h (at_index agent seq k) b r is at got) ∙ sym (put k r less got)))

-- Nothing amends the batch, and it amends nothing.
pub values_none : (h : Holding) (agent seq upto : ℕ) (b : Batch) → IsHolding h → seq ≤ upto → held h agent seq ≡ Some b → NoneAmends (held h agent) seq seq upto
    → ((k : ℕ) (r : Reading) → slice_get b.records k ≡ Some (Reads r) → value_given_in b seq k ≡ Some r.value) → (values : List (Option ℤ)) → ((k : ℕ) → slice_index_or values k None ≡ None) → AreAmendedValues h agent seq upto values
values_none h agent seq upto b is least at none alone values empty = λ k r found.
    let got = record_held h (at_index agent seq k) b r at found in
    value_from h (at_index agent seq k) upto r.value (slice_index_or values k None) least
    (spared h (at_index agent seq k) upto seq is (omega arith) least none
    ∙ (own_given h (at_index agent seq k) b r is at got ∙ (alone k r got ∙ ap (λ o. option_or o (Some r.value)) (sym (empty k)))))
