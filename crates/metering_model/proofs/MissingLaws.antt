-- What is missing in a holding up to a cut: nothing, or the least absent batch.
use Rattle.std.proofs.Common.{◌≡◌, ℕ, zero, suc, ◌+◌, ◌<◌, ◌≤◌, Bool, true, false, cond, [], ◌∷◌, slice_index, refl, sym, ap, subst, ◌∙◌, arith, Option, Some, None, inl, inr, is_some}
use Rattle.std.specs.List.{range_with_len}
use Rattle.std.proofs.lemmas.Bool.{cases_lt}
use Rattle.std.proofs.lemmas.Option.{same_Some}
use Rattle.metering_model.specs.Batch.{Batch}
use Rattle.metering_model.specs.Cut.{Cut, last_of}
use Rattle.metering_model.specs.Holding.{Holding, held}
use Rattle.metering_model.specs.Step.{first_absent, missing_from, first_missing}

pub some_of : (o : Option Batch) → is_some o ≡ true → (b : Batch) × (o ≡ Some b)
some_of None e = absurd (cc)
some_of (Some b) e = (b, refl)

none_of : (o : Option Batch) → is_some o ≡ false → o ≡ None
none_of None e = refl
none_of (Some b) e = absurd (cc)

module _ (h : Holding) where
  -- ---- the sequences of one agent

  none_absent : (agent k n s : ℕ) → first_absent h agent (range_with_len k n) ≡ None → k ≤ s → s < k + n → is_some (held h agent s) ≡ true
  none_absent agent k zero s e low high = absurd (omega arith)
  none_absent agent k (suc n) s e low high = by_test (is_some (held h agent k)) refl e (none_absent agent (k + 1) n s)
    where
      by_test : (t : Bool) → is_some (held h agent k) ≡ t → cond t (first_absent h agent (range_with_len (k + 1) n)) (Some (agent, k)) ≡ None
          → (first_absent h agent (range_with_len (k + 1) n) ≡ None → k + 1 ≤ s → s < k + 1 + n → is_some (held h agent s) ≡ true) → is_some (held h agent s) ≡ true
      by_test false is f rest = absurd (cc)
      by_test true is f rest = elim (cases_lt k s) [
        | inl above ↦ rest f (omega arith) (omega arith)
        | inr here ↦ let same : k ≡ s = omega arith in subst (λ x. is_some (held h agent x) ≡ true) same is
      ]

  all_there : (agent k n : ℕ) → ((s : ℕ) → k ≤ s → s < k + n → is_some (held h agent s) ≡ true) → first_absent h agent (range_with_len k n) ≡ None
  all_there agent k zero has = refl
  all_there agent k (suc n) has =
      let here = has k (omega arith) (omega arith) in
      let rest = all_there agent (k + 1) n (λ s low high. has s (omega arith) (omega arith)) in
      rw here rest

  -- the first of an agent's sequences from k on that is absent
  record IsFirstAbsent (agent k n : ℕ) (at : ℕ × ℕ) : Type 0 where
    pub is_agent : at.0 ≡ agent
    pub low : k ≤ at.1
    pub high : at.1 < k + n
    pub absent : held h agent at.1 ≡ None
    pub before : (s : ℕ) → k ≤ s → s < at.1 → is_some (held h agent s) ≡ true

  some_absent : (agent k n : ℕ) (at : ℕ × ℕ) → first_absent h agent (range_with_len k n) ≡ Some at → IsFirstAbsent agent k n at
  some_absent agent k zero at e = absurd (cc)
  some_absent agent k (suc n) at e = by_test (is_some (held h agent k)) refl e (some_absent agent (k + 1) n at)
    where
      by_test : (t : Bool) → is_some (held h agent k) ≡ t → cond t (first_absent h agent (range_with_len (k + 1) n)) (Some (agent, k)) ≡ Some at
          → (first_absent h agent (range_with_len (k + 1) n) ≡ Some at → IsFirstAbsent agent (k + 1) n at) → IsFirstAbsent agent k (suc n) at
      by_test false is f rest = subst (IsFirstAbsent agent k (suc n)) (same_Some _ at f) (record {
        is_agent = refl;
        low = omega arith;
        high = omega arith;
        absent = none_of (held h agent k) is;
        before = λ s low high. absurd (omega arith);
      })
      by_test true is f rest =
          let later = rest f in
          record {
            is_agent = later.is_agent;
            low = let low = later.low in omega arith;
            high = let high = later.high in omega arith;
            absent = later.absent;
            before = λ s low high. elim (cases_lt k s) [
              | inl above ↦ later.before s (omega arith) high
              | inr here ↦ let same : k ≡ s = omega arith in subst (λ x. is_some (held h agent x) ≡ true) same is
            ];
          }

  -- ---- the agents of a cut, of which the first is k

  none_missing : (cut : Cut) (k i seq : ℕ) → missing_from h k cut ≡ None → 0 < seq → seq ≤ slice_index cut i → is_some (held h (k + i) seq) ≡ true
  none_missing [] k i seq e some within = absurd (omega arith)
  none_missing (s ∷ cut) k i seq e some within = by_first (first_absent h k (range_with_len 1 s)) refl e i within (λ j. none_missing cut (k + 1) j seq)
    where
      by_first : (o : Option (ℕ × ℕ)) → first_absent h k (range_with_len 1 s) ≡ o → ◌≡◌ {A = Option (ℕ × ℕ)} (elim o [ Some absent ↦ Some absent | None ↦ missing_from h (k + 1) cut ]) None
          → (i : ℕ) → seq ≤ slice_index (s ∷ cut) i
          → ((j : ℕ) → missing_from h (k + 1) cut ≡ None → 0 < seq → seq ≤ slice_index cut j → is_some (held h (k + 1 + j) seq) ≡ true)
          → is_some (held h (k + i) seq) ≡ true
      by_first (Some absent) is f i within rest = absurd (cc)
      by_first None is f zero within rest =
          let same : k ≡ k + 0 = omega arith in
          subst (λ a. is_some (held h a seq) ≡ true) same (none_absent k 1 s seq is (omega arith) (omega arith))
      by_first None is f (suc j) within rest =
          let same : k + 1 + j ≡ k + suc j = omega arith in
          subst (λ a. is_some (held h a seq) ≡ true) same (rest j f some within)

  all_present : (cut : Cut) (k : ℕ) → ((i seq : ℕ) → 0 < seq → seq ≤ slice_index cut i → is_some (held h (k + i) seq) ≡ true) → missing_from h k cut ≡ None
  all_present [] k has = refl
  all_present (s ∷ cut) k has =
      let same : k + 0 ≡ k = omega arith in
      let here = all_there k 1 s (λ t low high. subst (λ a. is_some (held h a t) ≡ true) same (has 0 t (omega arith) (omega arith))) in
      let rest = all_present cut (k + 1) (λ i seq some within. let next : k + suc i ≡ k + 1 + i = omega arith in subst (λ a. is_some (held h a seq) ≡ true) next (has (suc i) seq some within)) in
      ap (λ o. elim o [ Some absent ↦ Some absent | None ↦ missing_from h (k + 1) cut ]) here ∙ rest

  -- the least absent place of the agents from k on
  record IsLeastAbsent (cut : Cut) (k : ℕ) (at : ℕ × ℕ) : Type 0 where
    pub index : ℕ
    pub is_agent : at.0 ≡ k + index
    pub positive : 0 < at.1
    pub within : at.1 ≤ slice_index cut index
    pub absent : held h at.0 at.1 ≡ None
    pub of_agent : (seq : ℕ) → 0 < seq → seq < at.1 → is_some (held h at.0 seq) ≡ true
    pub of_earlier : (i seq : ℕ) → i < index → 0 < seq → seq ≤ slice_index cut i → is_some (held h (k + i) seq) ≡ true

  some_missing : (cut : Cut) (k : ℕ) (at : ℕ × ℕ) → missing_from h k cut ≡ Some at → IsLeastAbsent cut k at
  some_missing [] k at e = absurd (cc)
  some_missing (s ∷ cut) k at e = by_first (first_absent h k (range_with_len 1 s)) refl e (some_missing cut (k + 1) at)
    where
      here : IsFirstAbsent k 1 s at → IsLeastAbsent (s ∷ cut) k at
      here is = record {
        index = 0;
        is_agent = let agent = is.is_agent in omega arith;
        positive = let low = is.low in omega arith;
        within = let high = is.high in omega arith;
        absent = subst (λ a. held h a at.1 ≡ None) (sym is.is_agent) is.absent;
        of_agent = λ seq some less. subst (λ a. is_some (held h a seq) ≡ true) (sym is.is_agent) (is.before seq (omega arith) less);
        of_earlier = λ i seq less some within. absurd (omega arith);
      }

      earlier : first_absent h k (range_with_len 1 s) ≡ None → (rest : IsLeastAbsent cut (k + 1) at) → (i seq : ℕ) → i < suc rest.index → 0 < seq → seq ≤ slice_index (s ∷ cut) i → is_some (held h (k + i) seq) ≡ true
      earlier is rest zero seq less some within =
          let same : k ≡ k + 0 = omega arith in
          subst (λ a. is_some (held h a seq) ≡ true) same (none_absent k 1 s seq is (omega arith) (omega arith))
      earlier is rest (suc i) seq less some within =
          let next : k + 1 + i ≡ k + suc i = omega arith in
          subst (λ a. is_some (held h a seq) ≡ true) next (rest.of_earlier i seq (omega arith) some within)

      by_first : (o : Option (ℕ × ℕ)) → first_absent h k (range_with_len 1 s) ≡ o → ◌≡◌ {A = Option (ℕ × ℕ)} (elim o [ Some absent ↦ Some absent | None ↦ missing_from h (k + 1) cut ]) (Some at)
          → (missing_from h (k + 1) cut ≡ Some at → IsLeastAbsent cut (k + 1) at) → IsLeastAbsent (s ∷ cut) k at
      by_first (Some absent) is f rest = here (some_absent k 1 s at (is ∙ f))
      by_first None is f rest =
          let later = rest f in
          record {
            index = suc later.index;
            is_agent = let agent = later.is_agent in omega arith;
            positive = later.positive;
            within = later.within;
            absent = later.absent;
            of_agent = later.of_agent;
            of_earlier = earlier is later;
          }

-- ---- up to a cut

pub held-up_to_where : (h : Holding) (cut : Cut) → first_missing h cut ≡ None → (agent seq : ℕ) → 0 < seq → seq ≤ last_of cut agent → is_some (held h agent seq) ≡ true
held-up_to_where h cut e zero seq some within = absurd (omega arith)
held-up_to_where h cut e (suc a) seq some within =
    let same : 1 + a ≡ suc a = omega arith in
    subst (λ a. is_some (held h a seq) ≡ true) same (none_missing h cut 1 a seq e some within)

pub nothing_missing : (h : Holding) (cut : Cut) → ((agent seq : ℕ) → 0 < seq → seq ≤ last_of cut agent → is_some (held h agent seq) ≡ true) → first_missing h cut ≡ None
nothing_missing h cut has = all_present h cut 1 (λ i seq some within. let same : suc i ≡ 1 + i = omega arith in subst (λ a. is_some (held h a seq) ≡ true) same (has (suc i) seq some within))

-- the absent batch that is named is up to the cut, and each one before it is held
pub record IsNamed (h : Holding) (cut : Cut) (agent seq : ℕ) : Type 0 where
  pub positive : 0 < seq
  pub within : seq ≤ last_of cut agent
  pub absent : held h agent seq ≡ None
  pub of_agent : (s : ℕ) → 0 < s → s < seq → is_some (held h agent s) ≡ true
  pub of_earlier : (a s : ℕ) → a < agent → 0 < s → s ≤ last_of cut a → is_some (held h a s) ≡ true

pub missing_is_named : (h : Holding) (cut : Cut) (agent seq : ℕ) → first_missing h cut ≡ Some (agent, seq) → IsNamed h cut agent seq
missing_is_named h cut agent seq e = record {
  positive = is.positive;
  within = let place : suc is.index ≡ agent = (let at = is.is_agent in omega arith) in subst (λ a. seq ≤ last_of cut a) place is.within;
  absent = is.absent;
  of_agent = is.of_agent;
  of_earlier = earlier;
}
  where
    is : IsLeastAbsent h cut 1 (agent, seq)
    is = some_missing h cut 1 (agent, seq) e

    earlier : (a s : ℕ) → a < agent → 0 < s → s ≤ last_of cut a → is_some (held h a s) ≡ true
    earlier zero s less some within = absurd (omega arith)
    earlier (suc a) s less some within =
        let same : 1 + a ≡ suc a = omega arith in
        let below : a < is.index = (let at = is.is_agent in omega arith) in
        subst (λ a. is_some (held h a s) ≡ true) same (is.of_earlier a s below some within)
