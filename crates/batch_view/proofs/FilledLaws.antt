-- What sorted amendments give the readings of one batch, found from the last of them down.
use Rattle.std.proofs.Common.{◌≡◌, ℕ, ◌-◌, ◌<◌, ◌≤◌, ◌==◌, nat_lt, leb, Bool, true, false, List, length, All, Option, Some, None, ℤ, get_or, refl, sym, ap, subst, ◌∙◌, arith, inl, inr}
use Rattle.std.specs.Option.{option_or}
use Rattle.std.specs.List.{slice_get}
use Rattle.std.specs.List.Sorted.{IsNonDecreasingBy}
use Rattle.std.proofs.lemmas.Bool.{cases_Bool, cond-true, cond-false, eqb-true, eq-eqb, ltb-true, ltb-false, le-leb, leb-true}
use Rattle.std.proofs.lemmas.List.{get_or_default}
use Rattle.batch_view.specs.Inner.Amended.{rank, rank_of, IsSmall, Names, IsPointOf, IsLastNamed}
use Rattle.metering_model.specs.Batch.{Batch, Reading, Reads}
use Rattle.batch_view.specs.Kept.{AreAmendmentsOf, value_given_in}
use Rattle.batch_view.specs.Inner.Given.{HasReading}
use Rattle.batch_view.proofs.GivenLaws.{unamended, amended, amended_later, own_kept}
use Rattle.batch_view.specs.Inner.Filled.{filled_by, has_effect, IsGiven, IsFilled}
use Rattle.batch_view.specs.declared.owned.Amendment.{Amendment}

-- what the amendments from a place on give the reading
abbrev pub IsGivenFrom : List Amendment → ℕ → Bool → ℕ → ℕ → Option ℤ → Type 0
IsGivenFrom sorted seq own left k None = (j : ℕ) (d : Amendment) → left ≤ j → j < length sorted → Names seq k (get_or sorted j d) → has_effect own (get_or sorted j d) ≡ false
IsGivenFrom sorted seq own left k (Some v) = (last : Amendment) × IsLastNamed sorted seq k last × (has_effect own last ≡ true) × (v ≡ last.value)

abbrev pub IsFilledFrom : List Amendment → ℕ → Bool → ℕ → ℕ → Option ℤ → Option ℤ → Type 0
IsFilledFrom sorted seq own left k old new = (given : Option ℤ) × IsGivenFrom sorted seq own left k given × (new ≡ option_or old given)

passed_low : (t : Bool) (x : Amendment) → has_effect t x ≡ false → (t ≡ true) × (x.own ≤ x.index)
passed_low true x e = (refl, ltb-false _ _ e)
passed_low false x e = absurd (cc)

counted_high : (t : Bool) (x : Amendment) → t ≡ true → has_effect t x ≡ true → x.index < x.own
counted_high true x own e = ltb-true _ _ e
counted_high false x own e = absurd (cc)

over_none : (o : Option ℤ) (v : ℤ) → option_or (option_or o None) (Some v) ≡ option_or o (Some v)
over_none None v = refl
over_none (Some x) v = refl

over_some : (o : Option ℤ) (v w : ℤ) → option_or (option_or o (Some v)) (Some w) ≡ option_or o (Some v)
over_some None v w = refl
over_some (Some x) v w = refl

module _ (sorted : List Amendment) (seq : ℕ) (own : Bool) (small : All IsSmall sorted) (rising : IsNonDecreasingBy rank sorted) (end : ℕ) (point : IsPointOf seq 65_535 sorted end) (within : end ≤ length sorted) (k : ℕ) (old : Option ℤ) where
  -- none behind those of the sequence names it,
  none_behind : (j : ℕ) (d : Amendment) → end ≤ j → j < length sorted → Names seq k (get_or sorted j d) → ⊥
  none_behind j d behind less named =
      let s = small j d less in
      let ranked : rank (get_or sorted j d) ≤ rank_of seq 65_535 65_535 = omega (arith, s.0, s.1, named.0) in
      let greater = point.1 j d behind less in
      let not_greater = le-leb _ _ ranked in
      absurd (cc (greater, not_greater))

  -- so that nothing is filled in at first.
  pub filled_first : IsFilledFrom sorted seq own end k old old
  filled_first = (None, (λ j d behind less named. absurd (none_behind j d behind less named)), by_old old)
    where
      by_old : (o : Option ℤ) → o ≡ option_or o None
      by_old None = refl
      by_old (Some v) = refl

  module _ (left : ℕ) (some : 0 < left) (before : left ≤ end) (a : Amendment) (is : a ≡ get_or sorted (left - 1) a) where
    at_place : (d : Amendment) → get_or sorted (left - 1) d ≡ a
    at_place d = get_or_default sorted (left - 1) d a (omega (arith, within)) ∙ sym is

    up_to_place : (j : ℕ) (d : Amendment) → j < left → rank (get_or sorted j d) ≤ rank a
    up_to_place j d less =
        let up = rising j (left - 1) d (omega arith) (omega (arith, within)) in
        subst (λ x. rank (get_or sorted j d) ≤ rank x) (at_place d) up

    -- what holds of those behind and of this one, holds of those from this one on
    from_here : (P : Amendment → Type 0) → ((j : ℕ) (d : Amendment) → left ≤ j → j < length sorted → P (get_or sorted j d)) → P a → (j : ℕ) (d : Amendment) → left - 1 ≤ j → j < length sorted → P (get_or sorted j d)
    from_here P behind here j d from less = by_test (nat_lt j left) refl
      where
        by_test : (t : Bool) → nat_lt j left ≡ t → P (get_or sorted j d)
        by_test true e =
            let same : j ≡ left - 1 = let low = ltb-true _ _ e in omega (arith, low, from) in
            subst P (sym (ap (λ i. get_or sorted i d) same ∙ at_place d)) here
        by_test false e = behind j d (ltb-false j left e) less

    -- The last that has an effect is found where none behind it has.
    last_found : Names seq k a → has_effect own a ≡ true → ((j : ℕ) (d : Amendment) → left ≤ j → j < length sorted → Names seq k (get_or sorted j d) → has_effect own (get_or sorted j d) ≡ false) → IsLastNamed sorted seq k a
    last_found named here behind = record {
      found = (left - 1, omega (arith, within), sym is);
      named = named;
      others = λ j d less other. by_test j d less other (nat_lt j left) refl;
    }
      where
        by_test : (j : ℕ) (d : Amendment) → j < length sorted → Names seq k (get_or sorted j d) → (t : Bool) → nat_lt j left ≡ t → (get_or sorted j d).own ≤ a.own
        by_test j d less other true e =
            let up = up_to_place j d (ltb-true _ _ e) in
            omega (arith, up, named.0, named.1, other.0, other.1)
        by_test j d less other false e =
            let low = passed_low own (get_or sorted j d) (behind j d (ltb-false j left e) less other) in
            let high = counted_high own a low.0 here in
            let l = low.1 in
            omega (arith, l, high, named.1, other.1)

    -- It is filled in, where it has an effect,
    pub filled_more : (now : Option ℤ) → a.seq ≡ seq → has_effect own a ≡ true → IsFilledFrom sorted seq own left k old now → IsFilledFrom sorted seq own (left - 1) k old (filled_by a k now)
    filled_more now same here (None, from, e) = elim (cases_Bool (a.index == k)) [
      | inl t ↦
          let named : Names seq k a = (same, eqb-true a.index k t) in
          (Some a.value, (a, last_found named here from, here, refl), cond-true (a.index == k) (option_or now (Some a.value)) now t ∙ (ap (λ o. option_or o (Some a.value)) e ∙ over_none old a.value))
      | inr f ↦ (
        None,
        from_here (λ x. Names seq k x → has_effect own x ≡ false) from (λ named. let t = eq-eqb a.index k named.1 in absurd (cc (t, f))),
        cond-false (a.index == k) (option_or now (Some a.value)) now f ∙ e,
      )
    ]
    filled_more now same here (Some v, from, e) = (
      Some v,
      from,
      elim (cases_Bool (a.index == k)) [
        | inl t ↦ cond-true (a.index == k) (option_or now (Some a.value)) now t ∙ (ap (λ o. option_or o (Some a.value)) e ∙ over_some old v a.value)
        | inr f ↦ cond-false (a.index == k) (option_or now (Some a.value)) now f ∙ e
      ],
    )

    -- passed over, where it has none,
    pub filled_passed : (now : Option ℤ) → has_effect own a ≡ false → IsFilledFrom sorted seq own left k old now → IsFilledFrom sorted seq own (left - 1) k old now
    filled_passed now passed (None, from, e) = (None, from_here (λ x. Names seq k x → has_effect own x ≡ false) from (λ named. passed), e)
    filled_passed now passed (Some v, from, e) = (Some v, from, e)

    -- and none below it names the sequence where it names another.
    pub filled_other : (now : Option ℤ) → (a.seq ≡ seq → ⊥) → IsFilledFrom sorted seq own left k old now → IsFilled sorted seq own k old now
    filled_other now other (Some v, from, e) = (Some v, from, e)
    filled_other now other (None, from, e) = (None, (λ j d less named. by_test j d less named (nat_lt j left) refl), e)
      where
        a_small : IsSmall a
        a_small = subst IsSmall (at_place a) (small (left - 1) a (omega (arith, within)))

        low : rank a ≤ rank_of seq 65_535 65_535
        low = leb-true _ _ (ap (λ x. leb (rank x) (rank_of seq 65_535 65_535)) (sym (at_place a)) ∙ point.0 (left - 1) a (omega arith) (omega (arith, within)))

        by_test : (j : ℕ) (d : Amendment) → j < length sorted → Names seq k (get_or sorted j d) → (t : Bool) → nat_lt j left ≡ t → has_effect own (get_or sorted j d) ≡ false
        by_test j d less named true e =
            let up = up_to_place j d (ltb-true _ _ e) in
            let s = a_small in
            let l = low in
            let same : a.seq ≡ seq = omega (arith, up, l, s.0, s.1, named.0) in
            absurd (other same)
        by_test j d less named false e = from j d (ltb-false j left e) less named

-- All were looked at.
pub filled_all : (sorted : List Amendment) (seq : ℕ) (own : Bool) (left k : ℕ) (old now : Option ℤ) → left ≤ 0 → IsFilledFrom sorted seq own left k old now → IsFilled sorted seq own k old now
filled_all sorted seq own left k old now none (Some v, from, e) = (Some v, from, e)
filled_all sorted seq own left k old now none (None, from, e) = (None, (λ j d less named. from j d (omega arith) less named), e)

-- ---- what that is of a batch

module _ (b : Batch) (sorted : List Amendment) (are : AreAmendmentsOf b sorted) (seq k : ℕ) where
  -- another batch's readings have the value that its last amendment gives,
  pub given_later : (seq ≡ b.seq → ⊥) → (x : Option ℤ) → IsGiven sorted seq false k x → x ≡ value_given_in b seq k
  given_later other None none = unamended b sorted are seq k None (λ j d less named. let no = none j d less named in absurd (cc)) (λ r same got. absurd (other same))
  given_later other (Some v) (last, is_last, counted, value) = ap Some value ∙ amended b sorted are seq k last is_last (λ r same got. absurd (other same))

  -- and its own keep theirs where none has an effect.
  pub given_own : (v : ℤ) → HasReading b seq k v → (x : Option ℤ) → IsGiven sorted seq true k x → option_or x (Some v) ≡ value_given_in b seq k
  given_own v has None none = own_kept b sorted are seq k v (λ j d less named. let low = passed_low true (get_or sorted j d) (none j d less named) in let l = low.1 in omega (arith, l, named.1)) has
  given_own v has (Some w) (last, is_last, counted, value) =
      let high = counted_high true last refl counted in
      let named = is_last.named.1 in
      ap Some value ∙ amended_later b sorted are seq k last is_last (omega (arith, high, named))

pub later_filled : (b : Batch) (sorted : List Amendment) (seq k : ℕ) (own : Bool) (old new : Option ℤ) → AreAmendmentsOf b sorted → own ≡ (seq == b.seq) → (seq ≡ b.seq → ⊥) → IsFilled sorted seq own k old new → new ≡ option_or old (value_given_in b seq k)
later_filled b sorted seq k true old new are test other put = absurd (other (eqb-true seq b.seq (sym test)))
later_filled b sorted seq k false old new are test other (given, is, e) = e ∙ ap (λ x. option_or old x) (given_later b sorted are seq k other given is)

pub own_filled : (b : Batch) (sorted : List Amendment) (seq k : ℕ) (own : Bool) (old new : Option ℤ) (r : Reading) → AreAmendmentsOf b sorted → own ≡ (seq == b.seq) → seq ≡ b.seq → slice_get b.records k ≡ Some (Reads r) → IsFilled sorted seq own k old new
    → option_or new (Some r.value) ≡ option_or old (value_given_in b seq k)
own_filled b sorted seq k false old new r are test same got put = let t = eq-eqb seq b.seq same in absurd (cc (test, t))
own_filled b sorted seq k true old new r are test same got (given, is, e) =
    let has : HasReading b seq k r.value = record { reading = r; own = same; got = got; value_is = refl } in
    ap (λ x. option_or x (Some r.value)) e ∙ (over_over old given (Some r.value) ∙ ap (λ x. option_or old x) (given_own b sorted are seq k r.value has given is))
  where
    over_over : (x y z : Option ℤ) → option_or (option_or x y) z ≡ option_or x (option_or y z)
    over_over None y z = refl
    over_over (Some v) y z = refl

-- What stood there stands there still.
pub still_there : (sorted : List Amendment) (seq : ℕ) (own : Bool) (k : ℕ) (old new : Option ℤ) (v : ℤ) → old ≡ Some v → IsFilled sorted seq own k old new → new ≡ Some v
still_there sorted seq own k None new v stood put = absurd (cc)
still_there sorted seq own k (Some w) new v stood put = put.2 ∙ stood
