-- Batches that do not amend one give its readings no value.
use Rattle.std.proofs.Common.{◌≡◌, ℕ, zero, suc, ◌+◌, ◌-◌, ◌≤◌, false, List, [], ◌∷◌, map, refl, sym, ap, subst, ◌∙◌, arith, Option, Some, None, ℤ, inl, inr}
use Rattle.std.specs.List.{Contains, enumerate_from, filter_map, cons_option, last_or}
use Rattle.std.specs.Option.{option_or}
use Rattle.std.proofs.lemmas.Bool.{cases_Bool, cond-false, and_parts, eqb-true}
use Rattle.metering_model.specs.Batch.{Batch, Record, Reads, Amends}
use Rattle.metering_model.specs.Holding.{Holding, IsHolding, Position, held, is_same_place}
use Rattle.metering_model.specs.ValueAtSequence.{value_given_by}
use Rattle.metering_model.proofs.HoldingLaws.{held_place}
use Rattle.batch_view.specs.declared.owned.Amendment.{Amendment}
use Rattle.batch_view.specs.Kept.{amendment_of, value_given_in}
use Rattle.batch_store.specs.Inner.Amenders.{Spares, NoneAmends}
use Rattle.batch_store.specs.Inner.Values.{last_given}
use Rattle.batch_store.proofs.LastGiven.{last_given-held, last_given-absent}
use Rattle.batch_store.proofs.Members.{contains-here, contains-there}

not_same : (p q : Position) → (q.seq ≡ p.seq → ⊥) → is_same_place p q ≡ false
not_same p q other = elim (cases_Bool (is_same_place p q)) [
  | inl t ↦
      let parts = and_parts _ _ (and_parts _ _ t).0 in
      absurd (other (sym (eqb-true p.seq q.seq parts.1)))
  | inr f ↦ f
]

module _ (p : Position) (b : Batch) (other : b.seq ≡ p.seq → ⊥) where
  abbrev values_from : ℕ → List Record → List ℤ
  values_from n rs =
      filter_map (value_given_by p) (map (λ e. record { place = record { agent = b.agent; seq = b.seq; index = e.0 }; what = e.1 }) (enumerate_from n rs))

  abbrev amendments_from : ℕ → List Record → List Amendment
  amendments_from n rs = filter_map (λ e. amendment_of e.0 e.1) (enumerate_from n rs)

  none_from : (n : ℕ) (rs : List Record) (o : Option ℤ) → ((a : Amendment) → Contains (amendments_from n rs) a → a.seq ≡ p.seq → ⊥) → last_or o (values_from n rs) ≡ o
  none_from n [] o spares = refl
  none_from n (Reads r ∷ rs) o spares =
      ap (λ v. last_or o (cons_option v (values_from (n + 1) rs))) (cond-false (is_same_place p (record { agent = b.agent; seq = b.seq; index = n })) (Some r.value) None (not_same p (record { agent = b.agent; seq = b.seq; index = n }) other))
      ∙ none_from (n + 1) rs o spares
  none_from n (Amends s i v ∷ rs) o spares =
      let first : Amendment = record { seq = s; index = i; value = v; own = n } in
      ap (λ w. last_or o (cons_option w (values_from (n + 1) rs))) (cond-false (is_same_place p (record { agent = b.agent; seq = s; index = i })) (Some v) None (not_same p (record { agent = b.agent; seq = s; index = i }) (spares first (contains-here (amendments_from (n + 1) rs) first))))
      ∙ none_from (n + 1) rs o (λ a has. spares a (contains-there first (amendments_from (n + 1) rs) a has))

gives_none : (b : Batch) (seq index : ℕ) → (b.seq ≡ seq → ⊥) → Spares b seq → value_given_in b seq index ≡ None
gives_none b seq index other spares = none_from (record { agent = b.agent; seq = seq; index = index }) b other 0 b.records None spares

-- ---- sequence by sequence

spared_by : (h : Holding) (p : Position) (n k : ℕ) → IsHolding h → p.seq ≤ n → NoneAmends (held h p.agent) p.seq n (n + k) → last_given h p (n + k) ≡ last_given h p n
spared_by h p n zero is least none = let same : n + zero ≡ n = omega arith in ap (last_given h p) same
spared_by h p n (suc k) is least none =
    let next : n + suc k ≡ n + k + 1 = omega arith in
    ap (last_given h p) next
    ∙ (last (held h p.agent (n + k + 1)) refl ∙ spared_by h p n k is least (λ by b above until at. none by b above (omega (arith, until)) at))
  where
    last : (o : Option Batch) → o ≡ held h p.agent (n + k + 1) → last_given h p (n + k + 1) ≡ last_given h p (n + k)
    last None at = last_given-absent h p (n + k) is at
    last (Some b) at =
        let place = (held_place h p.agent (n + k + 1) b (sym at)).1 in
        last_given-held h p (n + k) b is at
        ∙ ap (λ v. option_or v (last_given h p (n + k))) (gives_none b p.seq p.index (λ same. omega (arith, same, place, least)) (none (n + k + 1) b (omega arith) (omega arith) (sym at)))

pub spared : (h : Holding) (p : Position) (upto n : ℕ) → IsHolding h → p.seq ≤ n → n ≤ upto → NoneAmends (held h p.agent) p.seq n upto → last_given h p upto ≡ last_given h p n
spared h p upto n is least within none =
    let far : n + (upto - n) ≡ upto = omega (arith, within) in
    subst (λ m. last_given h p m ≡ last_given h p n) far (spared_by h p n (upto - n) is least (subst (λ m. NoneAmends (held h p.agent) p.seq n m) (sym far) none))
