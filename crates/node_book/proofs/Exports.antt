-- How often a period was exported.
use Rattle.std.proofs.Common.{◌≡◌, ◌↔◌, ℕ, zero, suc, ◌+◌, ◌<◌, ◌≤◌, Bool, true, false, cond, List, [], ◌∷◌, length, get_or, arith, refl, sym, ap, ◌∙◌, count_by, nat_lt, ◌⊎◌, inl, inr, IsTrue, eqb-true, eq-eqb}
use Rattle.std.specs.Prelude.{if◌then◌else◌, ◌==◌}
use Rattle.std.proofs.lemmas.Bool.{cases_lt, ltb-true, ltb-false, lt-ltb}
use Rattle.metering_model.specs.World.{Reply, Exported, Snapshot}
use Rattle.node_book.specs.Books.{Told}
use Rattle.node_book.specs.Agreement.{is_export_of, ExportsEach}
use Rattle.group_laws.proofs.Quorum.{count_by-cons}

-- where none is counted, none passes
pub none_counted : {A : Type 0} (p : A → Bool) (xs : List A) (i : ℕ) (d : A) → i < length xs → count_by p xs ≡ 0 → p (get_or xs i d) ≡ false
none_counted p [] i d lt none = absurd (omega (arith, lt))
none_counted p (x ∷ xs) zero d lt none = by_test (p x) (sym (count_by-cons p x xs) ∙ none)
  where
    by_test : (b : Bool) → cond b 1 0 + count_by p xs ≡ 0 → b ≡ false
    by_test true h = absurd (omega (arith, h))
    by_test false h = refl
none_counted p (x ∷ xs) (suc i) d lt none = none_counted p xs i d (omega (arith, lt)) (let h = sym (count_by-cons p x xs) ∙ none in omega (arith, h))

-- an export is of no period from a number on just where its own is below
pub within_iff : (r : Reply) (s : Snapshot) (n periods : ℕ) → r ≡ Exported s → n ≡ s.period → IsTrue (nat_lt n periods) ↔ ((period : ℕ) → periods ≤ period → is_export_of period r ≡ false)
within_iff r s n periods is own = ((λ t period ge. ap (is_export_of period) is ∙ differs period (below.0 t) ge), (λ none. below.1 (by_order none (cases_lt n periods))))
  where
    below : IsTrue (nat_lt n periods) ↔ (n < periods)
    below = (ltb-true n periods, lt-ltb n periods)

    by_test : (period : ℕ) (b : Bool) → (s.period == period) ≡ b → n < periods → periods ≤ period → b ≡ false
    by_test period true e lt ge = let same = eqb-true s.period period e in absurd (omega (arith, same, own, lt, ge))
    by_test period false e lt ge = refl

    differs : (period : ℕ) → n < periods → periods ≤ period → (s.period == period) ≡ false
    differs period lt ge = by_test period (s.period == period) refl lt ge

    not_its_own : ((period : ℕ) → periods ≤ period → is_export_of period r ≡ false) → periods ≤ n → ⊥
    not_its_own none ge =
        let told : (s.period == n) ≡ false = sym (ap (is_export_of n) is) ∙ none n ge in
        let same : (s.period == n) ≡ true = eq-eqb s.period n (sym own) in
        let both = sym same ∙ told in
        absurd (cc)

    by_order : ((period : ℕ) → periods ≤ period → is_export_of period r ≡ false) → (n < periods) ⊎ (periods ≤ n) → n < periods
    by_order none (inl lt) = lt
    by_order none (inr ge) = absurd (not_its_own none ge)

abbrev pub count_of : List Told → ℕ → ℕ
count_of told period = count_by (λ t. is_export_of period t.reply) told

module _ (told : List Told) (periods : ℕ) where
  pub each_once : ((period : ℕ) → periods ≤ period → count_of told period ≡ 0) → ((period : ℕ) → period < periods → count_of told period ≡ 1) → ExportsEach periods told
  each_once none one period = by_test (nat_lt period periods) refl
    where
      by_test : (b : Bool) → nat_lt period periods ≡ b → count_of told period ≡ (if b then 1 else 0)
      by_test true is = one period (ltb-true period periods is)
      by_test false is = none period (ltb-false period periods is)

  pub once : ExportsEach periods told → (period : ℕ) → period < periods → count_of told period ≡ 1
  once each period lt = by_test (nat_lt period periods) refl (each period)
    where
      by_test : (b : Bool) → nat_lt period periods ≡ b → count_of told period ≡ (if b then 1 else 0) → count_of told period ≡ 1
      by_test true is h = h
      by_test false is h = let ge = ltb-false period periods is in absurd (omega (arith, ge, lt))

  pub never : ExportsEach periods told → (period : ℕ) → periods ≤ period → count_of told period ≡ 0
  never each period ge = by_test (nat_lt period periods) refl (each period)
    where
      by_test : (b : Bool) → nat_lt period periods ≡ b → count_of told period ≡ (if b then 1 else 0) → count_of told period ≡ 0
      by_test true is h = let lt = ltb-true period periods is in absurd (omega (arith, ge, lt))
      by_test false is h = h
