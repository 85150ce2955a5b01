-- What an index lists of a holding, and so which of its batches amend one at a sequence.
use Rattle.std.proofs.Common.{◌≡◌, ℕ, ◌+◌, ◌-◌, ◌<◌, ◌≤◌, Bool, false, List, [], ◌∷◌, Option, Some, None, All, MatchOption, Result, Ok, Err, sym, ap, subst, ◌∙◌, arith, inl, inr, get_or}
use Rattle.std.specs.Prelude.{◌==◌, nat_le, IsTrue, IfOk, IfErr}
use Rattle.std.specs.List.{Contains, AllByRecursion, list_any}
use Rattle.std.specs.List.Sorted.{IsPermutation}
use Rattle.std.specs.Ordering.{nat_cmp, is_lt, is_gt}
use Rattle.std.specs.BTreeMap.{is_at}
use Rattle.std.specs.BTreeMap.Range.{IsLeBy}
use Rattle.std.proofs.lemmas.Bool.{cases_Bool, cond-true, cond-false, cond_both, eqb-true}
use Rattle.std.proofs.lemmas.Bool.Decides.{nat_tests}
use Rattle.std.proofs.lemmas.List.{get_or_default}
use Rattle.std.proofs.lemmas.List.Sorted.{Contains-permutation}
use Rattle.std.proofs.lemmas.Option.{same_Some, none-some}
use Rattle.metering_model.specs.Batch.{Batch}
use Rattle.metering_model.specs.Holding.{Holding, put}
use Rattle.metering_model.proofs.BatchOrder.{put_cases}
use Rattle.batch_view.specs.declared.owned.Amendment.{Amendment}
use Rattle.batch_view.specs.Kept.{amendments_in}
use Rattle.batch_store.specs.Inner.Shelves.{at_seq, up_to_seq}
use Rattle.batch_store.specs.Inner.Amenders.{pair_of, IsListed, KeepsListed, AreListed, NoneListed, IsLastListed, IsIndexOf, NoneAmends, IsLastAmender}

-- ---- the last that is listed

abbrev pub Between : ℕ → ℕ → ℕ → Type 0
Between low high q = IsLeBy nat_cmp low q × IsLeBy nat_cmp q high

between : (low high q : ℕ) → low ≤ q → q ≤ high → Between low high q
between low high q from to = (up_to low q from, up_to q high to)
  where
    up_to : (x y : ℕ) → x ≤ y → is_gt (nat_cmp x y) ≡ false
    up_to x y less = grind (arith, nat_tests)

not_over : (x y : ℕ) → is_gt (nat_cmp x y) ≡ false → x ≤ y
not_over x y e = grind (arith, nat_tests)

not_above : (k q : ℕ) → is_lt (nat_cmp k q) ≡ false → q ≤ k
not_above k q e = grind (arith, nat_tests)

pub last_listed : (seq upto low high k : ℕ) (pairs : List ℕ) → low ≡ pair_of seq (seq + 1) → high ≡ pair_of seq upto → Between low high k → IsTrue (list_any (is_at (nat_cmp k)) pairs)
    → ((q : ℕ) → Between low high q → IsTrue (list_any (is_at (nat_cmp q)) pairs) → is_lt (nat_cmp k q) ≡ false) → IsLastListed seq upto pairs (k - pair_of seq 0)
last_listed seq upto low high k pairs from to is there greater =
    let above = not_over low k is.0 in
    let below = not_over k high is.1 in
    let same : k ≡ pair_of seq (k - pair_of seq 0) = omega (arith, above, from) in
    record {
      behind = omega (arith, above, from);
      within = omega (arith, above, below, from, to);
      listed = subst (λ q. IsTrue (list_any (is_at (nat_cmp q)) pairs)) same there;
      none_later = λ by later until listed.
          let inside = between low high (pair_of seq by) (omega (arith, from, above, later)) (omega (arith, to, until)) in
          let up = not_above k (pair_of seq by) (greater (pair_of seq by) inside listed) in
          absurd (omega (arith, up, later, above, from));
    }

-- ---- what an index has of each batch

all_at : {X : Type 0} (P : X → Type 0) (xs : List X) (x : X) → All P xs → Contains xs x → P x
all_at P xs x all has = subst P has.2 (all has.0 x has.1)

all_moved : {X : Type 0} (P : X → Type 0) (xs ys : List X) → IsPermutation xs ys → All P ys → All P xs
all_moved P xs ys moved all k d less = all_at P ys (get_or xs k d) all (Contains-permutation xs ys (get_or xs k d) moved (k, less, get_or_default xs k (get_or xs k d) d less))

-- the batch at a sequence has what each has
at_of : (P : Batch → Type 0) (h : Holding) (s : ℕ) (b : Batch) → AllByRecursion P h → at_seq h s ≡ Some b → P b × (b.seq ≡ s)
at_of P [] s b all e = absurd (none-some b e)
at_of P (c ∷ h) s b all e = elim (cases_Bool (c.seq == s)) [
  | inl t ↦
      let same : c ≡ b = same_Some c b (sym (cond-true (c.seq == s) (Some c) (at_seq h s) t) ∙ e) in
      (subst P same all.0, ap (λ x. x.seq) (sym same) ∙ eqb-true c.seq s t)
  | inr f ↦ at_of P h s b all.1 (sym (cond-false (c.seq == s) (Some c) (at_seq h s) f) ∙ e)
]

index_kept : (h : Holding) (old new : List ℕ) → KeepsListed old new → IsIndexOf h old → IsIndexOf h new
index_kept [] old new kept index = tt
index_kept (b ∷ h) old new kept index = ((λ k d less earlier. kept (get_or (amendments_in b) k d).seq b.seq (index.0 k d less earlier)), index_kept h old new kept index.1)

index_put : (h : Holding) (b : Batch) (pairs : List ℕ) → AreListed b.seq (amendments_in b) pairs → IsIndexOf h pairs → IsIndexOf (put h b) pairs
index_put [] b pairs listed index = (listed, tt)
index_put (c ∷ h) b pairs listed index = put_cases (λ k. IsIndexOf k pairs) b c h (λ _. (listed, index)) (λ _. (index.0, index_put h b pairs listed index.1)) (λ _. index)

pub index_after : (h new : Holding) (old pairs : List ℕ) → KeepsListed old pairs → IsIndexOf h old → new ≡ h → IsIndexOf new pairs
index_after h new old pairs kept index is = subst (λ k. IsIndexOf k pairs) (sym is) (index_kept h old pairs kept index)

-- a batch was listed, and then put, or not for want of memory,
pub index_after_put : {E : Type 0} (r : Result Bool E) (h new : Holding) (b : Batch) (sorted : List Amendment) (old pairs : List ℕ) → IsPermutation (amendments_in b) sorted → KeepsListed old pairs → AreListed b.seq sorted pairs → IsIndexOf h old
    → IfOk r (λ _. new ≡ put h b) → IfErr r (λ _. new ≡ h) → IsIndexOf new pairs
index_after_put (Ok added) h new b sorted old pairs moved kept listed index ok err =
    subst (λ k. IsIndexOf k pairs) (sym ok)
    (index_put h b pairs (all_moved (λ a. a.seq < b.seq → IsListed a.seq b.seq pairs) (amendments_in b) sorted moved listed) (index_kept h old pairs kept index))
index_after_put (Err e) h new b sorted old pairs moved kept listed index ok err = index_after h new old pairs kept index err

-- and of a part an index of the whole is one.
pub index_part : (last : ℕ) (h : Holding) (pairs : List ℕ) → IsIndexOf h pairs → IsIndexOf (up_to_seq last h) pairs
index_part last [] pairs index = tt
index_part last (b ∷ h) pairs index =
    let rest = index_part last h pairs index.1 in
    cond_both (nat_le b.seq last) (b ∷ up_to_seq last h) (up_to_seq last h) (λ k. IsIndexOf k pairs) (λ _. (index.0, rest)) (λ _. rest)

-- ---- what it says of amendments

none_amends : (h : Holding) (pairs : List ℕ) (seq from to : ℕ) → IsIndexOf h pairs → seq ≤ from → NoneListed seq from to pairs → NoneAmends (at_seq h) seq from to
none_amends h pairs seq from to index least none by b above until at a has is =
    let found = at_of (λ c. AreListed c.seq (amendments_in c) pairs) h by b index at in
    let listed = all_at (λ x. x.seq < b.seq → IsListed x.seq b.seq pairs) (amendments_in b) a found.0 has (omega (arith, found.1, is, least, above)) in
    none by above until (subst (λ s. IsListed s by pairs) is (subst (λ n. IsListed a.seq n pairs) found.1 listed))

pub last_of_index : (h : Holding) (pairs : List ℕ) (seq upto : ℕ) (o : Option ℕ) → IsIndexOf h pairs → MatchOption o (NoneListed seq seq upto pairs) (IsLastListed seq upto pairs) → MatchOption o (NoneAmends (at_seq h) seq seq upto) (IsLastAmender (at_seq h) seq upto)
last_of_index h pairs seq upto None index none = none_amends h pairs seq seq upto index (omega arith) none
last_of_index h pairs seq upto (Some last) index is = record {
  behind = is.behind;
  within = is.within;
  none_later = let behind = is.behind in none_amends h pairs seq last upto index (omega (arith, behind)) is.none_later;
}

-- where batches are found alike
pub last_found : (f g : ℕ → Option Batch) (seq upto : ℕ) (o : Option ℕ) → ((s : ℕ) → f s ≡ g s) → MatchOption o (NoneAmends g seq seq upto) (IsLastAmender g seq upto) → MatchOption o (NoneAmends f seq seq upto) (IsLastAmender f seq upto)
last_found f g seq upto None same none = λ by b above until at. none by b above until (sym (same by) ∙ at)
last_found f g seq upto (Some last) same is = record {
  behind = is.behind;
  within = is.within;
  none_later = λ by b above until at. is.none_later by b above until (sym (same by) ∙ at);
}
