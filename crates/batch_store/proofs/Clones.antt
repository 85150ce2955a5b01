-- Batches that are shared once more.
use Rattle.std.proofs.Common.{◌≡◌, ℕ, ◌+◌, ◌*◌, ◌≤◌, List, [], ◌∷◌, ◌++◌, length, refl, sym, ap, subst, ◌∙◌, arith, append_assoc, length-append}
use Rattle.std.specs.Prelude.{Some, slice_get}
use Rattle.std.specs.List.{flat_map}
use Rattle.std.specs.Arc.{arc_value}
use Rattle.std.proofs.lemmas.Option.{same_Some}
use Rattle.batch_store.specs.Inner.Shelves.{Shared, Filed, IsShelf, AreCounted, AreFiled, batches_filed, on_shelf}
use Rattle.batch_store.specs.Inner.Rows.{AreClones, AreFull, Part, batches_in, in_parts}
use Rattle.batch_store.proofs.ShareLemmas.{clones_same}
use Rattle.batch_store.proofs.ShelfLemmas.{moved_first}

pub same_clones : (xs : List Shared) → AreClones xs xs
same_clones [] = tt
same_clones (x ∷ xs) = (refl, same_clones xs)

pub clones_joined : (xs ys xs' ys' : List Shared) → AreClones xs ys → AreClones xs' ys' → AreClones (xs ++ xs') (ys ++ ys')
clones_joined [] [] xs' ys' z z' = z'
clones_joined [] (y ∷ ys) xs' ys' z z' = absurd z
clones_joined (x ∷ xs) [] xs' ys' z z' = absurd z
clones_joined (x ∷ xs) (y ∷ ys) xs' ys' z z' = (z.0, clones_joined xs ys xs' ys' z.1 z')

pub clones_length : (xs ys : List Shared) → AreClones xs ys → length ys ≡ length xs
clones_length xs ys z = (clones_same xs ys z).1

-- ---- parts of 64

pub parts_length : (parts : List Part) (last : List Shared) → AreFull parts → length (in_parts parts last) ≡ 64 * length parts + length last
parts_length [] last full = omega arith
parts_length (p ∷ parts) last full =
    let whole = ap length (append_assoc (batches_in p) (flat_map batches_in parts) last) in
    let first = length-append (batches_in p) (in_parts parts last) in
    let rest = parts_length parts last full.1 in
    omega (arith, full.0, whole, first, rest)

-- ---- shelves whose first parts are clones

pub same_shelf : (xs ys : List Shared) (ahead : List Filed) → AreClones xs ys → IsShelf xs ahead → IsShelf ys ahead
same_shelf xs ys ahead z is =
    let same = clones_same xs ys z in
    record {
      counted = subst (AreCounted 1) (sym same.0) is.counted;
      short = subst (λ n. n ≤ 1_000_000) (sym same.1) is.short;
      filed = subst (λ n. AreFiled (n + 1) ahead) (sym same.1) is.filed;
    }

pub on_same_shelf : (xs ys : List Shared) (ahead : List Filed) → AreClones xs ys → on_shelf ys ahead ≡ on_shelf xs ahead
on_same_shelf xs ys ahead z = ap (λ h. h ++ batches_filed ahead) (clones_same xs ys z).0

clones_last : (xs : List Shared) (a b : Shared) → arc_value b ≡ arc_value a → AreClones (xs ++ a ∷ []) (xs ++ b ∷ [])
clones_last [] a b e = (e, tt)
clones_last (x ∷ xs) a b e = (refl, clones_last xs a b e)

clones_after : (xs ys zs : List Shared) → AreClones xs ys → AreClones ys zs → AreClones xs zs
clones_after [] [] [] p q = tt
clones_after [] [] (z ∷ zs) p q = absurd q
clones_after [] (y ∷ ys) zs p q = absurd p
clones_after (x ∷ xs) [] zs p q = absurd p
clones_after (x ∷ xs) (y ∷ ys) [] p q = absurd q
clones_after (x ∷ xs) (y ∷ ys) (z ∷ zs) p q = (q.0 ∙ p.0, clones_after xs ys zs p.1 q.1)

-- the first of the second part moved behind the first part, by another hand
pub moved_clone : (whole : List Shared) (ahead : List Filed) (e : Filed) (es : List Filed) (k : ℕ) (a b : Shared) (now : List Shared) → IsShelf whole ahead → slice_get ahead 0 ≡ Some (k, a)
    → k ≡ length whole + 1 → ahead ≡ e ∷ es → arc_value b ≡ arc_value a → AreClones (whole ++ b ∷ []) now
    → IsShelf now es × (on_shelf now es ≡ on_shelf whole ahead)
moved_clone whole ahead e es k a b now is seen next taken same added =
    let moved = moved_first whole ahead e es k a is seen next taken in
    let first : Some e ≡ Some (k, a) = sym (ap (λ xs. slice_get xs 0) taken) ∙ seen in
    let own : arc_value b ≡ arc_value e.1 = same ∙ sym (ap (λ (x : Filed). arc_value x.1) (same_Some e (k, a) first)) in
    let clones = clones_after (whole ++ e.1 ∷ []) (whole ++ b ∷ []) now (clones_last whole e.1 b own) added in
    (same_shelf (whole ++ e.1 ∷ []) now es clones moved.is, on_same_shelf (whole ++ e.1 ∷ []) now es clones ∙ moved.same)

-- the first of the second part stands at no sequence above the greatest
pub first_low : (whole : List Shared) (ahead : List Filed) (k : ℕ) (a : Shared) → IsShelf whole ahead → slice_get ahead 0 ≡ Some (k, a) → k ≤ 1_000_000
first_low whole [] k a is seen = absurd (cc)
first_low whole (e ∷ es) k a is seen =
    let same : e.0 ≡ k = ap (λ (x : Filed). x.0) (same_Some e (k, a) seen) in
    omega (arith, same, is.filed.1)
