-- What a shelf has up to a sequence, in its two parts.
use Rattle.std.proofs.Common.{inl, inr, min, length-take, Bool, ◌≡◌, ℕ, zero, suc, ◌+◌, ◌<◌, ◌≤◌, true, false, List, [], ◌∷◌, ◌++◌, length, take, filter, refl, sym, ap, subst, ◌∙◌, arith, append_assoc}
use Rattle.std.specs.Prelude.{nat_le}
use Rattle.std.specs.List.{AllZip}
use Rattle.std.specs.Arc.{arc_value}
use Rattle.std.specs.Ordering.{nat_cmp, match_ordering}
use Rattle.std.specs.BTreeMap.{insert_entry}
use Rattle.std.proofs.lemmas.Bool.{cases_lt, cond-true, cond-false, cond_both, le-leb, lt-leb}
use Rattle.std.proofs.lemmas.List.{length-map, take-map, take_all, map-append}
use Rattle.std.proofs.lemmas.List.Elements.{filter-append}
use Rattle.metering_model.specs.Batch.{Batch}
use Rattle.metering_model.specs.Holding.{Holding}
use Rattle.batch_view.specs.Batches.{batch_of}
use Rattle.batch_store.specs.Inner.Shelves.{IsShelf, on_shelf, Shared, Filed, batch_shared, batches_shared, batches_filed, contents, filed_up_to, up_to_seq, AreCounted, AreFiled}
use Rattle.batch_store.proofs.ShelfLemmas.{cmp_greater}

head_same : (p q : ℕ × List ℕ) (ps qs : List (ℕ × List ℕ)) → p ∷ ps ≡ q ∷ qs → (p.0 ≡ q.0) × (p.1 ≡ q.1)
head_same p q ps qs e = let first : p ≡ q = cc in (ap (λ (x : ℕ × List ℕ). x.0) first, ap (λ (x : ℕ × List ℕ). x.1) first)

-- ---- a test of each

kept : {X : Type 0} (p : X → Bool) (x : X) (xs : List X) → p x ≡ true → filter p (x ∷ xs) ≡ x ∷ filter p xs
kept p x xs t = cond-true (p x) (x ∷ filter p xs) (filter p xs) t

left_out : {X : Type 0} (p : X → Bool) (x : X) (xs : List X) → p x ≡ false → filter p (x ∷ xs) ≡ filter p xs
left_out p x xs f = cond-false (p x) (x ∷ filter p xs) (filter p xs) f

within : (a b : ℕ) → a ≤ b → nat_le a b ≡ true
within a b h = le-leb a b h

beyond : (a b : ℕ) → b < a → nat_le a b ≡ false
beyond a b h = lt-leb a b h

-- ---- the first part

none_counted : (n last : ℕ) (h : Holding) → AreCounted n h → last < n → up_to_seq last h ≡ []
none_counted n last [] c less = refl
none_counted n last (b ∷ h) c less = left_out _ b h (beyond b.seq last (omega (arith, c.0))) ∙ none_counted (n + 1) last h c.1 (omega arith)

counted_up_to : (n k last : ℕ) (h : Holding) → AreCounted n h → n + k ≡ last + 1 → up_to_seq last h ≡ take k h
counted_up_to n zero last h c e = none_counted n last h c (omega (arith, e))
counted_up_to n (suc k) last [] c e = refl
counted_up_to n (suc k) last (b ∷ h) c e = kept _ b h (within b.seq last (omega (arith, c.0, e))) ∙ ap (λ xs. b ∷ xs) (counted_up_to (n + 1) k last h c.1 (omega (arith, e)))

counted_take : (n k : ℕ) (h : Holding) → AreCounted n h → AreCounted n (take k h)
counted_take n zero h c = tt
counted_take n (suc k) [] c = tt
counted_take n (suc k) (b ∷ h) c = (c.0, counted_take (n + 1) k h c.1)

pub clones_same : (xs bs : List Shared) → AllZip (λ a b. arc_value b ≡ arc_value a) xs bs → (batches_shared bs ≡ batches_shared xs) × (length bs ≡ length xs)
clones_same [] [] z = (refl, refl)
clones_same [] (b ∷ bs) z = absurd z
clones_same (a ∷ xs) [] z = absurd z
clones_same (a ∷ xs) (b ∷ bs) z = let rest = clones_same xs bs z.1 in (ap (λ v. batch_of v ∷ batches_shared bs) z.0 ∙ ap (λ h. batch_shared a ∷ h) rest.0, omega (arith, rest.1))

-- ---- the second part

filed_less : (m n : ℕ) (es : List Filed) → m ≤ n → AreFiled n es → AreFiled m es
filed_less m n [] less f = tt
filed_less m n (e ∷ es) less f = (omega (arith, f.0), f.1, f.2, f.3)

filed_kept : (n last : ℕ) (es : List Filed) → AreFiled n es → AreFiled n (filed_up_to last es)
filed_kept n last [] f = tt
filed_kept n last (e ∷ es) f =
    let rest = filed_kept (e.0 + 1) last es f.3 in
    cond_both (nat_le e.0 last) (e ∷ filed_up_to last es) (filed_up_to last es) (AreFiled n) (λ _. (f.0, f.1, f.2, rest)) (λ _. filed_less n (e.0 + 1) (filed_up_to last es) (omega (arith, f.0)) rest)

batches_up_to : (n last : ℕ) (es : List Filed) → AreFiled n es → up_to_seq last (batches_filed es) ≡ batches_filed (filed_up_to last es)
batches_up_to n last [] f = refl
batches_up_to n last (e ∷ es) f =
    let rest = batches_up_to (e.0 + 1) last es f.3 in
    let same = ap (λ s. nat_le s last) f.2 in
    cond_both (nat_le e.0 last) (e ∷ filed_up_to last es) (filed_up_to last es) (λ xs. up_to_seq last (batches_filed (e ∷ es)) ≡ batches_filed xs)
    (λ t. kept _ (batch_shared e.1) (batches_filed es) (same ∙ t) ∙ ap (λ xs. batch_shared e.1 ∷ xs) rest)
    (λ t. left_out _ (batch_shared e.1) (batches_filed es) (same ∙ t) ∙ rest)

-- what is filed with the same contents
filed_same : (n : ℕ) (es fs : List Filed) → contents es ≡ contents fs → AreFiled n fs → AreFiled n es × (batches_filed es ≡ batches_filed fs)
filed_same n [] [] same f = (tt, refl)
filed_same n [] (x ∷ fs) same f = absurd (cc)
filed_same n (e ∷ es) [] same f = absurd (cc)
filed_same n (e ∷ es) (x ∷ fs) same f =
    let key = (head_same _ _ _ _ same).0 in
    let bytes = (head_same _ _ _ _ same).1 in
    let more : contents es ≡ contents fs = cc in
    let batch : batch_shared e.1 ≡ batch_shared x.1 = ap batch_of bytes in
    let next : x.0 + 1 ≡ e.0 + 1 = omega (arith, key) in
    let rest = filed_same (e.0 + 1) es fs more (subst (λ m. AreFiled m fs) next f.3) in (
      (omega (arith, f.0, key), omega (arith, f.1, key), ap (λ (b : Batch). b.seq) batch ∙ (f.2 ∙ sym key), rest.0),
      ap (λ b. b ∷ batches_filed es) batch ∙ ap (λ xs. batch_shared x.1 ∷ xs) rest.1,
    )

-- a key that stands behind others is above them
above : (n : ℕ) (es : List Filed) (k : ℕ) (v : List ℕ) (rest : List (ℕ × List ℕ)) (all : List Filed) → AreFiled n all → contents es ++ (k, v) ∷ rest ≡ contents all → n ≤ k
above n es k v rest [] f same = absurd (no_more es same)
  where
    no_more : (es : List Filed) → contents es ++ (k, v) ∷ rest ≡ [] → ⊥
    no_more [] e = cc
    no_more (x ∷ es) e = cc
above n [] k v rest (x ∷ all) f same = let key = (head_same _ _ _ _ same).0 in omega (arith, f.0, key)
above n (e ∷ es) k v rest (x ∷ all) f same =
    let more : contents es ++ (k, v) ∷ rest ≡ contents all = cc in
    let low = above (x.0 + 1) es k v rest all f.3 more in
    omega (arith, f.0, low)

-- so it is put at the end
put_last : (n : ℕ) (es : List Filed) (k : ℕ) (a : Shared) (v : List ℕ) (rest : List (ℕ × List ℕ)) (all : List Filed) → AreFiled n all → contents es ++ (k, v) ∷ rest ≡ contents all → insert_entry nat_cmp es k a ≡ es ++ (k, a) ∷ []
put_last n [] k a v rest all f same = refl
put_last n (e ∷ es) k a v rest [] f same = absurd (cc)
put_last n (e ∷ es) k a v rest (x ∷ all) f same =
    let key = (head_same _ _ _ _ same).0 in
    let more : contents es ++ (k, v) ∷ rest ≡ contents all = cc in
    let low = above (x.0 + 1) es k v rest all f.3 more in
    ap (λ o. match_ordering o ((k, a) ∷ e ∷ es) ((e.0, a) ∷ es) (e ∷ insert_entry nat_cmp es k a)) (cmp_greater k e.0 (omega (arith, key, low)))
    ∙ ap (λ xs. e ∷ xs) (put_last (x.0 + 1) es k a v rest all f.3 more)

-- one more is shared
pub one_more : (n last : ℕ) (filed : List Filed) (part rest left now : List Filed) (e : Filed) (a : Shared) → AreFiled n filed → contents part ++ contents left ≡ contents (filed_up_to last filed) → left ≡ e ∷ rest
    → arc_value a ≡ arc_value e.1 → now ≡ insert_entry nat_cmp part e.0 a → contents now ++ contents rest ≡ contents (filed_up_to last filed)
one_more n last filed part rest left now e a f so_far taken same put =
    let here : contents part ++ (e.0, arc_value e.1) ∷ contents rest ≡ contents (filed_up_to last filed) = ap (λ xs. contents part ++ contents xs) (sym taken) ∙ so_far in
    let at_end : now ≡ part ++ (e.0, a) ∷ [] = put ∙ put_last n part e.0 a (arc_value e.1) (contents rest) (filed_up_to last filed) (filed_kept n last filed f) here in
    ap (λ xs. contents xs ++ contents rest) at_end
    ∙ (ap (λ xs. xs ++ contents rest) (map-append (λ (x : Filed). (x.0, arc_value x.1)) part ((e.0, a) ∷ []))
    ∙ (append_assoc (contents part) ((e.0, arc_value a) ∷ []) (contents rest) ∙ (ap (λ v. contents part ++ (e.0, v) ∷ contents rest) same ∙ here)))

-- ---- both parts

pub filed_low : (whole : List Shared) (ahead : List Filed) → IsShelf whole ahead → AreFiled 1 ahead
filed_low whole ahead is = filed_less 1 (length whole + 1) ahead (omega arith) is.filed

take_least : {X : Type 0} (n : ℕ) (xs : List X) → take (min (length xs) n) xs ≡ take n xs
take_least n xs = elim (cases_lt n (length xs)) [
  | inl less ↦ let count : min (length xs) n ≡ n = omega arith in ap (λ k. take k xs) count
  | inr more ↦ let count : min (length xs) n ≡ length xs = omega arith in
      ap (λ k. take k xs) count ∙ (take_all (length xs) xs (omega arith) ∙ sym (take_all n xs more))
]

pub shared_shelf : (whole : List Shared) (ahead : List Filed) (last count : ℕ) (now : List Shared) (part : List Filed) → IsShelf whole ahead → count ≡ min (length whole) last
    → AllZip (λ a b. arc_value b ≡ arc_value a) (take count whole) now → contents part ≡ contents (filed_up_to last ahead) → IsShelf now part × (on_shelf now part ≡ up_to_seq last (on_shelf whole ahead))
shared_shelf whole ahead last count now part is least clones same = (
  record { counted = subst (AreCounted 1) (sym first) (counted_take 1 count (batches_shared whole) is.counted); short = let short = is.short in omega (arith, shorter); filed = filed_less (length now + 1) (length whole + 1) part (omega (arith, shorter)) second.0 },
  ap (λ h. h ++ batches_filed part) (first ∙ (ap (λ k. take k (batches_shared whole)) count_is ∙ (take_least last (batches_shared whole) ∙ sym (counted_up_to 1 last last (batches_shared whole) is.counted (omega arith)))))
      ∙ (ap (λ h. up_to_seq last (batches_shared whole) ++ h) (second.1 ∙ sym (batches_up_to (length whole + 1) last ahead is.filed))
      ∙ sym (filter-append (λ b. nat_le b.seq last) (batches_shared whole) (batches_filed ahead))),
)
  where
    cloned : (batches_shared now ≡ batches_shared (take count whole)) × (length now ≡ length (take count whole))
    cloned = clones_same (take count whole) now clones

    first : batches_shared now ≡ take count (batches_shared whole)
    first = cloned.0 ∙ sym (take-map batch_shared count whole)

    shorter : length now ≤ length whole
    shorter = let taken = length-take count whole in omega (arith, cloned.1, taken)

    count_is : count ≡ min (length (batches_shared whole)) last
    count_is = least ∙ ap (λ n. min n last) (sym (length-map whole batch_shared))

    second : AreFiled (length whole + 1) part × (batches_filed part ≡ batches_filed (filed_up_to last ahead))
    second = filed_same (length whole + 1) part (filed_up_to last ahead) same (filed_kept (length whole + 1) last ahead is.filed)
