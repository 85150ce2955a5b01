-- The last part of a text stands behind the last such byte.
use Rattle.std.proofs.Common.{◌≡◌, ℕ, suc, ◌+◌, ◌<◌, ◌==◌, true, false, List, [], ◌∷◌, ◌++◌, length, take, drop, get_or, refl, sym, ap, ap₂, ◌∙◌, arith, length-drop, drop-cons}
use Rattle.std.specs.List.{list_any, slice_split}
use Rattle.std.proofs.lemmas.Bool.{and_from, not_from_false, false_from_ne_true, eqb-true}
use Rattle.std.proofs.lemmas.List.{take-append-drop, length-take-le, get_or-drop}
use Rattle.std.proofs.lemmas.List.Splits.{length-slice_split}
use Rattle.memchr.specs.Find.{Nowhere, NoneAfter, Passes, is_byte}
use Rattle.metering_model.specs.Batch.{lacks}
use Rattle.metering_model.proofs.Splitting.{cut_last}
use Rattle.record_view.specs.Parts.{LentText, placed_from, parts_at}
use Rattle.record_view.specs.Inner.Placed.{IsPlaced, front_of, back_of}
use Rattle.record_view.proofs.PartLaws.{parts_whole}
use Rattle.record_view.proofs.SpanLaws.{end_of, end_of-parts}

-- ---- texts without the byte

all_lack : (byte : ℕ) (xs : List ℕ) → ((k : ℕ) → k < length xs → (get_or xs k 0 == byte) ≡ true → ⊥) → lacks byte xs ≡ true
all_lack byte [] none = refl
all_lack byte (x ∷ xs) none =
    and_from _ _ (not_from_false _ (false_from_ne_true _ (λ e. none 0 (omega arith) e))) (all_lack byte xs (λ k within e. none (suc k) (omega arith) e))

none_has : (byte : ℕ) (xs : List ℕ) → ((k : ℕ) → k < length xs → (get_or xs k 0 == byte) ≡ true → ⊥) → list_any (λ c. c == byte) xs ≡ false
none_has byte [] none = refl
none_has byte (x ∷ xs) none =
    rw (false_from_ne_true (x == byte) (λ e. none 0 (omega arith) e)) (none_has byte xs (λ k within e. none (suc k) (omega arith) e))

lacks_behind : (byte i : ℕ) (xs : List ℕ) → NoneAfter (Passes (is_byte byte) xs) 0 (length xs) i → lacks byte (drop (i + 1) xs) ≡ true
lacks_behind byte i xs last =
    all_lack byte (drop (i + 1) xs)
    (λ k within e. last.after (i + 1 + k) (omega arith) (omega (arith, length-drop (i + 1) xs)) (ap (λ c. c == byte) (sym (get_or-drop (i + 1) xs k 0)) ∙ e))

-- ---- places

-- one text more, behind the others
placed_last : (from : ℕ) (ps : List (List ℕ)) (q : List ℕ) → 0 < length ps
    → placed_from from (ps ++ q ∷ []) ≡ placed_from from ps ++ record { text = q; from = end_of from ps + 1; to = end_of from ps + 1 + length q } ∷ []
placed_last from [] q some = absurd (omega arith)
placed_last from (t ∷ []) q some = refl
placed_last from (t ∷ u ∷ ts) q some =
    ap (λ ps. record { text = t; from = from; to = from + length t } ∷ ps) (placed_last (from + length t + 1) (u ∷ ts) q (omega arith))

cut_there : (byte i : ℕ) (xs : List ℕ) → i < length xs → get_or xs i 0 ≡ byte → xs ≡ take i xs ++ byte ∷ drop (i + 1) xs
cut_there byte i xs within here =
    let next : suc i ≡ i + 1 = omega arith in
    sym (take-append-drop i xs) ∙ ap (λ r. take i xs ++ r) (drop-cons xs i 0 within ∙ ap₂ (λ c n. c ∷ drop n xs) here next)

parts_last : (byte i : ℕ) (t : LentText) → IsPlaced t → i < length t.text → get_or t.text i 0 ≡ byte → lacks byte (drop (i + 1) t.text) ≡ true
    → parts_at byte t ≡ parts_at byte (front_of i t) ++ back_of i t ∷ []
unfolding parts_at
parts_last byte i t placed within here none =
    let front = take i t.text in
    let back = drop (i + 1) t.text in
    let long = length-take-le i t.text (omega arith) in
    let ends = end_of-parts (λ c. c == byte) t.from front in
    let some : 0 < length (slice_split (λ c. c == byte) front) = omega (arith, length-slice_split (λ c. c == byte) front) in
    let begins : end_of t.from (slice_split (λ c. c == byte) front) + 1 ≡ t.from + i + 1 = omega (arith, ends, long) in
    let stops : end_of t.from (slice_split (λ c. c == byte) front) + 1 + length back ≡ t.to = omega (arith, ends, long, length-drop (i + 1) t.text, placed.fits) in
    ap (placed_from t.from) (ap (slice_split (λ c. c == byte)) (cut_there byte i t.text within here) ∙ cut_last byte front back none)
    ∙ placed_last t.from (slice_split (λ c. c == byte) front) back some
    ∙ ap₂ (λ a b. placed_from t.from (slice_split (λ c. c == byte) front) ++ record { text = back; from = a; to = b } ∷ []) begins stops

-- ---- a text cut at the last such byte

pub parts_cut_last : (byte i : ℕ) (t a b : LentText) → a ≡ front_of i t → b ≡ back_of i t → IsPlaced t
    → NoneAfter (Passes (is_byte byte) t.text) 0 (length t.text) i → Passes (is_byte byte) t.text i → parts_at byte t ≡ parts_at byte a ++ b ∷ []
parts_cut_last byte i t a b front back placed last here =
    parts_last byte i t placed last.high (eqb-true _ _ here) (lacks_behind byte i t.text last)
    ∙ ap₂ (λ x y. parts_at byte x ++ y ∷ []) (sym front) (sym back)

pub parts_not_cut : (byte : ℕ) (t : LentText) → IsPlaced t → Nowhere (Passes (is_byte byte) t.text) 0 (length t.text) → parts_at byte t ≡ t ∷ []
parts_not_cut byte t placed none = parts_whole byte t placed (none_has byte t.text (λ k within e. none k (omega arith) within e))
