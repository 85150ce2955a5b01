-- What a scan of plain text has passed.
use Rattle.std.proofs.Common.{◌≡◌, ℕ, zero, suc, ◌+◌, ◌<◌, ◌≤◌, ◌==◌, ◌||◌, Bool, true, false, List, [], ◌∷◌, ◌++◌, Option, Some, None, is_some, length, take, drop, get_or, refl, sym, ap, ◌∙◌, arith, drop-cons, ℤ}
use Rattle.std.specs.List.{list_any, list_all, position}
use Rattle.std.proofs.lemmas.Bool.{or_parts, and_parts, and_from, false≢true, false_from_ne_true, eqb-true, eq-eqb}
use Rattle.std.proofs.lemmas.Bool.Decides.{nat_tests}
use Rattle.std.proofs.lemmas.List.{take-append-drop, get_or-take, length-take-le}
use Rattle.std.proofs.lemmas.List.Folds.{list_all_more, list_all_at, list_any-append}
use Rattle.std.proofs.lemmas.List.Sums.{fails_before_first}
use Rattle.metering_model.specs.Batch.{is_text, is_text_byte}
use Rattle.metering_model.specs.Dates.{stamp_in}
use Rattle.metering_model.proofs.Splitting.{list_all_weaker}
use Rattle.metering_model.proofs.DateLaws.{stamp_read}
use Rattle.metering_model.proofs.FieldBytes.{is_inner, stamp_is_inner}
use Rattle.record_view.specs.Inner.Plain.{stops_at}
use Rattle.record_view.specs.Plain.{is_plain, is_plain_byte}
use Rattle.record_view.proofs.PartLaws.{found_any, found_at}
use Rattle.byte_text.proofs.FirstPlace.{position_is}

-- ---- one byte

pub goes_on : (byte c : ℕ) → stops_at byte c ≡ false → is_plain_byte c ≡ true
goes_on byte c h = grind (arith, nat_tests)

is_other : (byte c : ℕ) → stops_at byte c ≡ false → (c == byte) ≡ false
is_other byte c h = grind (arith, nat_tests)

no_bar : (c : ℕ) → is_plain_byte c ≡ true → (c == 124) ≡ false
no_bar c h = grind (arith, nat_tests)

text_byte : (c : ℕ) → is_plain_byte c ≡ true → is_text_byte c ≡ true
text_byte c h = grind (arith, nat_tests)

-- ---- a plain text

pub plain_text : (ts : List ℕ) → is_plain ts ≡ true → is_text ts ≡ true
plain_text ts h = list_all_weaker is_plain_byte is_text_byte text_byte ts h

pub plain_no_bar : (ts : List ℕ) → is_plain ts ≡ true → list_any (λ c. c == 124) ts ≡ false
plain_no_bar [] h = refl
plain_no_bar (c ∷ cs) h =
    let both = and_parts (is_plain_byte c) (is_plain cs) h in
    rw (no_bar c both.0) (plain_no_bar cs both.1)

-- ---- what the scan has passed

all_below : (p : ℕ → Bool) (xs : List ℕ) (i : ℕ) → i ≤ length xs → ((k : ℕ) → k < i → p (get_or xs k 0) ≡ true) → list_all p (take i xs) ≡ true
all_below p xs zero h f = refl
all_below p xs (suc i) h f =
    let next : suc i ≡ i + 1 = omega arith in
    ap (λ n. list_all p (take n xs)) next ∙ list_all_more p xs i 0 (omega arith)
    ∙ and_from _ _ (all_below p xs i (omega arith) (λ k below. f k (omega arith))) (f i (omega arith))

passed : (byte : ℕ) (ts : List ℕ) (i : ℕ) → position (stops_at byte) ts ≡ Some i → (k : ℕ) → k < i → stops_at byte (get_or ts k 0) ≡ false
passed byte ts i h k below =
    let found = found_at (stops_at byte) ts i h in
    fails_before_first (stops_at byte) ts k 0 (omega arith)

-- where the scan stops at the byte, that is the first such byte
pub first_is : (byte : ℕ) (ts : List ℕ) (i : ℕ) → position (stops_at byte) ts ≡ Some i → get_or ts i 0 ≡ byte → position (λ c. c == byte) ts ≡ Some i
first_is byte ts i h here =
    position_is (λ c. c == byte) ts i (found_at (stops_at byte) ts i h).1 (λ k below. is_other byte (get_or ts k 0) (passed byte ts i h k below)) (eq-eqb _ _ here)

pub front_plain : (byte : ℕ) (ts : List ℕ) (i : ℕ) → position (stops_at byte) ts ≡ Some i → is_plain (take i ts) ≡ true
front_plain byte ts i h =
    let found = found_at (stops_at byte) ts i h in
    all_below is_plain_byte ts i (omega arith) (λ k below. goes_on byte (get_or ts k 0) (passed byte ts i h k below))

-- the bars of a text whose front is plain are those behind it
pub bars_behind : (ts : List ℕ) (i : ℕ) → i < length ts → is_plain (take i ts) ≡ true → (get_or ts i 0 == 124) ≡ false
    → list_any (λ c. c == 124) ts ≡ list_any (λ c. c == 124) (drop (i + 1) ts)
bars_behind ts i within plain other =
    let next : suc i ≡ i + 1 = omega arith in
    let whole = sym (take-append-drop i ts) ∙ ap (λ r. take i ts ++ r) (drop-cons ts i 0 within ∙ ap (λ n. get_or ts i 0 ∷ drop n ts) next) in
    ap (list_any (λ c. c == 124)) whole
    ∙ list_any-append (λ c. c == 124) (take i ts) (get_or ts i 0 ∷ drop (i + 1) ts)
    ∙ ap (λ b. b || list_any (λ c. c == 124) (get_or ts i 0 ∷ drop (i + 1) ts)) (plain_no_bar (take i ts) plain)
    ∙ ap (λ b. b || list_any (λ c. c == 124) (drop (i + 1) ts)) other

-- ---- where the scan finds nothing

none_weaker : (p q : ℕ → Bool) → ((c : ℕ) → p c ≡ false → q c ≡ false) → (xs : List ℕ) → list_any p xs ≡ false → list_any q xs ≡ false
none_weaker p q f [] h = refl
none_weaker p q f (x ∷ xs) h =
    let both = or_parts (p x) (list_any p xs) h in
    rw (f x both.0) (none_weaker p q f xs both.1)

pub none_found : (byte : ℕ) (ts : List ℕ) → position (stops_at byte) ts ≡ None → list_any (λ c. c == byte) ts ≡ false
none_found byte ts h = none_weaker (stops_at byte) (λ c. c == byte) (is_other byte) ts (sym (found_any (stops_at byte) ts) ∙ ap is_some h)

-- ---- a stamp before a bar

stamp_passes : (t : List ℕ) → is_some (stamp_in t) ≡ true → (k : ℕ) → k < length t → (get_or t k 0 == 124) ≡ false
stamp_passes t is k within = by_stamp (stamp_in t) refl is
  where
    inner : (n : ℤ) → stamp_in t ≡ Some n → (get_or t k 0 == 124) ≡ false
    inner n h = false_from_ne_true _ (λ e. false≢true (sym (list_all_at is_inner t k 0 within (ap is_inner (eqb-true (get_or t k 0) 124 e))) ∙ stamp_is_inner t n (stamp_read t n h)))

    by_stamp : (o : Option ℤ) → stamp_in t ≡ o → is_some o ≡ true → (get_or t k 0 == 124) ≡ false
    by_stamp None h some = absurd (false≢true some)
    by_stamp (Some n) h some = inner n h

pub stamp_bar : (ts : List ℕ) → 20 < length ts → get_or ts 20 0 ≡ 124 → is_some (stamp_in (take 20 ts)) ≡ true → position (λ c. c == 124) ts ≡ Some 20
stamp_bar ts long bar stamp =
    position_is (λ c. c == 124) ts 20 long
    (λ k below. ap (λ c. c == 124) (sym (get_or-take 20 ts k 0 below)) ∙ stamp_passes (take 20 ts) stamp k (omega (arith, length-take-le 20 ts (omega arith))))
    (eq-eqb _ _ bar)
