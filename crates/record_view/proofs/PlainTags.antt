-- The key of a tag of plain bytes, found in a text that goes on behind it.
use Rattle.std.proofs.Common.{◌≡◌, ℕ, zero, suc, ◌<◌, ◌≤◌, ◌==◌, ◌&&◌, Bool, true, false, not, Some, None, is_some, List, [], ◌∷◌, length, take, drop, get_or, min, refl, sym, ap, ◌∙◌, arith}
use Rattle.std.specs.Prelude.{if◌then◌else◌}
use Rattle.std.specs.List.{list_any, position, position_or_len, before_first, after_first}
use Rattle.std.specs.Option.{option_map}
use Rattle.std.proofs.lemmas.Bool.{and_from, and_parts, or_parts, cond-true, true≢false, le-ltb, lt-ltb, ltb-false, ne_eqb, eq-eqb, eqb-true}
use Rattle.std.proofs.lemmas.List.{get_or-take, length-take-le, take-take}
use Rattle.std.proofs.lemmas.Bool.Decides.{nat_tests}
use Rattle.std.proofs.lemmas.List.Folds.{list_all_at}
use Rattle.std.proofs.lemmas.List.Sums.{passes_at_first, position_or_len_is, prefix_len-le-length}
use Rattle.metering_model.specs.Batch.{Tag, is_text, is_empty, is_below}
use Rattle.metering_model.specs.BatchReading.{is_equals_sign}
use Rattle.byte_text.specs.Runs.{IsRun}
use Rattle.byte_text.proofs.FirstPlace.{position_is}
use Rattle.record_view.specs.Inner.Plain.{stops_at}
use Rattle.record_view.specs.Plain.{is_plain, is_plain_byte}
use Rattle.record_view.specs.Inner.TagParts.{key_in}
use Rattle.record_view.proofs.PartLaws.{found_any, found_at, within_any}
use Rattle.record_view.proofs.PlainLaws.{goes_on, plain_text}

-- the first that passes among the bytes before a place, where a look at so many from the front found one
pub first_before : (test : ℕ → Bool) (t : List ℕ) (many run e : ℕ) → IsRun test t many run → run < many → many ≤ length t → e ≤ length t
    → min run e ≡ position_or_len test (take e t)
first_before test t many run e is found few room =
    let long = length-take-le e t room in
    sym (position_or_len_is test (take e t) (min run e) 0 (omega (arith, long))
    (λ k below. ap test (get_or-take e t k 0 (omega arith)) ∙ is.before k (omega arith))
    (λ within. ap test (get_or-take e t (min run e) 0 (omega (arith, long, within)))
    ∙ ap (λ n. test (get_or t n 0)) (omega (arith, long, within)) ∙ is.here found))

-- a look to the end of these bytes finds a place among them, or that end
pub first_is_before : (test : ℕ → Bool) (t : List ℕ) (e place : ℕ) → e ≤ length t → place ≡ position_or_len test (take e t) → min place e ≡ place
first_is_before test t e place room is = omega (arith, is, length-take-le e t room, prefix_len-le-length (λ x. not (test x)) (take e t))

-- where none was found, the place of the first is the end
pub past_all : (test : ℕ → Bool) (t : List ℕ) → position test t ≡ None → position_or_len test t ≡ length t
past_all test t h =
    let none = ltb-false (position_or_len test t) (length t) (within_any test t ∙ sym (found_any test t) ∙ ap is_some h) in
    omega (arith, none, prefix_len-le-length (λ x. not (test x)) t)

-- a byte behind another one is the first of its kind
pub second_is : (byte : ℕ) (t : List ℕ) → 1 < length t → (get_or t 0 0 ≡ byte → ⊥) → get_or t 1 0 ≡ byte → position (λ c. c == byte) t ≡ Some 1
second_is byte t long other here =
    position_is (λ c. c == byte) t 1 long (λ i below. ap (λ k. get_or t k 0 == byte) (omega arith) ∙ ne_eqb _ _ other) (eq-eqb _ _ here)

-- no text is below the empty one
pub none_below : (a b : List ℕ) → (length b == 0) ≡ true → is_below a b ≡ false
none_below [] [] h = refl
none_below (c ∷ cs) [] h = refl
none_below a (c ∷ cs) h = absurd (omega (arith, eqb-true (length (c ∷ cs)) 0 h))

some_text : (t : List ℕ) → 0 < length t → not (is_empty t) ≡ true
some_text [] h = absurd (omega arith)
some_text (c ∷ cs) h = refl

-- what stands before the first `=` of plain bytes, if it is not empty, is their key
key_of : (t : List ℕ) → 0 < position_or_len is_equals_sign t → position_or_len is_equals_sign t < length t → is_plain t ≡ true → key_in t ≡ Some (before_first is_equals_sign t)
key_of t some within plain =
    let key = before_first is_equals_sign t in
    let long : 0 < length key = omega (arith, length-take-le (position_or_len is_equals_sign t) t (omega arith)) in
    let any = sym (within_any is_equals_sign t) ∙ lt-ltb (position_or_len is_equals_sign t) (length t) within in
    let tests = and_from _ _ (and_from _ _ (plain_text t plain) any) (some_text key long) in
    ap (option_map (λ g. g.key)) (cond-true (is_text t && list_any is_equals_sign t && not (is_empty key)) (Some (record { key = key; value = after_first is_equals_sign t })) None tests)

key_if : (text any some : Bool) (tag : Tag) → (any && some) ≡ false → option_map (λ g. g.key) (if text && any && some then Some tag else None) ≡ None
key_if false any some tag h = refl
key_if true false some tag h = refl
key_if true true false tag h = refl
key_if true true true tag h = absurd (true≢false h)

and_no : (b : Bool) → (b && false) ≡ false
and_no true = refl
and_no false = refl

-- the key of the bytes before a place
pub key_before : (t : List ℕ) (e n : ℕ) → e ≤ length t → 0 < n → n < e → n ≡ position_or_len is_equals_sign (take e t) → is_plain (take e t) ≡ true
    → key_in (take e t) ≡ Some (take n t)
key_before t e n room some within is plain =
    key_of (take e t) (omega (arith, is)) (omega (arith, is, length-take-le e t room)) plain
    ∙ ap (λ k. Some (take k (take e t))) (sym is)
    ∙ ap Some (take-take n e t (omega arith))

-- there is none where no `=` stands
pub no_key : (t : List ℕ) → length t ≤ position_or_len is_equals_sign t → key_in t ≡ None
no_key t past =
    let none = sym (within_any is_equals_sign t) ∙ le-ltb (position_or_len is_equals_sign t) (length t) past in
    key_if (is_text t) (list_any is_equals_sign t) (not (is_empty (before_first is_equals_sign t))) _
    (ap (λ b. b && not (is_empty (before_first is_equals_sign t))) none)

-- or where it stands first
pub no_key_at_front : (t : List ℕ) → position_or_len is_equals_sign t ≡ 0 → key_in t ≡ None
no_key_at_front t first =
    key_if (is_text t) (list_any is_equals_sign t) (not (is_empty (before_first is_equals_sign t))) _
    (ap (λ n. list_any is_equals_sign t && not (is_empty (take n t))) first ∙ and_no (list_any is_equals_sign t))

-- a text in which a scan stops nowhere is plain
none_stops : (byte : ℕ) (ts : List ℕ) → list_any (stops_at byte) ts ≡ false → is_plain ts ≡ true
none_stops byte [] h = refl
none_stops byte (c ∷ cs) h =
    let both = or_parts (stops_at byte c) (list_any (stops_at byte) cs) h in
    and_from _ _ (goes_on byte c both.0) (none_stops byte cs both.1)

pub all_plain : (byte : ℕ) (ts : List ℕ) → position (stops_at byte) ts ≡ None → is_plain ts ≡ true
all_plain byte ts h = none_stops byte ts (sym (found_any (stops_at byte) ts) ∙ ap is_some h)

no_plain_byte : (byte c : ℕ) → stops_at byte c ≡ true → (c ≡ byte → ⊥) → is_plain_byte c ≡ false
no_plain_byte byte c h other = grind (arith, nat_tests)

-- what is behind a byte of plain bytes is plain
pub plain_behind : (t : List ℕ) (n : ℕ) → is_plain t ≡ true → is_plain (drop n t) ≡ true
plain_behind t zero plain = plain
plain_behind [] (suc n) plain = refl
plain_behind (c ∷ cs) (suc n) plain = plain_behind cs n (and_parts _ _ plain).1

-- where a scan of plain bytes stops, it stops at its byte
pub stops_at_byte : (byte : ℕ) (ts : List ℕ) (i : ℕ) → position (stops_at byte) ts ≡ Some i → (get_or ts i 0 ≡ byte → ⊥) → is_plain ts ≡ false
stops_at_byte byte ts i h other =
    let found = found_at (stops_at byte) ts i h in
    let stops = ap (λ n. stops_at byte (get_or ts n 0)) (sym found.0) ∙ passes_at_first (stops_at byte) ts 0 (omega arith) in
    list_all_at is_plain_byte ts i 0 found.1 (no_plain_byte byte (get_or ts i 0) stops other)
