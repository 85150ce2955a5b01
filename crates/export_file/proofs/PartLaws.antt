-- The lines of all parts are the lines of all batches, and rooms are written one behind the other.
use Rattle.std.proofs.Common.{inl, inr, min, ◌≡◌, ℕ, suc, ◌+◌, ◌-◌, ◌*◌, ◌<◌, ◌≤◌, true, List, [], ◌∷◌, ◌++◌, cond, length, take, drop, get_or, sym, ap, ap₂, ◌∙◌, append_assoc, arith}
use Rattle.std.specs.Prelude.{◌==◌, IsTrue, Result, Ok, Err, OnErr, OnOk, IfOk}
use Rattle.std.specs.List.{flat_map, list_all}
use Rattle.std.proofs.lemmas.Bool.{and_parts, cases_lt}
use Rattle.std.proofs.lemmas.List.{append-nil, drop-drop, drop_all, length-drop, take-append-drop, take_all, take_more}
use Rattle.std.proofs.lemmas.List.Sums.{sum_by-append}
use Rattle.std.proofs.lemmas.Grind.{flat_map-append}
use Rattle.std.proofs.Math.Seq.{take-add}
use Rattle.metering_model.specs.File.{file, header_line, row_text}
use Rattle.metering_model.specs.Row.{Row}
use Rattle.metering_model.specs.Transcript.{line_count}
use Rattle.focus_csv.specs.Rows.{batch_lines, joined}
use Rattle.export_file.specs.declared.split.Room.{Room}
use Rattle.export_file.specs.Inner.Parts.{part_of, texts_in}

-- ---- the lines of parts

lines_join : (some more : List (List Row)) → batch_lines (some ++ more) ≡ batch_lines some ++ batch_lines more
lines_join some more = flat_map-append (flat_map row_text) some more

take_fewest : {X : Type 0} (n : ℕ) (xs : List X) → take (min n (length xs)) xs ≡ take n xs
take_fewest n xs = elim (cases_lt (length xs) n) [
  | inr less ↦ let count : min n (length xs) ≡ n = omega arith in ap (λ k. take k xs) count
  | inl more ↦
      let count : min n (length xs) ≡ length xs = omega arith in
      ap (λ k. take k xs) count ∙ take_all (length xs) xs (omega arith) ∙ sym (take_all n xs (omega arith))
]

-- from where a part begins to where it ends
pub part_is : (batches : List (List Row)) (size k all from to : ℕ) → all ≡ length batches → from ≡ min (k * size) all → to ≡ from + min size (all - from)
    → take (to - from) (drop from batches) ≡ part_of batches size k
part_is batches size k all from to is begins ends = elim (cases_lt all (k * size)) [
  | inr inside ↦
      let start : from ≡ k * size = omega (arith, begins, inside) in
      let rest = drop (k * size) batches in
      let left : length rest ≡ all - from = length-drop (k * size) batches ∙ omega (arith, is, start) in
      let count : to - from ≡ min size (length rest) = omega (arith, ends, left) in
      ap (λ n. take (to - from) (drop n batches)) start ∙ ap (λ n. take n rest) count ∙ take_fewest size rest
  | inl past ↦
      let none : drop from batches ≡ [] = drop_all from batches (omega (arith, begins, is, past)) in
      let none_of_it : drop (k * size) batches ≡ [] = drop_all (k * size) batches (omega (arith, is, past)) in
      take_all (to - from) (drop from batches) (omega (arith, length-drop from batches, begins, is, past))
      ∙ none
      ∙ sym none_of_it
      ∙ sym (take_all size (drop (k * size) batches) (omega (arith, length-drop (k * size) batches, is, past)))
]

none_of : (n : ℕ) → 0 * n ≡ 0
none_of n = omega arith

times_more : (k n : ℕ) → (k + 1) * n ≡ n + k * n
times_more k n = grind arith

one_more_of : (k n : ℕ) → suc k * n ≡ n + k * n
one_more_of k n = let same : suc k ≡ k + 1 = omega arith in ap (λ m. m * n) same ∙ times_more k n

abbrev AreLines : List (List Row) → List Room → ℕ → Type 0
AreLines batches rooms size =
    (k : ℕ) (d : Room) → k < length rooms → IsTrue (get_or rooms k d).is_made → (get_or rooms k d).text.items ≡ batch_lines (part_of batches size k)

later_lines : (batches : List (List Row)) (r : Room) (rs : List Room) (size : ℕ) → AreLines batches (r ∷ rs) size → AreLines (drop size batches) rs size
later_lines batches r rs size each k d within made =
    each (suc k) d (omega arith) made
    ∙ ap (λ n. batch_lines (take size (drop n batches))) (one_more_of k size)
    ∙ ap (λ t. batch_lines (take size t)) (sym (drop-drop (k * size) size batches))

parts_joined : (batches : List (List Row)) (rooms : List Room) (size : ℕ) → AreLines batches rooms size → list_all (λ room. room.is_made) rooms ≡ true
    → texts_in rooms ≡ batch_lines (take (length rooms * size) batches)
parts_joined batches [] size each made = ap (λ n. batch_lines (take n batches)) (sym (none_of size))
parts_joined batches (r ∷ rs) size each made =
    let parts = and_parts r.is_made (list_all (λ room. room.is_made) rs) made in
    let rest = length rs * size in
    ap₂ ◌++◌ (each 0 r (omega arith) parts.0 ∙ ap (λ n. batch_lines (take size (drop n batches))) (none_of size))
    (parts_joined (drop size batches) rs size (later_lines batches r rs size each) parts.1)
    ∙ sym (lines_join (take size batches) (take rest (drop size batches)))
    ∙ ap batch_lines (sym (take-add size rest batches))
    ∙ ap (λ n. batch_lines (take n batches)) (sym (one_more_of (length rs) size))

pub all_joined : (batches : List (List Row)) (rooms : List Room) (count size : ℕ) → length rooms ≡ count → length batches ≤ count * size → AreLines batches rooms size
    → list_all (λ room. room.is_made) rooms ≡ true → texts_in rooms ≡ batch_lines batches
all_joined batches rooms count size long enough each made =
    parts_joined batches rooms size each made ∙ ap batch_lines (take_all (length rooms * size) batches (omega (arith, enough, ap (λ n. n * size) long)))

-- ---- rooms that are written

pub one_more_room : (head : List ℕ) (rooms : List Room) (i : ℕ) (d : Room) → i < length rooms
    → (head ++ texts_in (take i rooms)) ++ (get_or rooms i d).text.items ≡ head ++ texts_in (take (i + 1) rooms)
one_more_room head rooms i d within =
    append_assoc head (texts_in (take i rooms)) (get_or rooms i d).text.items
    ∙ ap (λ t. head ++ t) (ap (λ t. texts_in (take i rooms) ++ t) (sym (append-nil (get_or rooms i d).text.items))
    ∙ sym (flat_map-append (λ (room : Room). room.text.items) (take i rooms) (get_or rooms i d ∷ []))
    ∙ ap texts_in (sym (take_more rooms i d within)))

pub rest_behind : (line : List ℕ) (rooms : List Room) (i : ℕ) → ((line ++ 10 ∷ []) ++ texts_in (take i rooms)) ++ texts_in (drop i rooms) ≡ line ++ 10 ∷ texts_in rooms
rest_behind line rooms i =
    append_assoc (line ++ 10 ∷ []) (texts_in (take i rooms)) (texts_in (drop i rooms))
    ∙ ap (λ t. (line ++ 10 ∷ []) ++ t) (sym (flat_map-append (λ (room : Room). room.text.items) (take i rooms) (drop i rooms)) ∙ ap texts_in (take-append-drop i rooms))
    ∙ append_assoc line (10 ∷ []) (texts_in rooms)

-- they hold the file behind its header line
pub file_in : (batches : List (List Row)) (rooms made : List Room) → rooms ≡ made → texts_in made ≡ batch_lines batches → (header_line ++ 10 ∷ []) ++ batch_lines batches ≡ file (joined batches)
    → header_line ++ 10 ∷ texts_in rooms ≡ file (joined batches)
file_in batches rooms made same lines whole =
    ap (λ t. header_line ++ 10 ∷ t) (ap texts_in same ∙ lines) ∙ sym (append_assoc header_line (10 ∷ []) (batch_lines batches)) ∙ whole

-- what a change of all rooms leaves
pub all_changed : (old new : List Room) (n : ℕ) → n ≡ length old → length new ≡ length old → take n (new ++ drop (length new) old) ≡ new
all_changed old new n is same =
    let none : drop (length new) old ≡ [] = drop_all (length new) old (omega (arith, same)) in
    ap (λ t. take n (new ++ t)) none ∙ ap (take n) (append-nil new) ∙ take_all n new (omega (arith, is, same))

-- ---- parts that are held

pub part_behind : (head folded part before : List ℕ) (batches : List (List Row)) (from to : ℕ) → from ≤ to → folded ++ before ≡ head ++ batch_lines (take from batches)
    → part ≡ before ++ batch_lines (take (to - from) (drop from batches)) → folded ++ part ≡ head ++ batch_lines (take to batches)
part_behind head folded part before batches from to order is put =
    let more = batch_lines (take (to - from) (drop from batches)) in
    ap (λ t. folded ++ t) put
    ∙ sym (append_assoc folded before more)
    ∙ ap (λ t. t ++ more) is
    ∙ append_assoc head (batch_lines (take from batches)) more
    ∙ ap (λ t. head ++ t) (sym (lines_join (take from batches) (take (to - from) (drop from batches)))
    ∙ ap batch_lines (sym (take-add from (to - from) batches) ∙ ap (λ n. take n batches) (omega arith)))

pub lines_of_both : (s t : List ℕ) → line_count (s ++ t) ≡ line_count s + line_count t
lines_of_both s t = sum_by-append (λ x. cond (x == 10) 1 0) s t

pub on_err_then : {T E A B : Type 0} (r : Result T E) → (A → B) → OnErr r A → OnErr r B
on_err_then (Ok x) f a = tt
on_err_then (Err e) f a = f a

pub on_ok_then : {T E A B : Type 0} (r : Result T E) → (A → B) → OnOk r A → OnOk r B
on_ok_then (Ok x) f a = f a
on_ok_then (Err e) f a = tt

-- behind the last batch
pub last_part : (folded part : List ℕ) (batches : List (List Row)) (from : ℕ) → length batches ≤ from → folded ++ part ≡ (header_line ++ 10 ∷ []) ++ batch_lines (take from batches)
    → (header_line ++ 10 ∷ []) ++ batch_lines batches ≡ file (joined batches) → folded ++ part ≡ file (joined batches)
last_part folded part batches from all is whole = is ∙ ap (λ b. (header_line ++ 10 ∷ []) ++ batch_lines b) (take_all from batches all) ∙ whole

pub lines_told : {E : Type 0} (r : Result ℕ E) (text whole : List ℕ) → OnOk r (text ≡ whole) → IfOk r (λ n. n ≡ line_count text) → IfOk r (λ n. n ≡ line_count whole)
lines_told (Ok n) text whole same h = h ∙ ap line_count same
lines_told (Err e) text whole same h = tt

-- a file that alone was put
pub put_alone : (text old whole : List ℕ) → text ≡ old ++ whole → old ≡ [] → text ≡ whole
put_alone text old whole put none = put ∙ ap (λ t. t ++ whole) none

pub none_behind : (text folded whole : List ℕ) → text ≡ whole → folded ≡ [] → text ++ folded ≡ whole
none_behind text folded whole is none = ap (λ t. text ++ t) none ∙ append-nil text ∙ is
