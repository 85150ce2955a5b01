-- What the writer of CSV writes with its usual setup, in the words of the file.
use Rattle.std.proofs.Common.{◌≡◌, ℕ, ◌+◌, ◌-◌, ◌<◌, ◌≤◌, ◌==◌, ◌||◌, Bool, true, false, List, [], ◌∷◌, ◌++◌, length, take, drop, map, refl, sym, ap, ap₂, ◌∙◌, append_assoc, arith}
use Rattle.std.specs.Prelude.{if◌then◌else◌}
use Rattle.std.specs.List.{list_any, join_with_byte}
use Rattle.std.proofs.lemmas.Bool.Decides.{nat_tests}
use Rattle.std.proofs.lemmas.List.{append-nil, drop_at, length-append}
use Rattle.std.proofs.Math.Seq.{take-append_seam, take-length}
use Rattle.csv.specs.Writing as csv
use Rattle.csv.specs.declared.writer.WriterBuilder.{WriterBuilder}
use Rattle.metering_model.specs.File.{quoted, marked}
use Rattle.focus_csv.specs.Inner.Lines.{line_of}

-- ---- which fields are quoted

-- a comma, a quotation mark, CR or LF
abbrev calls : ℕ → Bool
calls c = (c == 44) || (c == 34) || (c == 13) || (c == 10)

regrouped : (comma mark cr lf : Bool) → ((((comma || mark) || (cr || lf)) || false) || false) ≡ (((comma || mark) || cr) || lf)
regrouped true mark cr lf = refl
regrouped false true cr lf = refl
regrouped false false true lf = refl
regrouped false false false true = refl
regrouped false false false false = refl

byte_calls : (c : ℕ) → csv.needs_byte csv.default_writer c ≡ calls c
byte_calls c = regrouped (c == 44) (c == 34) (c == 13) (c == 10)

field_calls : (t : List ℕ) → list_any (csv.needs_byte csv.default_writer) t ≡ list_any calls t
field_calls [] = refl
field_calls (c ∷ cs) = ap₂ ◌||◌ (byte_calls c) (field_calls cs)

-- ---- what stands between the quotation marks

byte_marked : (mark : Bool) (c : ℕ) (t : List ℕ) → (if mark then 34 ∷ c ∷ t else c ∷ t) ≡ (if mark then 34 ∷ c ∷ [] else c ∷ []) ++ t
byte_marked true c t = refl
byte_marked false c t = refl

inner_is : (t : List ℕ) → csv.escaped csv.default_writer t ≡ marked (λ c. c == 34) 34 t
unfolding csv.escaped
inner_is [] = refl
inner_is (c ∷ cs) = ap (λ t. if c == 34 then 34 ∷ c ∷ t else c ∷ t) (inner_is cs) ∙ byte_marked (c == 34) c _

pub field_is : (t : List ℕ) → csv.field_text csv.default_writer t ≡ quoted t
field_is t = ap₂ (λ b inner. if b then 34 ∷ inner ++ 34 ∷ [] else t) (field_calls t) (inner_is t)

-- ---- a field behind others

separated : (n : ℕ) → 0 < n → csv.next_sep csv.default_writer n ≡ 44 ∷ []
separated n some = grind (arith, nat_tests)

-- what is written, and then sent on, of one more field
pub field_behind : (setup : WriterBuilder) (n : ℕ) (f old waiting written new left : List ℕ) → setup ≡ csv.default_writer → 0 < n → waiting ≡ [] → left ≡ []
    → written ≡ (old ++ waiting) ++ (csv.next_sep setup n ++ csv.field_text setup f) → new ++ left ≡ written
    → new ≡ old ++ (44 ∷ quoted f)
field_behind setup n f old waiting written new left usual some none sent is kept =
    sym (append-nil new) ∙ ap (λ t. new ++ t) (sym sent) ∙ kept ∙ is
    ∙ ap (λ t. (old ++ t) ++ (csv.next_sep setup n ++ csv.field_text setup f)) none
    ∙ ap (λ t. t ++ (csv.next_sep setup n ++ csv.field_text setup f)) (append-nil old)
    ∙ ap (λ s. old ++ (csv.next_sep s n ++ csv.field_text s f)) usual
    ∙ ap (λ t. old ++ (t ++ csv.field_text csv.default_writer f)) (separated n some)
    ∙ ap (λ t. old ++ 44 ∷ t) (field_is f)

-- what was written last, copied from where it begins
pub last_copied : (old piece new text : List ℕ) (from : ℕ) → from ≡ length old → new ≡ old ++ piece
    → text ++ take (length new - from) (drop from new) ≡ text ++ piece
last_copied old piece new text from begins is =
    let rest : drop from new ≡ piece = ap (drop from) is ∙ drop_at old piece from (sym begins) in
    let long : length new ≡ length old + length piece = ap length is ∙ length-append old piece in
    let n : length new - from ≡ length piece = omega (arith, long, begins) in
    ap (λ t. text ++ t) (ap₂ take n rest ∙ take-length piece)

-- what stands between the quotation marks of the field that was written last
pub within_long : (old field inner new : List ℕ) → new ≡ old ++ 44 ∷ quoted field → quoted field ≡ 34 ∷ inner ++ 34 ∷ []
    → length new ≡ length old + (length inner + 3)
within_long old field inner new is marked =
    omega (arith, ap length is, length-append old (44 ∷ quoted field), ap length marked, length-append inner (34 ∷ []))

pub within_copied : (old field inner new text : List ℕ) (from to : ℕ) → from ≡ length old → to ≡ length new → new ≡ old ++ 44 ∷ quoted field
    → quoted field ≡ 34 ∷ inner ++ 34 ∷ []
    → text ++ take ((to - 1) - (from + 2)) (drop (from + 2) new) ≡ text ++ inner
within_copied old field inner new text from to begins ends is marked =
    let front = old ++ 44 ∷ 34 ∷ [] in
    let whole : new ≡ front ++ (inner ++ 34 ∷ []) = is ∙ ap (λ t. old ++ 44 ∷ t) marked ∙ sym (append_assoc old (44 ∷ 34 ∷ []) (inner ++ 34 ∷ [])) in
    let place : length front ≡ from + 2 = omega (arith, length-append old (44 ∷ 34 ∷ []), begins) in
    let rest : drop (from + 2) new ≡ inner ++ 34 ∷ [] = ap (drop (from + 2)) whole ∙ drop_at front (inner ++ 34 ∷ []) (from + 2) place in
    let n : (to - 1) - (from + 2) ≡ length inner = omega (arith, within_long old field inner new is marked, begins, ends) in
    ap (λ t. text ++ t) (ap₂ take n rest ∙ take-append_seam inner (34 ∷ []))

-- ---- lines

fields_are : (f : List ℕ) (fs : List (List ℕ)) → quoted f ++ csv.fields_text csv.default_writer fs ≡ join_with_byte 44 (map quoted (f ∷ fs))
unfolding csv.fields_text
fields_are f [] = append-nil (quoted f)
fields_are f (g ∷ fs) =
    ap (λ t. quoted f ++ 44 ∷ (t ++ csv.fields_text csv.default_writer fs)) (field_is g) ∙ ap (λ t. quoted f ++ 44 ∷ t) (fields_are g fs)

-- a line of one field could be blank, and would then be written with two quotation marks
pub line_is : (fs : List (List ℕ)) → 2 ≤ length fs → csv.row_text csv.default_writer fs ≡ line_of fs
unfolding csv.is_blank
line_is [] wide = absurd (omega arith)
line_is (f ∷ []) wide = absurd (omega arith)
line_is (f ∷ g ∷ fs) wide =
    ap (λ t. (t ++ csv.fields_text csv.default_writer (g ∷ fs)) ++ 10 ∷ []) (field_is f) ∙ ap (λ t. t ++ 10 ∷ []) (fields_are f (g ∷ fs))
