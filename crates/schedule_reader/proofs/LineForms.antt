-- A line and a section that were read stand at the front of what was left.
use Rattle.std.proofs.Common.{◌≡◌, ℕ, zero, suc, ◌+◌, ◌<◌, ◌≤◌, ◌^◌, Bool, true, false, cond, List, [], ◌∷◌, ◌++◌, length, take, drop, Some, None, Result, Ok, Err, refl, sym, ap, ap₂, ◌∙◌, arith, append_assoc, leb-true}
use Rattle.std.specs.Prelude.{nat_le}
use Rattle.std.specs.List.{list_all}
use Rattle.std.specs.Str.{is_utf8}
use Rattle.std.proofs.lemmas.List.{drop-drop, length-append, length-take-le, take-append-drop}
use Rattle.std.proofs.Math.Seq.{drop-append_seam}
use Rattle.std.proofs.lemmas.Bool.{and_parts, and_from}
use Rattle.std.proofs.lemmas.Option.{none-some}
use Rattle.metering_model.specs.Batch.{lacks}
use Rattle.metering_model.specs.BatchReading.{lines_in, lines_of_parts, whole_in}
use Rattle.metering_model.specs.Schedule.{TextLines, AreLines, lines_text, section_text}
use Rattle.metering_model.specs.Transcript.{line, with_number}
use Rattle.metering_model.proofs.FieldLaws.{same_read, whole_read}
use Rattle.metering_model.proofs.Splitting.{parts_at, parts_lack, lines_give_back}
use Rattle.metering_model.proofs.StepLaws.{step_ok, some_step, test_step, ok_same}
use Rattle.input_sections.specs.declared.faults.ScheduleCode.{ScheduleCode}
use Rattle.input_sections.specs.declared.faults.ScheduleFault.{ScheduleFault}
use Rattle.input_sections.specs.Sections.{Unread, Section, left, lines_left, first_of, first_line, begins_with, number_behind, section_of, section_in, told, read_as}
use Rattle.byte_text.proofs.PastLines.{text_of_front}

-- ---- lines hold no line feed

lack_parts : (ps : List (List ℕ)) → list_all (lacks 10) ps ≡ true → list_all (lacks 10) (lines_of_parts ps).lines ≡ true
lack_parts [] h = refl
lack_parts (p ∷ []) h = refl
lack_parts (p ∷ q ∷ ps) h =
    let parts = and_parts (lacks 10 p) (list_all (lacks 10) (q ∷ ps)) h in
    and_from _ _ parts.0 (lack_parts (q ∷ ps) parts.1)

pub lines_lack : (t : List ℕ) → list_all (lacks 10) (lines_in t).lines ≡ true
lines_lack t = lack_parts (parts_at 10 t) (parts_lack 10 t)

all_of_front : (p : List ℕ → Bool) (n : ℕ) (ls : List (List ℕ)) → list_all p ls ≡ true → list_all p (take n ls) ≡ true
all_of_front p zero ls h = refl
all_of_front p (suc n) [] h = refl
all_of_front p (suc n) (l ∷ ls) h =
    let parts = and_parts (p l) (list_all p ls) h in
    and_from _ _ parts.0 (all_of_front p n ls parts.1)

-- ---- the next line

pub left_behind : (text : List ℕ) (from k : ℕ) → drop (from + k) text ≡ drop k (drop from text)
left_behind text from k = sym (drop-drop k from text ∙ ap (λ n. drop n text) (omega arith))

line_front : (u : Unread) (x : List ℕ) (xs : List (List ℕ)) → lines_left u ≡ x ∷ xs → left u ≡ line x ++ drop (u.from + length x + 1) u.text
line_front u x xs e =
    let rest = lines_text xs ++ (lines_in (left u)).rest in
    let joined : left u ≡ line x ++ rest =
    sym (lines_give_back (left u)) ∙ ap (λ ls. lines_text ls ++ (lines_in (left u)).rest) e ∙ append_assoc (line x) (lines_text xs) (lines_in (left u)).rest in
    let long : u.from + length x + 1 ≡ u.from + length (line x) = omega (arith, length-append x (10 ∷ [])) in
    let behind : drop (u.from + length x + 1) u.text ≡ rest =
    ap (λ n. drop n u.text) long ∙ left_behind u.text u.from (length (line x)) ∙ ap (drop (length (line x))) joined ∙ drop-append_seam (line x) rest in
    joined ∙ ap (λ t. line x ++ t) (sym behind)

first_gives : (code : ScheduleCode) (u : Unread) (ls : List (List ℕ)) → lines_left u ≡ ls → (l : List ℕ) (v : Unread) → first_of code u ls ≡ Ok (l, v)
    → (left u ≡ line l ++ left v) × (lacks 10 l ≡ true)
first_gives code u [] e l v h = absurd (cc)
first_gives code u (x ∷ xs) e l v h =
    let same = ok_same _ _ h in
    let front = line_front u x xs e in
    let lack = and_parts (lacks 10 x) (list_all (lacks 10) xs) (ap (list_all (lacks 10)) (sym e) ∙ lines_lack (left u)) in
    (front ∙ ap₂ (λ t w. line t ++ left w) (ap (λ p. p.0) same) (ap (λ p. p.1) same), ap (lacks 10) (sym (ap (λ p. p.0) same)) ∙ lack.0)

-- a line that was read stands at the front
pub line_read : (code : ScheduleCode) (u : Unread) (l : List ℕ) (v : Unread) → first_line code u ≡ Ok (l, v)
    → (left u ≡ line l ++ left v) × (lacks 10 l ≡ true)
line_read code u l v h = first_gives code u (lines_left u) refl l v h

-- ---- a number behind a word

pub number_read : (word : List ℕ) (low most : ℕ) (l : List ℕ) (n : ℕ) → most < 10 ^ 64
    → cond (begins_with word l) (whole_in low most (drop (length word) l)) None ≡ Some n
    → (l ≡ with_number word n) × (low ≤ n) × (n ≤ most)
number_read word low most l n small h = cases (begins_with word l) refl h
  where
    cases : (b : Bool) → begins_with word l ≡ b → cond b (whole_in low most (drop (length word) l)) None ≡ Some n
        → (l ≡ with_number word n) × (low ≤ n) × (n ≤ most)
    cases true e k =
        let whole = whole_read low most (drop (length word) l) n small k in
        (sym (take-append-drop (length word) l) ∙ ap₂ (λ a b. a ++ b) (same_read (take (length word) l) word e) whole.0, whole.1, whole.2)
    cases false e k = absurd (none-some n k)

-- ---- a section

pub section_front : (n : ℕ) (u : Unread) → left u ≡ lines_text (take n (lines_left u)) ++ left (section_of n u).rest
section_front n u =
    let ls = take n (lines_left u) in
    let k = length (lines_text ls) in
    sym (take-append-drop k (left u)) ∙ ap₂ (λ a b. a ++ b) (text_of_front n (left u)) (sym (left_behind u.text u.from k))

-- So many lines that are there hold no line feed.
pub front_whole : (n : ℕ) (u : Unread) → list_all (lacks 10) (take n (lines_left u)) ≡ true
front_whole n u = all_of_front (lacks 10) n (lines_left u) (lines_lack (left u))

pub front_lines : (n most : ℕ) (u : Unread) → 1 ≤ n → n ≤ most → n ≤ length (lines_left u) → (length (take n (lines_left u)) ≡ n) × AreLines most (take n (lines_left u))
front_lines n most u some below enough =
    let long : length (take n (lines_left u)) ≡ n = length-take-le n (lines_left u) enough in
    (long, record { some = omega (arith, some, long); at_most = omega (arith, below, long); whole = front_whole n u })

-- a section that was read stands at the front, and its text is that of its lines
pub section_read : (code : ScheduleCode) (word : List ℕ) (most : ℕ) (u : Unread) (s : Section) → most < 10 ^ 64 → section_in code word most u ≡ Ok s
    → (ls : TextLines) × (AreLines most ls) × (left u ≡ section_text word ls ++ left s.rest) × (s.text ≡ lines_text ls)
unfolding section_in
section_read code word most u s small h =
    let opening = step_ok (first_line code u) _ s h in
    let number = some_step (number_behind word most opening.0.0) _ _ s opening.2 in
    let enough = test_step (nat_le number.0 (length (lines_left opening.0.1))) _ _ s number.2 in
    let below = opening.0.1 in
    let n = number.0 in
    let ls = take n (lines_left below) in
    let is : section_of n below ≡ s = ok_same _ _ enough.1 in
    let told = number_read word 1 most opening.0.0 n small number.1 in
    let lines = front_lines n most below told.1 told.2 (leb-true _ _ enough.0) in
    let head : line opening.0.0 ≡ line (with_number word (length ls)) = ap line (told.0 ∙ ap (with_number word) (sym lines.0)) in
    let front = (line_read code u opening.0.0 below opening.1).0 in
    let joined : left u ≡ line (with_number word (length ls)) ++ (lines_text ls ++ left s.rest) =
    front ∙ ap₂ (λ a b. a ++ b) head (section_front n below ∙ ap (λ x. lines_text ls ++ left x.rest) is) in
    (ls, lines.1, joined ∙ sym (append_assoc (line (with_number word (length ls))) (lines_text ls) (left s.rest)), sym (ap (λ x. x.text) is))

-- ---- what a reader made of it

told_ok : {A E : Type 0} (fault : ScheduleFault) (r : Result A E) (x : A) → told fault r ≡ Ok x → r ≡ Ok x
told_ok fault (Ok y) x h = ap Ok (ok_same _ _ h)
told_ok fault (Err e) x h = absurd (cc)

pub reader_took : {A E : Type 0} (read : List ℕ → Result A E) (fault : ScheduleFault) (text : List ℕ) (x : A) → read_as read fault text ≡ Ok x
    → (is_utf8 text ≡ true) × (read text ≡ Ok x)
unfolding read_as
reader_took read fault text x h =
    let utf8 = test_step (is_utf8 text) fault _ x h in
    (utf8.0, told_ok fault (read text) x utf8.1)
