-- A command in what is ahead: its first line, and the lines that belong to it.
use Rattle.std.proofs.Common.{◌≡◌, ℕ, ◌+◌, ◌-◌, ◌<◌, ◌≤◌, true, List, [], ◌∷◌, ◌++◌, length, take, drop, Option, Some, MatchOption, refl, sym, ap, subst, ◌∙◌, arith, append_assoc, append-nil}
use Rattle.std.specs.List.{list_all}
use Rattle.std.proofs.lemmas.Bool.{and_parts, and_from}
use Rattle.std.proofs.lemmas.List.{length-append, length-take-le, take-append-drop, take-append-le}
use Rattle.std.proofs.Math.Seq.{take-append_seam}
use Rattle.metering_model.specs.Batch.{lacks}
use Rattle.metering_model.specs.BatchReading.{Lines, lines_in}
use Rattle.metering_model.specs.Transcript.{line}
use Rattle.metering_model.specs.Schedule.{TextLines, lines_text}
use Rattle.byte_text.proofs.PastLines.{lines_behind}
use Rattle.line_source.specs.Lines.{AreBetween}
use Rattle.line_source.specs.Reading.{Takes}
use Rattle.line_source.proofs.LineTexts.{between_on}
use Rattle.process_text.specs.declared.processes.Process.{Process}
use Rattle.process_text.specs.Requests.{lines_below}
use Rattle.process_player.specs.Runs.{Asked, IsAsked, bytes_of}
use Rattle.process_player.specs.Inner.Reading.{IsCommandAt, IsTorn, Passes}
use Rattle.process_player.proofs.Passing.{passes_more, passes_of}

-- the first line ends there
pub record IsFirst (text : List ℕ) (end : ℕ) : Type 0 where
  pub first : List ℕ
  pub whole : lacks 10 first ≡ true
  pub is : take end text ≡ line first
  pub size : end ≡ length first + 1
  pub taken : take (end - 1) text ≡ first

first_of_lines : (text : List ℕ) (end : ℕ) (ls : TextLines) → list_all (lacks 10) ls ≡ true → length ls ≡ 1 → end ≤ length text → take end text ≡ lines_text ls → IsFirst text end
first_of_lines text end [] whole one within is = absurd (cc)
first_of_lines text end (l ∷ m ∷ ls) whole one within is = absurd (cc)
first_of_lines text end (l ∷ []) whole one within is =
    let is_line : take end text ≡ line l = is ∙ append-nil (line l) in
    let longer = length-append l (10 ∷ []) in
    let size : end ≡ length l + 1 = sym (length-take-le end text within) ∙ ap length is_line ∙ longer in
    let rest = drop end text in
    let split : text ≡ l ++ 10 ∷ rest = sym (take-append-drop end text) ∙ ap (λ t. t ++ rest) is_line ∙ append_assoc l (10 ∷ []) rest in
    let shorter : end - 1 ≡ length l = omega (arith, size) in
    record {
      first = l;
      whole = (and_parts (lacks 10 l) true whole).0;
      is = is_line;
      size = size;
      taken = ap (λ t. take (end - 1) t) split ∙ ap (λ k. take k (l ++ 10 ∷ rest)) shorter ∙ take-append_seam l (10 ∷ rest);
    }

pub first_between : {text : List ℕ} {end : ℕ} → AreBetween 0 end text 1 → IsFirst text end
first_between {text} {end} it = first_of_lines text end it.lines it.whole it.counted it.within it.are_lines

pub some_first : {text : List ℕ} {end : ℕ} → AreBetween 0 end text 1 → 1 ≤ end
some_first it = let size = (first_between it).size in omega (arith, size)

pub command_at : (p : Process) (text : List ℕ) (end all lines : ℕ) → AreBetween 0 end text 1 → AreBetween end all text lines
    → lines ≡ lines_below p (take (end - 1) text) → length (drop all text) < 65_536 → IsCommandAt p text end all
command_at p text end all lines one below same at_hand =
    let first = first_between one in
    let ordered = below.ordered in
    let within = below.within in
    let front : take end (take all text) ≡ take end text =
    sym (take-append-le end (take all text) (drop all text) (omega (arith, ordered, length-take-le all text within))) ∙ ap (λ t. take end t) (take-append-drop all text) in
    let head : take end text ≡ line (take (end - 1) text) = first.is ∙ ap line (sym first.taken) in
    let both : take all text ≡ line (take (end - 1) text) ++ drop end (take all text) =
    sym (take-append-drop end (take all text)) ∙ ap (λ t. t ++ drop end (take all text)) (front ∙ head) in
    record {
      some = let size = first.size in omega (arith, size);
      ordered = ordered;
      within = within;
      at_hand = at_hand;
      asked = record {
        is_line = ap (lacks 10) first.taken ∙ first.whole;
        lines = below.lines;
        whole = below.whole;
        counted = below.counted ∙ same;
        below = below.are_lines;
      };
      split = sym (take-append-drop all text) ∙ ap (λ t. t ++ drop all text) both;
    }

-- ---- no command stands there

-- the lines of a text that begins with a line
pub lines_with : (l rest : List ℕ) → lacks 10 l ≡ true → (lines_in (line l ++ rest)).lines ≡ l ∷ (lines_in rest).lines
lines_with l rest whole =
    ap (λ t. (lines_in (t ++ rest)).lines) (sym (append-nil (line l)))
    ∙ ap (λ (x : Lines). x.lines) (lines_behind (l ∷ []) rest (and_from _ _ whole refl))

lines_of_asked : (p : Process) (a : Asked) (more : List ℕ) → IsAsked p a → (lines_in (bytes_of a ++ more)).lines ≡ a.first ∷ (lines_in (a.below ++ more)).lines
lines_of_asked p a more asked = ap (λ t. (lines_in t).lines) (append_assoc (line a.first) a.below more) ∙ lines_with a.first (a.below ++ more) asked.is_line

pub torn_first : (p : Process) (text : List ℕ) → length (lines_in text).lines < 1 → IsTorn p text
torn_first p text none a more asked is =
    let size = ap length (ap (λ t. (lines_in t).lines) is ∙ lines_of_asked p a more asked) in
    omega (arith, size, none)

abbrev head_of : TextLines → List ℕ
head_of [] = []
head_of (l ∷ ls) = l

abbrev tail_of : TextLines → TextLines
tail_of [] = []
tail_of (l ∷ ls) = ls

torn_below : (p : Process) (text : List ℕ) (end lines : ℕ) → AreBetween 0 end text 1
    → lines ≡ lines_below p (take (end - 1) text) → length (lines_in (drop end text)).lines < lines → IsTorn p text
torn_below p text end lines one same fewer a more asked is =
    let first = first_between one in
    let here : (lines_in text).lines ≡ first.first ∷ (lines_in (drop end text)).lines =
    ap (λ t. (lines_in t).lines) (sym (take-append-drop end text) ∙ ap (λ t. t ++ drop end text) first.is) ∙ lines_with first.first (drop end text) first.whole in
    let there : (lines_in text).lines ≡ a.first ∷ (lines_in (a.below ++ more)).lines = ap (λ t. (lines_in t).lines) is ∙ lines_of_asked p a more asked in
    let both = sym here ∙ there in
    let same_line : first.first ≡ a.first = ap head_of both in
    let same_rest : (lines_in (drop end text)).lines ≡ (lines_in (a.below ++ more)).lines = ap tail_of both in
    let below : (lines_in (a.below ++ more)).lines ≡ asked.lines ++ (lines_in more).lines =
    ap (λ t. (lines_in (t ++ more)).lines) asked.below ∙ ap (λ (x : Lines). x.lines) (lines_behind asked.lines more asked.whole) in
    let size = ap length (same_rest ∙ below) ∙ length-append asked.lines (lines_in more).lines in
    let counted : length asked.lines ≡ lines = asked.counted ∙ ap (lines_below p) (sym same_line ∙ sym first.taken) ∙ sym same in
    omega (arith, size, counted, fewer)

-- ---- read in two steps

pub some_found : {A : Type 0} (P : Type 0) (There : A → Type 0) (o : Option A) (x : A) → MatchOption o P There → o ≡ Some x → There x
some_found P There o x found is = subst (λ y. MatchOption y P There) is found

pub passes_twice : {mark a b c : List ℕ} {r s r' s' : ℕ} {l m n : Option (List ℕ)}
    → mark ≡ a → Takes mark b r s l m [] → Takes b c r' s' m n [] → Passes a c l n []
passes_twice {mark} {a} {b} {c} {r} {s} {r'} {s'} {l} {m} {n} same one two =
    subst (λ x. Passes x c l n []) same (passes_more (passes_of one) (passes_of two))

-- as many lines are asked for as belong to the first one, also where more was read
asked_for : (p : Process) (end lines count : ℕ) (text seen after : List ℕ) {r s : ℕ} {l m : Option (List ℕ)}
    → AreBetween 0 end text 1 → Takes text after r s l m [] → lines ≡ lines_below p (take (end - 1) seen) → seen ≡ text → count ≡ lines
    → count ≡ lines_below p (take (end - 1) after)
asked_for p end lines count text seen after one reads value same counted =
    let within = one.within in
    let longer : take (end - 1) after ≡ take (end - 1) text =
    ap (take (end - 1)) (sym reads.joined) ∙ take-append-le (end - 1) text reads.came (omega (arith, within)) in
    counted ∙ value ∙ ap (λ t. lines_below p (take (end - 1) t)) same ∙ ap (lines_below p) (sym longer)

pub torn_later : (p : Process) (end lines count : ℕ) (text seen after : List ℕ) {r s : ℕ} {l m : Option (List ℕ)}
    → AreBetween 0 end text 1 → Takes text after r s l m [] → lines ≡ lines_below p (take (end - 1) seen) → seen ≡ text → count ≡ lines
    → length (lines_in (drop end after)).lines < count → IsTorn p after
torn_later p end lines count text seen after one reads value same counted few =
    torn_below p after end count (between_on one reads) (asked_for p end lines count text seen after one reads value same counted) few

pub command_later : (p : Process) (end lines count all : ℕ) (text seen after : List ℕ) {r s : ℕ} {l m : Option (List ℕ)}
    → AreBetween 0 end text 1 → Takes text after r s l m [] → lines ≡ lines_below p (take (end - 1) seen) → seen ≡ text → count ≡ lines
    → AreBetween end all after count → length (drop all after) < 65_536 → IsCommandAt p after end all
command_later p end lines count all text seen after one reads value same counted below at_hand =
    command_at p after end all count (between_on one reads) below (asked_for p end lines count text seen after one reads value same counted) at_hand
