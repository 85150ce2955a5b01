-- The first file of a period among lines: where the line above it stands, and what that tells.
use Rattle.std.proofs.Common.{◌≡◌, ◌⊎◌, ℕ, ◌+◌, ◌<◌, ◌≤◌, ◌^◌, Bool, true, false, List, [], ◌∷◌, ◌++◌, length, take, drop, codes, decimal, Option, Some, None, refl, sym, ap, ap₂, ◌∙◌, arith, inl, inr, append_assoc}
use Rattle.std.specs.Prelude.{nat_le, ◌&&◌, if◌then◌else◌}
use Rattle.std.proofs.lemmas.Bool.{and_from}
use Rattle.std.proofs.lemmas.Bool.Decides.{nat_tests}
use Rattle.std.proofs.lemmas.List.{take-append-drop, take-append-le, length-append, length-take-le}
use Rattle.std.proofs.Math.Seq.{take-append_seam, drop-append_seam}
use Rattle.metering_model.specs.NumberText.{is_whole_part, number_of}
use Rattle.metering_model.specs.BatchReading.{is_same}
use Rattle.metering_model.specs.Transcript.{with_number}
use Rattle.metering_model.specs.Schedule.{TextLines, lines_text}
use Rattle.metering_model.proofs.Decimals.{decimal_lacks_blank, decimal_is_one}
use Rattle.metering_model.proofs.FieldLaws.{same_read}
use Rattle.metering_model.proofs.FirstByte.{before, after, before_join, after_join}
use Rattle.metering_model.proofs.NumberDigits.{decimal_whole}
use Rattle.transcript_laws.specs.Shown.{line_above}
use Rattle.transcript_laws.specs.FirstFiles.{NoFile, TornFile, WholeFile, told_behind, words_above, lines_told, file_of_lines, file_behind, first_of_lines, part_of}
use Rattle.transcript_laws.proofs.TextLaws.{lines_append}
use Rattle.transcript_laws.proofs.FileLines.{begins_with_e}

-- ---- so many of the lines behind

some_file : (b : Bool) (one two : List ℕ) → (if b then WholeFile one else TornFile two) ≡ NoFile → ⊥
some_file true one two e = absurd (cc)
some_file false one two e = absurd (cc)

pub file_is_some : (count : ℕ) (ls : TextLines) → file_of_lines count ls ≡ NoFile → ⊥
file_is_some count ls e = some_file (nat_le count (length ls)) (lines_text (take count ls)) (lines_text ls) e

pub file_is_whole : (count : ℕ) (ls : TextLines) → count ≤ length ls → file_of_lines count ls ≡ WholeFile (lines_text (take count ls))
file_is_whole count ls few = cases (nat_le count (length ls)) refl
  where
    cases : (b : Bool) → nat_le count (length ls) ≡ b → file_of_lines count ls ≡ WholeFile (lines_text (take count ls))
    cases true e = ap (λ (b : Bool). if b then WholeFile (lines_text (take count ls)) else TornFile (lines_text ls)) e
    cases false e = absurd (grind (arith, nat_tests))

pub file_is_torn : (count : ℕ) (ls : TextLines) → length ls < count → file_of_lines count ls ≡ TornFile (lines_text ls)
file_is_torn count ls many = cases (nat_le count (length ls)) refl
  where
    cases : (b : Bool) → nat_le count (length ls) ≡ b → file_of_lines count ls ≡ TornFile (lines_text ls)
    cases true e = absurd (grind (arith, nat_tests))
    cases false e = ap (λ (b : Bool). if b then WholeFile (lines_text (take count ls)) else TornFile (lines_text ls)) e

pub whole_of_lines : (count : ℕ) (ls : TextLines) (file : List ℕ) → file_of_lines count ls ≡ WholeFile file → (count ≤ length ls) × (file ≡ lines_text (take count ls))
whole_of_lines count ls file e = cases (nat_le count (length ls)) refl
  where
    cases : (b : Bool) → nat_le count (length ls) ≡ b → (count ≤ length ls) × (file ≡ lines_text (take count ls))
    cases true t =
        let is : WholeFile (lines_text (take count ls)) ≡ WholeFile file = sym (ap (λ (b : Bool). if b then WholeFile (lines_text (take count ls)) else TornFile (lines_text ls)) t) ∙ e in
        (grind (arith, nat_tests), cc)
    cases false t =
        let is : TornFile (lines_text ls) ≡ WholeFile file = sym (ap (λ (b : Bool). if b then WholeFile (lines_text (take count ls)) else TornFile (lines_text ls)) t) ∙ e in
        absurd (cc)

pub torn_of_lines : (count : ℕ) (ls : TextLines) (part : List ℕ) → file_of_lines count ls ≡ TornFile part → (length ls < count) × (part ≡ lines_text ls)
torn_of_lines count ls part e = cases (nat_le count (length ls)) refl
  where
    cases : (b : Bool) → nat_le count (length ls) ≡ b → (length ls < count) × (part ≡ lines_text ls)
    cases true t =
        let is : WholeFile (lines_text (take count ls)) ≡ TornFile part = sym (ap (λ (b : Bool). if b then WholeFile (lines_text (take count ls)) else TornFile (lines_text ls)) t) ∙ e in
        absurd (cc)
    cases false t =
        let is : TornFile (lines_text ls) ≡ TornFile part = sym (ap (λ (b : Bool). if b then WholeFile (lines_text (take count ls)) else TornFile (lines_text ls)) t) ∙ e in
        (grind (arith, nat_tests), cc)

-- ---- where the line above stands

pub record FindsAbove (period : ℕ) (ls : TextLines) : Type 0 where
  pub before : TextLines
  pub above : List ℕ
  pub after : TextLines
  pub count : ℕ
  pub is_lines : ls ≡ before ++ above ∷ after
  pub none : first_of_lines period before ≡ NoFile
  pub told : lines_told period above ≡ Some count
  pub first : first_of_lines period ls ≡ file_of_lines count after

pub told_first : (period count : ℕ) (l : List ℕ) (ls : TextLines) → lines_told period l ≡ Some count → first_of_lines period (l ∷ ls) ≡ file_of_lines count ls
told_first period count l ls told = ap (λ (o : Option ℕ). file_behind o ls (first_of_lines period ls)) told

pub untold_first : (period : ℕ) (l : List ℕ) (ls : TextLines) → lines_told period l ≡ None → first_of_lines period (l ∷ ls) ≡ first_of_lines period ls
untold_first period l ls told = ap (λ (o : Option ℕ). file_behind o ls (first_of_lines period ls)) told

found_later : (period : ℕ) (l : List ℕ) (ls : TextLines) → lines_told period l ≡ None → (first_of_lines period ls ≡ NoFile) ⊎ FindsAbove period ls
    → (first_of_lines period (l ∷ ls) ≡ NoFile) ⊎ FindsAbove period (l ∷ ls)
found_later period l ls told (inl none) = inl (untold_first period l ls told ∙ none)
found_later period l ls told (inr it) = inr (record {
  before = l ∷ it.before;
  above = it.above;
  after = it.after;
  count = it.count;
  is_lines = ap (λ (ms : TextLines). l ∷ ms) it.is_lines;
  none = untold_first period l it.before told ∙ it.none;
  told = it.told;
  first = untold_first period l ls told ∙ it.first;
})

found_here : (period : ℕ) (l : List ℕ) (ls : TextLines) (o : Option ℕ) → lines_told period l ≡ o → (first_of_lines period ls ≡ NoFile) ⊎ FindsAbove period ls
    → (first_of_lines period (l ∷ ls) ≡ NoFile) ⊎ FindsAbove period (l ∷ ls)
found_here period l ls None told later = found_later period l ls told later
found_here period l ls (Some count) told later = inr (record {
  before = [];
  above = l;
  after = ls;
  count = count;
  is_lines = refl;
  none = refl;
  told = told;
  first = told_first period count l ls told;
})

-- either no line is such a one, or one is the first
pub find_above : (period : ℕ) (ls : TextLines) → (first_of_lines period ls ≡ NoFile) ⊎ FindsAbove period ls
find_above period [] = inl refl
find_above period (l ∷ ls) = found_here period l ls (lines_told period l) refl (find_above period ls)

-- where there is no file, no line is such a one
pub untold : (period : ℕ) (l : List ℕ) (ls : TextLines) → first_of_lines period (l ∷ ls) ≡ NoFile → lines_told period l ≡ None
untold period l ls none = cases (lines_told period l) refl
  where
    cases : (o : Option ℕ) → lines_told period l ≡ o → lines_told period l ≡ None
    cases (Some count) told = absurd (file_is_some count ls (sym (told_first period count l ls told) ∙ none))
    cases None told = told

none_later : (period : ℕ) (l : List ℕ) (ls : TextLines) → first_of_lines period (l ∷ ls) ≡ NoFile → first_of_lines period ls ≡ NoFile
none_later period l ls none = sym (untold_first period l ls (untold period l ls none)) ∙ none

-- lines before it that are no such lines may be left out
pub first_behind : (period : ℕ) (ls more : TextLines) → first_of_lines period ls ≡ NoFile → first_of_lines period (ls ++ more) ≡ first_of_lines period more
first_behind period [] more none = refl
first_behind period (l ∷ ls) more none =
    untold_first period l (ls ++ more) (untold period l ls none) ∙ first_behind period ls more (none_later period l ls none)

-- where one is such a line, there is a file
pub not_none : (period count : ℕ) (front back : TextLines) (x : List ℕ) → lines_told period x ≡ Some count → first_of_lines period (front ++ x ∷ back) ≡ NoFile → ⊥
not_none period count [] back x told none = file_is_some count back (sym (told_first period count x back told) ∙ none)
not_none period count (b ∷ bs) back x told none = not_none period count bs back x told (none_later period b (bs ++ x ∷ back) none)

-- ---- what the line tells

pub record TellsLines (words : List ℕ) (x : List ℕ) (count : ℕ) : Type 0 where
  pub number : List ℕ
  pub joined : x ≡ words ++ number
  pub is_number : is_whole_part number ≡ true
  pub is_count : count ≡ number_of number

pub told_parts : (words x : List ℕ) (count : ℕ) → told_behind words x ≡ Some count → TellsLines words x count
told_parts words x count told = cases (is_same (take (length words) x) words) (is_whole_part (drop (length words) x)) refl refl
  where
    cases : (b c : Bool) → is_same (take (length words) x) words ≡ b → is_whole_part (drop (length words) x) ≡ c → TellsLines words x count
    cases true true same whole =
        let both : (is_same (take (length words) x) words && is_whole_part (drop (length words) x)) ≡ true = and_from _ _ same whole in
        let is : Some (number_of (drop (length words) x)) ≡ Some count =
        sym (ap (λ (b : Bool). if b then Some (number_of (drop (length words) x)) else None) both) ∙ told in
        record {
          number = drop (length words) x;
          joined = sym (take-append-drop (length words) x) ∙ ap (λ t. t ++ drop (length words) x) (same_read _ _ same);
          is_number = whole;
          is_count = cc;
        }
    cases true false same whole = absurd (untold (ap₂ ◌&&◌ same whole))
      where
        untold : (is_same (take (length words) x) words && is_whole_part (drop (length words) x)) ≡ false → ⊥
        untold e =
            let is : None ≡ Some count = sym (ap (λ (b : Bool). if b then Some (number_of (drop (length words) x)) else None) e) ∙ told in absurd (cc)
    cases false c same whole = absurd (untold (ap₂ ◌&&◌ same whole))
      where
        untold : (is_same (take (length words) x) words && is_whole_part (drop (length words) x)) ≡ false → ⊥
        untold e =
            let is : None ≡ Some count = sym (ap (λ (b : Bool). if b then Some (number_of (drop (length words) x)) else None) e) ∙ told in absurd (cc)

same_itself : (t : List ℕ) → is_same t t ≡ true
same_itself [] = refl
same_itself (c ∷ cs) = and_from _ _ (grind (arith, nat_tests)) (same_itself cs)

pub parts_told : (words number : List ℕ) → is_whole_part number ≡ true → told_behind words (words ++ number) ≡ Some (number_of number)
parts_told words number whole =
    let front = take-append_seam words number in
    let back = drop-append_seam words number in
    let same : is_same (take (length words) (words ++ number)) words ≡ true = ap (λ t. is_same t words) front ∙ same_itself words in
    let ends : is_whole_part (drop (length words) (words ++ number)) ≡ true = ap is_whole_part back ∙ whole in
    ap (λ (b : Bool). if b then Some (number_of (drop (length words) (words ++ number))) else None) (and_from _ _ same ends)
    ∙ ap (λ t. Some (number_of t)) back

above_is : (period count : ℕ) → line_above period count ≡ words_above period ++ decimal count
above_is period count = sym (append_assoc (with_number (codes "exported period ") period) (codes " lines ") (decimal count))

-- the line above a file is such a line
pub told_above : (period count : ℕ) → count < 10 ^ 63 → lines_told period (line_above period count) ≡ Some count
told_above period count few =
    let number = decimal_whole count (omega (arith, few)) in
    ap (lines_told period) (above_is period count) ∙ parts_told (words_above period) (decimal count) number.0 ∙ ap Some number.1

-- and such a line that stands above a file tells the period and the lines of this one
pub told_is : (period count p n : ℕ) (x : List ℕ) → p < 10 ^ 63 → n < 10 ^ 63 → lines_told period x ≡ Some count → x ≡ line_above p n → (period ≡ p) × (count ≡ n)
told_is period count p n x small few told is =
    let parts = told_parts (words_above period) x count told in
    let number = parts.number in
    let texts : with_number (codes "exported period ") period ++ (codes " lines " ++ number) ≡ line_above p n =
    sym (append_assoc (with_number (codes "exported period ") period) (codes " lines ") number) ∙ sym parts.joined ∙ is in
    let numbers : decimal period ++ (codes " lines " ++ number) ≡ decimal p ++ with_number (codes " lines ") n = ap (drop 16) texts in
    let periods : decimal period ≡ decimal p =
    sym (before_join 32 (decimal period) (codes "lines " ++ number) (decimal_lacks_blank period)) ∙ ap (before 32) numbers
    ∙ before_join 32 (decimal p) (with_number (codes "lines ") n) (decimal_lacks_blank p) in
    let behind : codes "lines " ++ number ≡ with_number (codes "lines ") n =
    sym (after_join 32 (decimal period) (codes "lines " ++ number) (decimal_lacks_blank period)) ∙ ap (after 32) numbers
    ∙ after_join 32 (decimal p) (with_number (codes "lines ") n) (decimal_lacks_blank p) in
    let counts : number ≡ decimal n = ap (drop 6) behind in
    (decimal_is_one period p small periods, parts.is_count ∙ ap number_of counts ∙ (decimal_whole n (omega (arith, few))).1)

-- it begins with the letter e
pub told_begins : (period count : ℕ) (x : List ℕ) → lines_told period x ≡ Some count → begins_with_e x ≡ true
told_begins period count x told =
    let parts = told_parts (words_above period) x count told in
    ap begins_with_e parts.joined

-- ---- what is written of the file

-- lines at its front begin the part that the text has
pub part_begins : (count : ℕ) (ls more : TextLines) → length ls ≤ count → (rest : List ℕ) × (part_of (file_of_lines count (ls ++ more)) ≡ lines_text ls ++ rest)
part_begins count ls more few = cases (nat_le count (length (ls ++ more))) refl
  where
    long : length (ls ++ more) ≡ length ls + length more
    long = length-append ls more

    cut : count ≤ length (ls ++ more) → lines_text (take count (ls ++ more)) ≡ lines_text ls ++ lines_text (drop (length ls) (take count (ls ++ more)))
    cut enough =
        let front : take (length ls) (take count (ls ++ more)) ≡ ls =
        sym (take-append-le (length ls) (take count (ls ++ more)) (drop count (ls ++ more)) (omega (arith, few, enough, length-take-le count (ls ++ more) enough)))
        ∙ ap (take (length ls)) (take-append-drop count (ls ++ more)) ∙ take-append_seam ls more in
        ap lines_text (sym (take-append-drop (length ls) (take count (ls ++ more))) ∙ ap (λ (t : TextLines). t ++ drop (length ls) (take count (ls ++ more))) front)
        ∙ lines_append ls (drop (length ls) (take count (ls ++ more)))

    cases : (b : Bool) → nat_le count (length (ls ++ more)) ≡ b → (rest : List ℕ) × (part_of (file_of_lines count (ls ++ more)) ≡ lines_text ls ++ rest)
    cases true e =
        let enough : count ≤ length (ls ++ more) = grind (arith, nat_tests) in
        (lines_text (drop (length ls) (take count (ls ++ more))), ap part_of (file_is_whole count (ls ++ more) enough) ∙ cut enough)
    cases false e =
        let short : length (ls ++ more) < count = grind (arith, nat_tests) in
        (lines_text more, ap part_of (file_is_torn count (ls ++ more) short) ∙ lines_append ls more)
