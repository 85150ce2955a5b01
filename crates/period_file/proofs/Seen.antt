-- What the bytes that were seen say of the first file in the whole input.
use Rattle.std.proofs.Common.{◌≡◌, ℕ, ◌<◌, ◌≤◌, Bool, true, false, List, [], ◌∷◌, ◌++◌, length, take, Option, Some, None, IfSome, Ok, Err, refl, sym, ap, ◌∙◌, arith, append_assoc, append-nil, subst}
use Rattle.std.specs.Prelude.{nat_le, if◌then◌else◌}
use Rattle.std.specs.Io.KnownBytes.{Consumes, IsAtEnd}
use Rattle.std.proofs.KnownBytes.{Appends-nil}
use Rattle.std.proofs.lemmas.Bool.{and_from}
use Rattle.std.proofs.lemmas.Bool.Decides.{nat_tests}
use Rattle.std.proofs.lemmas.List.{length-append}
use Rattle.std.proofs.Math.Seq.{take-append_seam}
use Rattle.counted_io.specs.Reading.{ConsumesAtMost}
use Rattle.metering_model.specs.Batch.{lacks}
use Rattle.metering_model.specs.BatchReading.{Lines, lines_in}
use Rattle.metering_model.specs.Transcript.{line}
use Rattle.metering_model.specs.Schedule.{TextLines, lines_text}
use Rattle.line_source.specs.declared.faults.SourceFault.{SourceFault}
use Rattle.line_source.specs.declared.faults.SourceFault.TheVariants as source
use Rattle.line_source.specs.Calls.{IsOfReading}
use Rattle.line_source.specs.Reading.{Takes}
use Rattle.transcript_laws.specs.FirstFiles.{NoFile, TornFile, WholeFile, first_file, first_of_lines, file_of_lines, lines_told, part_of}
use Rattle.transcript_laws.proofs.TextLaws.{are_whole, lines_append, lines_and_rest, lines_before, whole_both}
use Rattle.transcript_laws.proofs.FirstFileLaws.{file_is_whole, file_is_torn, first_behind, part_begins, told_first}
use Rattle.period_file.specs.Faults.{of_source}
use Rattle.period_file.specs.Files.{AppendsPrefixOf, IsRefusal, answer_of, file_in}
use Rattle.period_file.specs.declared.faults.FileFault.{FileFault}
use Rattle.period_file.specs.declared.faults.FileFault.TheVariants as fault
use Rattle.period_file.specs.Inner.Calls.{IsOfCopying}
use Rattle.period_file.specs.Inner.Reading.{Finds}

-- ---- the answer

pub short_answer : (period : ℕ) (input : List ℕ) → length input ≤ 4_294_967_296 → file_in period input ≡ answer_of (first_file period input)
unfolding file_in
short_answer period input short =
    let fits : nat_le (length input) 4_294_967_296 ≡ true = grind (arith, nat_tests) in
    ap (λ (b : Bool). if b then answer_of (first_file period input) else Err fault.TooLong) fits

long_answer : (period : ℕ) (input : List ℕ) → 4_294_967_296 < length input → file_in period input ≡ Err fault.TooLong
unfolding file_in
long_answer period input long =
    let exceeds : nat_le (length input) 4_294_967_296 ≡ false = grind (arith, nat_tests) in
    ap (λ (b : Bool). if b then answer_of (first_file period input) else Err fault.TooLong) exceeds

-- what stops reading may stop copying
pub copying_of : (told : SourceFault) (read : ℕ) → IsOfReading told read → IsOfCopying (of_source told) read
copying_of source.TooLong read it = it
copying_of source.Read read it = it
copying_of source.OutOfMemory read it = it

-- ---- the whole input

-- the input, of which these bytes came: all of it where no more is left
pub record Input (known left : Option (List ℕ)) (came : List ℕ) : Type 0 where
  pub input : List ℕ
  pub is_input : IfSome known (λ bytes. input ≡ bytes)
  pub rest : List ℕ
  pub joined : input ≡ came ++ rest
  pub ended : IsAtEnd left → rest ≡ []

some_input : (known left : Option (List ℕ)) (came : List ℕ) → Consumes known left came → Input known left came
some_input None left came consumed = record { input = came; is_input = tt; rest = []; joined = sym (append-nil came); ended = λ end. refl }
some_input (Some xs) None came consumed = absurd consumed
some_input (Some xs) (Some ys) came consumed = record { input = xs; is_input = refl; rest = ys; joined = consumed; ended = λ end. end }

-- what holds of the input holds of it where it is known
pub if_known : (known : Option (List ℕ)) (input : List ℕ) → IfSome known (λ bytes. input ≡ bytes) → (P : List ℕ → Type 0) → P input → IfSome known P
if_known None input is P holds = tt
if_known (Some xs) input is P holds = subst P is holds

pub any_prefix : (known : Option (List ℕ)) (period : ℕ) (w : Option (List ℕ)) → AppendsPrefixOf known period w w
any_prefix None period w = record { input = []; is_input = tt; appended = (0, omega arith, Appends-nil w) }
any_prefix (Some xs) period w = record { input = xs; is_input = refl; appended = (0, omega arith, Appends-nil w) }

-- of all that was read some was taken
module _ {known left : Option (List ℕ)} {rest : List ℕ} {read : ℕ} {taken : List ℕ} (it : Takes [] rest 0 read known left taken) where
  pub input_of : Input known left it.came
  input_of = some_input known left it.came it.consumed

  pub input_seen : input_of.input ≡ taken ++ (rest ++ input_of.rest)
  input_seen = input_of.joined ∙ ap (λ t. t ++ input_of.rest) it.joined ∙ append_assoc taken rest input_of.rest

  pub all_of : IsAtEnd left → input_of.input ≡ it.came
  all_of end = input_of.joined ∙ ap (λ t. it.came ++ t) (input_of.ended end) ∙ append-nil it.came

  pub input_fits : IsAtEnd left → read ≤ 4_294_967_296 → length input_of.input ≤ 4_294_967_296
  input_fits end short = let all = ap length (all_of end) in let counted = it.counted in omega (arith, all, counted, short)

  pub read_within : read ≤ 4_294_967_297 → ConsumesAtMost 4_294_967_297 known left
  read_within most = let counted = it.counted in (it.came, it.consumed, omega (arith, counted, most))

  too_long : (period : ℕ) → 4_294_967_296 < read → IfSome known (λ input. file_in period input ≡ Err fault.TooLong)
  too_long period long =
      let all = ap length input_of.joined ∙ length-append it.came input_of.rest in
      let counted = it.counted in
      if_known known input_of.input input_of.is_input (λ input. file_in period input ≡ Err fault.TooLong) (long_answer period input_of.input (omega (arith, all, counted, long)))

  -- no other fault of copying is one that the input has
  pub refused : (period : ℕ) (told : FileFault) → IsOfCopying told read → IsRefusal told → IfSome known (λ input. file_in period input ≡ Err told)
  refused period fault.NoFile of_copying refusal = absurd of_copying
  refused period fault.Torn of_copying refusal = absurd of_copying
  refused period fault.TooLong long refusal = too_long period long
  refused period fault.Read of_copying refusal = absurd refusal
  refused period fault.Write of_copying refusal = absurd refusal
  refused period fault.OutOfMemory of_copying refusal = absurd refusal

-- ---- no line stands above a file

pub none_seen : (period : ℕ) (ls : TextLines) (rest : List ℕ) → are_whole ls ≡ true → first_of_lines period ls ≡ NoFile → lacks 10 rest ≡ true → first_file period (lines_text ls ++ rest) ≡ NoFile
none_seen period ls rest whole none ends = ap (λ (x : Lines). first_of_lines period x.lines) (lines_and_rest ls rest whole ends) ∙ none

-- ---- one does

first_seen : (period number : ℕ) (ls : TextLines) (above behind : List ℕ) → are_whole ls ≡ true → first_of_lines period ls ≡ NoFile → lacks 10 above ≡ true → lines_told period above ≡ Some number
    → first_file period ((lines_text ls ++ line above) ++ behind) ≡ file_of_lines number (lines_in behind).lines
first_seen period number ls above behind whole none ends told =
    let own : lines_text (above ∷ []) ≡ line above = append-nil (line above) in
    let prefix : lines_text ls ++ line above ≡ lines_text (ls ++ above ∷ []) = sym (lines_append ls (above ∷ []) ∙ ap (λ t. lines_text ls ++ t) own) in
    let more = (lines_in behind).lines in
    ap (λ t. first_file period (t ++ behind)) prefix
    ∙ ap (first_of_lines period) (lines_before (ls ++ above ∷ []) behind (whole_both ls (above ∷ []) whole (and_from _ _ ends refl)) ∙ append_assoc ls (above ∷ []) more)
    ∙ first_behind period ls (above ∷ more) none ∙ told_first period number above more told

lines_long : (ls : TextLines) → length ls ≤ length (lines_text ls)
lines_long [] = omega arith
lines_long (l ∷ ls) =
    let rest = lines_long ls in
    let one = length-append l (10 ∷ []) in
    let all = length-append (line l) (lines_text ls) in
    omega (arith, rest, one, all)

module _ {period count : ℕ} {known mid : Option (List ℕ)} {ahead : List ℕ} {read : ℕ} (found : Finds period count [] ahead 0 read known mid) where
  -- the lines up to the one above the file, and that one
  abbrev pub above : List ℕ
  above = lines_text found.lines ++ line found.above

  -- these lines follow it, and then what is behind them
  module _ (lines : TextLines) (behind input : List ℕ) (whole : are_whole lines ≡ true) (is : input ≡ (above ++ lines_text lines) ++ behind) where
    first_of_input : first_file period input ≡ file_of_lines found.is_told.0 (lines ++ (lines_in behind).lines)
    first_of_input =
        ap (first_file period) (is ∙ append_assoc above (lines_text lines) behind)
        ∙ first_seen period found.is_told.0 found.lines found.above (lines_text lines ++ behind) found.untold.whole found.untold.none found.lacks_feed found.is_told.1
        ∙ ap (file_of_lines found.is_told.0) (lines_before lines behind whole)

    few_lines : length lines ≤ length input
    few_lines =
        let all = ap length is in
        let one = length-append (above ++ lines_text lines) behind in
        let two = length-append above (lines_text lines) in
        let long = lines_long lines in
        omega (arith, all, one, two, long)

    -- at most so many lines as the line above says are a prefix of the file
    pub prefix_seen : length lines ≤ count → (more : List ℕ) × (part_of (first_file period input) ≡ lines_text lines ++ more)
    prefix_seen few =
        let told = found.is_told.2 in
        let begins = part_begins found.is_told.0 lines (lines_in behind).lines (omega (arith, few, told)) in
        (begins.0, ap part_of first_of_input ∙ begins.1)

    -- just so many are all of it
    pub whole_seen : length lines ≡ count → length input ≤ 4_294_967_296 → file_in period input ≡ Ok (lines_text lines)
    whole_seen counted short =
        let told = found.is_told.2 in
        let few = few_lines in
        let number : found.is_told.0 ≡ length lines = omega (arith, counted, told, few, short) in
        let more = (lines_in behind).lines in
        let enough : found.is_told.0 ≤ length (lines ++ more) = omega (arith, number, length-append lines more) in
        let cut : take found.is_told.0 (lines ++ more) ≡ lines = ap (λ n. take n (lines ++ more)) number ∙ take-append_seam lines more in
        short_answer period input short
        ∙ ap answer_of (first_of_input ∙ file_is_whole found.is_told.0 (lines ++ more) enough ∙ ap (λ ls. WholeFile (lines_text ls)) cut)

    -- fewer are a torn one, where no line is behind them
    pub torn_seen : length lines < count → lacks 10 behind ≡ true → first_file period input ≡ TornFile (lines_text lines)
    torn_seen few ends =
        let told = found.is_told.2 in
        let nothing : (lines_in behind).lines ≡ [] = ap (λ (x : Lines). x.lines) (lines_and_rest [] behind refl ends) in
        first_of_input
        ∙ ap (λ (ls : TextLines). file_of_lines found.is_told.0 (lines ++ ls)) nothing
        ∙ ap (file_of_lines found.is_told.0) (append-nil lines)
        ∙ file_is_torn found.is_told.0 lines (omega (arith, few, told))
