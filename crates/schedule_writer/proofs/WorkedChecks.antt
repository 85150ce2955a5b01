-- What `check` writes of inputs that are to have a schedule: what is wrong, and then what is odd.
use Rattle.std.proofs.Common.{◌≡◌, ℕ, ◌+◌, ◌*◌, true, false, cond, nat_le, List, [], ◌∷◌, ◌++◌, append-nil, length, map, take, drop, None, Result, Ok, Err, ok_or, pos, refl, ap, ap₂, ◌∙◌, codes, arith, length-append, le-leb}
use Rattle.std.specs.Prelude.{⊤}
use Rattle.std.specs.Str.{is_utf8, chars}
use Rattle.std.specs.Fmt.{digits}
use Rattle.metering_model.specs.Batch.{Batch, Reading, Reads}
use Rattle.metering_model.specs.declared.Kind.TheVariants.{Usage}
use Rattle.metering_model.specs.declared.Version.TheVariants.{B1}
use Rattle.metering_model.specs.BatchReading.{batch_in}
use Rattle.metering_model.specs.FirstFailure.{◌>>=◌, holds_or}
use Rattle.metering_model.specs.Limits.{most_input_bytes, most_issuer_lines, most_sheet_lines}
use Rattle.metering_model.specs.NumberText.{decimals_of, worth_of}
use Rattle.metering_model.specs.RatedAlone.{world_before}
use Rattle.metering_model.specs.Schedule.{lines_text}
use Rattle.metering_model.specs.Step.{on_batch, or_bad_batch, or_refused, step}
use Rattle.metering_model.specs.Transcript.{line_count}
use Rattle.metering_model.specs.World.{World, Reply, Journal, Good, Bad, Journaled, Delivered, Started, Restarted, Exported, KeptText, Refused, offer_of}
use Rattle.metering_model.specs.declared.BatchFault.{BatchFault}
use Rattle.metering_model.specs.Sheet.{Issuer, Sheet}
use Rattle.metering_model.proofs.Samples.{sheet_0, sheet_0_lines, reading_1}
use Rattle.metering_model.proofs.StepLaws.{ok_step_from, test_step_from}
use Rattle.byte_text.proofs.PastLines.{lines_behind}
use Rattle.metering_model.specs.BatchReading.{Lines, lines_in}
use Rattle.batch_view.specs.Batches.{batch_of}
use Rattle.batch_view.proofs.BatchLemmas.{batch_of_is}
use Rattle.sheet_text.specs.Names.{key_name}
use Rattle.sheet_text.specs.Keys.{value_under, text_under, label_under, base_under, day_under, price_under, per_under, service_category_under, commitment_category_under, rows_in, rows_under}
use Rattle.sheet_text.specs.Samples.{sample_issuer}
use Rattle.sheet_text.specs.RowReading.{price_row_in, commitment_in, region_in}
use Rattle.sheet_text.specs.declared.faults.SheetFault.{SheetFault}
use Rattle.sheet_text.specs.declared.faults.SheetFault.TheVariants.{NotToml}
use Rattle.price_sheet.specs.SheetReading.{next_price, next_commitment, next_region, sheet_of_rows, sheet_in, sheet_of_text}
use Rattle.sheet_text.proofs.WorkedSteps.{scan_numeral, days_from_civil, day_count, days_of_years, days_of_months, skip_ws, skip_from, special, body}
use Rattle.sheet_text.proofs.WorkedSteps.{one_line, quoted, simple_key, key_after, underscore_fits, decimal_number, plain_number, number, word_value}
use Rattle.sheet_text.proofs.WorkedSteps.{word_len, unquoted, along_header, along_dots, at_key, define, key_equals, val, atom, header_key}
use Rattle.sheet_text.proofs.WorkedSteps.{expression, line, lines, skip_bom, parse_document}
use Rattle.input_sections.specs.declared.faults.ScheduleCode.{ScheduleCode}
use Rattle.input_sections.specs.declared.faults.ScheduleCode.TheVariants as code
use Rattle.input_sections.specs.declared.faults.ScheduleFault.{ScheduleFault}
use Rattle.input_sections.specs.declared.faults.ScheduleFault.TheVariants as fault
use Rattle.input_sections.specs.Sections.{Section, Unread, begins_with, first_line, first_of, issuer_section, left, lines_left, number_behind, read_as, section_in, section_of, sheet_section, told, whole_of}
use Rattle.input_sections.specs.RateInput.{RateInput, default_sheet, if_begun, rate_input_in}
use Rattle.answer_words.specs.Words.{section_code_text}
use Rattle.fault_lines.specs.Ahead.{ahead_in, ahead_of, ahead_of_all}
use Rattle.fault_lines.specs.Fields.{fault_field}
use Rattle.fault_lines.specs.Told.{from_line, said_by, said_of_text, section_on, told_at}
use Rattle.fault_lines.specs.TomlStops.{sheet_words, stop_among, stop_from, stop_in, stop_words}
use Rattle.fault_lines.specs.UnknownKeys.{behind_sheet, keys_left, told_along, told_if_there, told_of_section, unknown_from, unknown_from_issuer, unknown_in_issuer, unknown_in_sheet, unknown_on, with_rows, with_table}
use Rattle.schedule_writer.specs.Checks.{if_journaled, journaled_of, said_of_input, told_of_answer, told_of_batches, warned_of_input}
use Rattle.schedule_writer.specs.Inputs.{Offered, batches_of, items_in, items_of, offered_length}
use Rattle.schedule_writer.specs.Refusals.{answer_to}
use Rattle.schedule_writer.specs.Inner.SaidLines.{said_of_refused, warned_of_refused}
use Rattle.schedule_writer.proofs.CheckLaws.{said_of_read, warned_of_read}

abbrev written : List (List ℕ) → List ℕ
written ls = said_of_input (lines_text ls) ++ warned_of_input (lines_text ls)

-- ---- a batch is read once: what is told of it is told of what was read

abbrev behind : World → Batch → Reply × World
behind w x = or_refused w (on_batch w x)

step_read : (w : World) (text : List ℕ) (x : Batch) → batch_in text ≡ Ok x → step w (Journal (offer_of text)) ≡ behind w x
step_read w text x is =
    ap (λ (r : Result Batch BatchFault). step w (Journal (elim r [ Ok y ↦ Good text | Err fault ↦ Bad fault ]))) is
    ∙ ap (λ (r : Result Batch BatchFault). or_refused w (or_bad_batch r >>= on_batch w)) is

-- what was read of each of these batches
abbrev AreRead : List (Offered × Batch) → Type 0
AreRead [] = ⊤
AreRead (p ∷ ps) = (batch_in p.0.text ≡ Ok p.1) × AreRead ps

abbrev offered : List (Offered × Batch) → List Offered
offered ps = map (λ p. p.0) ps

module _ (input : List ℕ) where
  abbrev told_by : World → List (Offered × Batch) → List ℕ
  told_by w [] = []
  told_by w (p ∷ ps) = told_of_answer input w p.0 (behind w p.1).0 ++ told_by (behind w p.1).1 ps

  abbrev if_counted : Offered × Batch → Reply → List (ℕ × Batch)
  if_counted p (Journaled k) = (line_count (take p.0.from input), p.1) ∷ []
  if_counted p other = []

  abbrev counted_by : World → List (Offered × Batch) → List (ℕ × Batch)
  counted_by w [] = []
  counted_by w (p ∷ ps) = if_counted p (behind w p.1).0 ++ counted_by (behind w p.1).1 ps

  told_is : (w : World) (ps : List (Offered × Batch)) → AreRead ps → told_of_batches input w (offered ps) ≡ told_by w ps
  unfolding answer_to
  told_is w [] are = refl
  told_is w (p ∷ ps) are =
      ap (λ (o : Reply × World). told_of_answer input w p.0 o.0 ++ told_of_batches input o.1 (offered ps)) (step_read w p.0.text p.1 are.0)
      ∙ ap (λ t. told_of_answer input w p.0 (behind w p.1).0 ++ t) (told_is (behind w p.1).1 ps are.1)

  one_counted : (b : Offered) (r : Reply) → if_journaled input b r ≡ if_counted (b, batch_of b.text) r
  one_counted b (Journaled k) = refl
  one_counted b (Delivered sent learned) = refl
  one_counted b (Started ballot k) = refl
  one_counted b Restarted = refl
  one_counted b (Exported s) = refl
  one_counted b (KeptText text) = refl
  one_counted b (Refused why) = refl

  counted_is : (w : World) (ps : List (Offered × Batch)) → AreRead ps → journaled_of input w (offered ps) ≡ counted_by w ps
  unfolding answer_to
  counted_is w [] are = refl
  counted_is w (p ∷ ps) are =
      ap (λ (o : Reply × World). if_journaled input p.0 o.0 ++ journaled_of input o.1 (offered ps)) (step_read w p.0.text p.1 are.0)
      ∙ ap₂ (λ (xs ys : List (ℕ × Batch)). xs ++ ys)
      (one_counted p.0 (behind w p.1).0 ∙ ap (λ (x : Batch). if_counted (p.0, x) (behind w p.1).0) (batch_of_is p.0.text p.1 are.0))
      (counted_is (behind w p.1).1 ps are.1)

-- what is written of sections that are read once, too, and of batches that are
module _ (input : List ℕ) (given : RateInput) (unknown : List ℕ) (ps : List (Offered × Batch)) where
  abbrev before : World
  before = world_before given.sheet given.issuer

  written_of : rate_input_in input ≡ Ok given → unknown_on 1 input ≡ unknown → batches_of (items_of input given) ≡ offered ps → AreRead ps
      → said_of_input input ++ warned_of_input input ≡ told_by input before ps ++ (unknown ++ ahead_of_all [] (counted_by input before ps))
  written_of sections keys batches reads =
      ap₂ (λ t u. t ++ u) (said_of_read input given sections ∙ (ap (told_of_batches input before) batches ∙ told_is input before ps reads))
      (warned_of_read input given sections ∙ ap₂ (λ t js. t ++ ahead_of_all [] js) keys (ap (journaled_of input before) batches ∙ counted_is input before ps reads))

-- ---- the batches that are read: a reading of two hours from a day's beginning on

abbrev reading : ℕ → List ℕ → Reading
reading day text = record {
  kind = Usage;
  start = pos (86_400 * day);
  end = pos (86_400 * day + 7_200);
  start_text = text ++ codes "T00:00:00Z";
  end_text = text ++ codes "T02:00:00Z";
  account = codes "acc-7";
  resource = codes "vm-1";
  key = codes "cpu";
  value = pos 5_400_000_000;
  commitment = [];
  tags = record { key = codes "env"; value = codes "prod" } ∷ [];
  region = None;
}

abbrev batch : ℕ → ℕ → Reading → Batch
batch agent seq r = record { version = B1; agent = agent; seq = seq; records = Reads r ∷ [] }

-- 366 days later, and 367
abbrev a_year : List ℕ
a_year = codes "U|2026-01-11T00:00:00Z|2026-01-11T02:00:00Z|acc-7|vm-1|cpu|5400||env=prod"

abbrev more : List ℕ
more = codes "U|2026-01-12T00:00:00Z|2026-01-12T02:00:00Z|acc-7|vm-1|cpu|5400||env=prod"

abbrev first_read : Batch
first_read = batch 1 1 (reading 20_098 (codes "2025-01-10"))

abbrev year_read : ℕ → Batch
year_read seq = batch 1 seq (reading 20_464 (codes "2026-01-11"))

abbrev more_read : ℕ → ℕ → Batch
more_read agent seq = batch agent seq (reading 20_465 (codes "2026-01-12"))

reads_first : batch_in (lines_text (codes "B1|1|1|1" ∷ reading_1 ∷ [])) ≡ Ok (first_read)
unfolding days_from_civil day_count days_of_years days_of_months worth_of decimals_of digits
reads_first = refl

reads_more : batch_in (lines_text (codes "B1|1|2|1" ∷ more ∷ [])) ≡ Ok (more_read 1 2)
unfolding days_from_civil day_count days_of_years days_of_months worth_of decimals_of digits
reads_more = refl

reads_year : batch_in (lines_text (codes "B1|1|2|1" ∷ a_year ∷ [])) ≡ Ok (year_read 2)
unfolding days_from_civil day_count days_of_years days_of_months worth_of decimals_of digits
reads_year = refl

reads_ninth : batch_in (lines_text (codes "B1|1|9|1" ∷ more ∷ [])) ≡ Ok (more_read 1 9)
unfolding days_from_civil day_count days_of_years days_of_months worth_of decimals_of digits
reads_ninth = refl

reads_ninth_year : batch_in (lines_text (codes "B1|1|9|1" ∷ a_year ∷ [])) ≡ Ok (year_read 9)
unfolding days_from_civil day_count days_of_years days_of_months worth_of decimals_of digits
reads_ninth_year = refl

reads_second_agent : batch_in (lines_text (codes "B1|2|1|1" ∷ more ∷ [])) ≡ Ok (more_read 2 1)
unfolding days_from_civil day_count days_of_years days_of_months worth_of decimals_of digits
reads_second_agent = refl

-- ---- the text of a sheet is read once, and its keys are looked at once

-- the text is this sheet, and that is told of its keys
record IsSheetText (text unknown : List ℕ) : Type 0 where
  utf8 : is_utf8 text ≡ true
  read : sheet_of_text text ≡ Ok sheet_0
  keys : told_of_section unknown_in_sheet 1 text ≡ unknown

utf8_sheet : is_utf8 (lines_text sheet_0_lines) ≡ true
unfolding is_utf8 chars lib.Utf8.encode
utf8_sheet = refl

read_sheet : sheet_of_text (lines_text sheet_0_lines) ≡ Ok sheet_0
unfolding price_row_in commitment_in region_in next_price next_commitment next_region sheet_of_rows sheet_in sheet_of_text key_name value_under text_under
    label_under base_under day_under price_under per_under service_category_under commitment_category_under rows_in rows_under parse_document lines
    line expression skip_bom skip_from skip_ws header_key key_equals key_after simple_key val atom quoted one_line body special define along_header
    along_dots at_key unquoted word_len word_value number underscore_fits plain_number decimal_number scan_numeral days_from_civil day_count
    days_of_years days_of_months worth_of
read_sheet = refl

keys_of_sheet : told_of_section unknown_in_sheet 1 (lines_text sheet_0_lines) ≡ []
unfolding told_of_section unknown_in_sheet with_table with_rows keys_left told_along key_name rows_in rows_under is_utf8 chars lib.Utf8.encode
    parse_document lines line expression skip_bom skip_from skip_ws header_key key_equals key_after simple_key val atom quoted one_line body special
    define along_header along_dots at_key unquoted word_len word_value number underscore_fits plain_number decimal_number scan_numeral digits
keys_of_sheet = refl

sheet_text : IsSheetText (lines_text sheet_0_lines) []
sheet_text = record { utf8 = utf8_sheet; read = read_sheet; keys = keys_of_sheet }

-- what stands behind its section, which begins on line 1
abbrev whole : List ℕ → Unread
whole input = record { text = input; from = 0; line = 1 }

abbrev section : List (List ℕ) → List ℕ → Section
section ls input = record {
  text = lines_text ls;
  rest = record { text = input; from = 9 + length (lines_text ls); line = length ls + 2 };
}

abbrev section_behind : Unread → Result Section ScheduleFault
section_behind u = section_in code.Sheet (codes "sheet ") most_sheet_lines u

abbrev issuer_behind : Unread → Result Section ScheduleFault
issuer_behind u = section_in code.Issuer (codes "issuer ") most_issuer_lines u

-- the input begins with that section, and no issuer follows
record IsBehind (input : List ℕ) (s : Section) : Type 0 where
  fits : nat_le (length input) most_input_bytes ≡ true
  begins : begins_with (codes "sheet ") input ≡ true
  is_section : section_behind (whole input) ≡ Ok s
  bare : begins_with (codes "issuer ") (left s.rest) ≡ false
  no_issuer : issuer_behind s.rest ≡ Err (fault.Refused code.Issuer s.rest.line)

whole_is : (input : List ℕ) → nat_le (length input) most_input_bytes ≡ true → whole_of input ≡ Ok (whole input)
whole_is input fits = test_step_from (nat_le (length input) most_input_bytes) (fault.Refused code.TooLong 1) (λ _. Ok (whole input)) _ fits refl

read_behind : (input : List ℕ) (s : Section) (unknown : List ℕ) → IsSheetText s.text unknown → IsBehind input s
    → rate_input_in input ≡ Ok (record { sheet = sheet_0; issuer = sample_issuer; batch = left s.rest })
unfolding rate_input_in sheet_section read_as
read_behind input s unknown is at =
    let u = whole input in
    let read : read_as sheet_of_text (fault.Refused code.Sheet 1) s.text ≡ Ok sheet_0
    = test_step_from (is_utf8 s.text) _ _ _ is.utf8 (ap (told (fault.Refused code.Sheet 1)) is.read) in
    let sheet : if_begun (codes "sheet ") sheet_section default_sheet u ≡ Ok (sheet_0, s.rest)
    = ap (λ b. cond b (sheet_section u) (Ok (default_sheet, u))) at.begins ∙ ok_step_from (section_behind u) _ s _ at.is_section (ok_step_from _ _ sheet_0 _ read refl) in
    let issuer : if_begun (codes "issuer ") issuer_section sample_issuer s.rest ≡ Ok (sample_issuer, s.rest)
    = ap (λ b. cond b (issuer_section s.rest) (Ok (sample_issuer, s.rest))) at.bare in
    ok_step_from (whole_of input) _ u _ (whole_is input at.fits) (ok_step_from _ _ (sheet_0, s.rest) _ sheet (ok_step_from _ _ (sample_issuer, s.rest) _ issuer refl))

keys_behind : (input : List ℕ) (s : Section) (unknown : List ℕ) → IsSheetText s.text unknown → IsBehind input s → unknown_on 1 input ≡ unknown
unfolding unknown_on unknown_from unknown_from_issuer from_line
keys_behind input s unknown is at =
    let u = whole input in
    let there : from_line code.Sheet 1 input ≡ Ok u
    = ok_step_from (whole_of input) _ u _ (whole_is input at.fits) (test_step_from (nat_le 0 (length (lines_left u))) _ _ _ (le-leb 0 (length (lines_left u)) (omega arith)) refl) in
    ap (λ (r : Result Unread ScheduleFault). elim r [ Ok v ↦ unknown_from v | Err e ↦ [] ]) there
    ∙ (ap (behind_sheet u) at.is_section
    ∙ (ap₂ (λ t n. t ++ told_if_there unknown_in_issuer s.rest.line n) is.keys at.no_issuer ∙ append-nil unknown))

-- ---- below a sheet of 14 lines the first batch has its head on line 15, and its reading of 2025-01-10 on line 16

abbrev below : List (List ℕ) → List (List ℕ)
below behind = codes "sheet 13" ∷ sheet_0_lines ++ (codes "B1|1|1|1" ∷ reading_1 ∷ behind)

-- what is given with these lines behind the first batch
abbrev given : List (List ℕ) → RateInput
given behind = record { sheet = sheet_0; issuer = sample_issuer; batch = lines_text (codes "B1|1|1|1" ∷ reading_1 ∷ behind) }

-- the batch of these lines, behind those lines of an input
abbrev at : List (List ℕ) → List (List ℕ) → Batch → Offered × Batch
at above ls x = (record { from = length (lines_text above); text = lines_text ls }, x)

abbrev first_there : Offered × Batch
first_there = at (codes "sheet 13" ∷ sheet_0_lines) (codes "B1|1|1|1" ∷ reading_1 ∷ []) first_read

abbrev section_from : ScheduleCode → List ℕ → ℕ → Unread → Result (List ℕ × Unread) ScheduleFault → Result Section ScheduleFault
section_from why word most u opening =
    opening >>= λ (o : List ℕ × Unread). ok_or (number_behind word most o.0) (fault.Refused why u.line) >>= λ (n : ℕ).
    holds_or (nat_le n (length (lines_left o.1))) (fault.Refused code.Lines u.line) >>= λ (x : Unit {0}). Ok (section_of n o.1)

abbrev section_with : Unread → List ℕ → Result Section ScheduleFault
section_with u text = Ok (record { text = text; rest = record u { from = u.from + length text; line = u.line + 13 } })

section_below : (ls : List (List ℕ)) → nat_le (length (lines_text (below ls))) most_input_bytes ≡ true → IsBehind (lines_text (below ls)) (section sheet_0_lines (lines_text (below ls)))
unfolding section_in
section_below ls fits =
    let input = lines_text (below ls) in
    let batch = lines_text (codes "B1|1|1|1" ∷ reading_1 ∷ ls) in
    let u = whole input in
    let v : Unread = record { text = input; from = 9; line = 2 } in
    let s = section sheet_0_lines input in
    let all = lines_behind (codes "sheet 13" ∷ sheet_0_lines) batch refl in
    let under = lines_behind sheet_0_lines batch refl in
    let head = lines_behind (codes "B1|1|1|1" ∷ []) (lines_text (reading_1 ∷ ls)) refl in
    let opening : first_line code.Sheet u ≡ Ok (codes "sheet 13", v) = ap (λ (x : Lines). first_of code.Sheet u x.lines) all in
    let enough : nat_le 13 (length (lines_left v)) ≡ true
    = ap (λ (x : Lines). nat_le 13 (length x.lines)) under ∙ le-leb 13 _ (let long = length-append sheet_0_lines (lines_in batch).lines in omega (arith, long)) in
    let there : ◌≡◌ {A = Result Section ScheduleFault} (Ok (section_of 13 v)) (Ok s)
    = ap (λ (x : Lines). section_with v (lines_text (take 13 x.lines))) under in
    record {
      fits = fits;
      begins = refl;
      is_section = ap (section_from code.Sheet (codes "sheet ") most_sheet_lines u) opening
          ∙ (ap (λ b. holds_or b (fault.Refused code.Lines 1) >>= λ (x : Unit {0}). Ok (section_of 13 v)) enough ∙ there);
      bare = refl;
      no_issuer = ap (λ (x : Lines). section_from code.Issuer (codes "issuer ") most_issuer_lines s.rest (first_of code.Issuer s.rest x.lines)) head;
    }

written_below : (ls : List (List ℕ)) (ps : List (Offered × Batch)) → nat_le (length (lines_text (below ls))) most_input_bytes ≡ true
    → batches_of (items_of (lines_text (below ls)) (given ls)) ≡ offered ps → AreRead ps
    → written (below ls) ≡ told_by (lines_text (below ls)) (world_before sheet_0 sample_issuer) ps
    ++ ahead_of_all [] (counted_by (lines_text (below ls)) (world_before sheet_0 sample_issuer) ps)
written_below ls ps fits batches reads =
    let input = lines_text (below ls) in
    let s = section sheet_0_lines input in
    let at = section_below ls fits in
    written_of input (given ls) [] ps (read_behind input s [] sheet_text at) (keys_behind input s [] sheet_text at) batches reads

-- the line `close` is one of those above: it is line 17, the head line 18
behind_a_close : written (below (codes "close" ∷ codes "B1|1|2|1" ∷ more ∷ [])) ≡ lines_text (codes "line 19: ahead 2026-01-12" ∷ [])
unfolding items_of items_in offered_length ahead_of_all ahead_of ahead_in fault_field worth_of decimals_of digits
behind_a_close =
    let ls = codes "close" ∷ codes "B1|1|2|1" ∷ more ∷ [] in
    let ps = first_there ∷ at (below (codes "close" ∷ [])) (codes "B1|1|2|1" ∷ more ∷ []) (more_read 1 2) ∷ [] in
    let reads : AreRead ps = (reads_first, (reads_more, tt)) in
    written_below ls ps refl refl reads ∙ refl

a_year_behind_a_close : written (below (codes "close" ∷ codes "B1|1|2|1" ∷ a_year ∷ [])) ≡ []
unfolding items_of items_in offered_length ahead_of_all ahead_of ahead_in fault_field worth_of decimals_of digits
a_year_behind_a_close =
    let ls = codes "close" ∷ codes "B1|1|2|1" ∷ a_year ∷ [] in
    let ps = first_there ∷ at (below (codes "close" ∷ [])) (codes "B1|1|2|1" ∷ a_year ∷ []) (year_read 2) ∷ [] in
    let reads : AreRead ps = (reads_first, (reads_year, tt)) in
    written_below ls ps refl refl reads ∙ refl

-- of a batch that is refused nothing is warned of
a_refused_reading : written (below (codes "B1|1|9|1" ∷ more ∷ [])) ≡ lines_text (codes "line 17: G2 wanted 2" ∷ [])
unfolding items_of items_in offered_length ahead_of_all ahead_of ahead_in fault_field worth_of decimals_of digits
a_refused_reading =
    let ls = codes "B1|1|9|1" ∷ more ∷ [] in
    let ps = first_there ∷ at (below []) (codes "B1|1|9|1" ∷ more ∷ []) (more_read 1 9) ∷ [] in
    let reads : AreRead ps = (reads_first, (reads_ninth, tt)) in
    written_below ls ps refl refl reads ∙ refl

-- were its reading one of those above, the last would not be far ahead
a_refused_batch_does_not_count : written (below (codes "B1|1|9|1" ∷ a_year ∷ codes "B1|1|2|1" ∷ more ∷ [])) ≡ lines_text (codes "line 17: G2 wanted 2" ∷ codes "line 20: ahead 2026-01-12" ∷ [])
unfolding items_of items_in offered_length ahead_of_all ahead_of ahead_in fault_field worth_of decimals_of digits
a_refused_batch_does_not_count =
    let ls = codes "B1|1|9|1" ∷ a_year ∷ codes "B1|1|2|1" ∷ more ∷ [] in
    let ps = first_there ∷ at (below []) (codes "B1|1|9|1" ∷ a_year ∷ []) (year_read 9) ∷ at (below (codes "B1|1|9|1" ∷ a_year ∷ [])) (codes "B1|1|2|1" ∷ more ∷ []) (more_read 1 2) ∷ [] in
    let reads : AreRead ps = (reads_first, (reads_ninth_year, (reads_more, tt))) in
    written_below ls ps refl refl reads ∙ refl

-- of another agent nothing is asked
of_another_agent : written (below (codes "B1|2|1|1" ∷ more ∷ [])) ≡ []
unfolding items_of items_in offered_length ahead_of_all ahead_of ahead_in fault_field worth_of decimals_of digits
of_another_agent =
    let ls = codes "B1|2|1|1" ∷ more ∷ [] in
    let ps = first_there ∷ at (below []) (codes "B1|2|1|1" ∷ more ∷ []) (more_read 2 1) ∷ [] in
    let reads : AreRead ps = (reads_first, (reads_second_agent, tt)) in
    written_below ls ps refl refl reads ∙ refl

-- ---- a key that no reader takes, on line 3, so all that stands behind it is a line further down

abbrev with_key_lines : List (List ℕ)
with_key_lines = take 1 sheet_0_lines ++ (codes "regions = 1" ∷ drop 1 sheet_0_lines)

abbrev with_key : List (List ℕ) → List (List ℕ)
with_key behind = codes "sheet 14" ∷ with_key_lines ++ (codes "B1|1|1|1" ∷ reading_1 ∷ behind)

utf8_with_key : is_utf8 (lines_text with_key_lines) ≡ true
unfolding is_utf8 chars lib.Utf8.encode
utf8_with_key = refl

read_with_key : sheet_of_text (lines_text with_key_lines) ≡ Ok sheet_0
unfolding price_row_in commitment_in region_in next_price next_commitment next_region sheet_of_rows sheet_in sheet_of_text key_name value_under text_under
    label_under base_under day_under price_under per_under service_category_under commitment_category_under rows_in rows_under parse_document lines
    line expression skip_bom skip_from skip_ws header_key key_equals key_after simple_key val atom quoted one_line body special define along_header
    along_dots at_key unquoted word_len word_value number underscore_fits plain_number decimal_number scan_numeral days_from_civil day_count
    days_of_years days_of_months worth_of
read_with_key = refl

the_key : told_of_section unknown_in_sheet 1 (lines_text with_key_lines) ≡ lines_text (codes "line 3: unknown regions" ∷ [])
unfolding told_of_section unknown_in_sheet with_table with_rows keys_left told_along key_name rows_in rows_under is_utf8 chars lib.Utf8.encode
    parse_document lines line expression skip_bom skip_from skip_ws header_key key_equals key_after simple_key val atom quoted one_line body special
    define along_header along_dots at_key unquoted word_len word_value number underscore_fits plain_number decimal_number scan_numeral digits
the_key = refl

keys_come_first : written (with_key (codes "close" ∷ codes "B1|1|2|1" ∷ more ∷ [])) ≡ lines_text (codes "line 3: unknown regions" ∷ codes "line 20: ahead 2026-01-12" ∷ [])
unfolding section_in items_of items_in offered_length ahead_of_all ahead_of ahead_in fault_field worth_of decimals_of digits
keys_come_first =
    let ls = codes "close" ∷ codes "B1|1|2|1" ∷ more ∷ [] in
    let input = lines_text (with_key ls) in
    let key = lines_text (codes "line 3: unknown regions" ∷ []) in
    let s = section with_key_lines input in
    let is : IsSheetText s.text key = record { utf8 = utf8_with_key; read = read_with_key; keys = the_key } in
    let behind : IsBehind input s = record { fits = refl; begins = refl; is_section = refl; bare = refl; no_issuer = refl } in
    let ps = at (codes "sheet 14" ∷ with_key_lines) (codes "B1|1|1|1" ∷ reading_1 ∷ []) first_read ∷ at (with_key (codes "close" ∷ [])) (codes "B1|1|2|1" ∷ more ∷ []) (more_read 1 2) ∷ [] in
    let reads : AreRead ps = (reads_first, (reads_more, tt)) in
    written_of input (given ls) key ps (read_behind input s key is behind) (keys_behind input s key is behind) refl reads ∙ refl

-- where the sections are refused, here for a key that stands twice, nothing is warned of
abbrev twice_lines : List (List ℕ)
twice_lines = with_key_lines ++ (codes "per = 1" ∷ [])

no_sheet : sheet_of_text (lines_text twice_lines) ≡ Err NotToml
unfolding price_row_in commitment_in region_in next_price next_commitment next_region sheet_of_rows sheet_in sheet_of_text key_name value_under text_under
    label_under base_under day_under price_under per_under service_category_under commitment_category_under rows_in rows_under parse_document lines
    line expression skip_bom skip_from skip_ws header_key key_equals key_after simple_key val atom quoted one_line body special define along_header
    along_dots at_key unquoted word_len word_value number underscore_fits plain_number decimal_number scan_numeral days_from_civil day_count
    days_of_years days_of_months worth_of
no_sheet = refl

utf8_twice : is_utf8 (lines_text twice_lines) ≡ true
unfolding is_utf8 chars lib.Utf8.encode
utf8_twice = refl

-- for which the reader's fault stands, told at the line that opens the section
read_twice : read_as sheet_of_text (fault.Refused code.Sheet 1) (lines_text twice_lines) ≡ Err (fault.Refused code.Sheet 1)
unfolding read_as
read_twice = test_step_from (is_utf8 (lines_text twice_lines)) _ _ _ utf8_twice (ap (told (fault.Refused code.Sheet 1)) no_sheet)

-- and the line at which its table stops being TOML
stop_twice : stop_words 1 (lines_text twice_lines) ≡ codes " line 16"
unfolding stop_words stop_from stop_in stop_among is_utf8 chars lib.Utf8.encode parse_document lines line expression skip_bom skip_from skip_ws header_key
    key_equals key_after simple_key val atom quoted one_line body special define along_header along_dots at_key unquoted word_len word_value number
    underscore_fits plain_number decimal_number scan_numeral digits
stop_twice = refl

no_warning_of_a_bad_sheet : written (codes "sheet 15" ∷ twice_lines ++ (codes "B1|1|1|1" ∷ reading_1 ∷ [])) ≡ lines_text (codes "line 1: L4 S1 line 16" ∷ [])
unfolding rate_input_in sheet_section section_in said_of_text section_on from_line digits
no_warning_of_a_bad_sheet =
    let input = lines_text (codes "sheet 15" ∷ twice_lines ++ (codes "B1|1|1|1" ∷ reading_1 ∷ [])) in
    let why = fault.Refused code.Sheet 1 in
    let refused : rate_input_in input ≡ Err why
    = ap (λ (r : Result Sheet ScheduleFault). (r >>= λ (sheet : Sheet). Ok (sheet, (section twice_lines input).rest)) >>= λ (x : Sheet × Unread).
    if_begun (codes "issuer ") issuer_section sample_issuer x.1 >>= λ (y : Issuer × Unread). Ok (record { sheet = x.0; issuer = y.0; batch = left y.1 })) read_twice in
    ap₂ (λ t u. t ++ u) (said_of_refused input why refused) (warned_of_refused input why refused)
    ∙ ap₂ (λ b (o : Result Sheet SheetFault). told_at 1 (section_code_text code.Sheet ++ cond b (said_by (sheet_words 1 (lines_text twice_lines)) o) (codes " not UTF-8")) ++ []) utf8_twice no_sheet
    ∙ ap (λ t. told_at 1 (section_code_text code.Sheet ++ (codes " " ++ (codes "S1" ++ t))) ++ []) stop_twice
