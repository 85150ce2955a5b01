-- What is filed bills each reading of the batch at its last value, in a line of its own.
use Rattle.std.proofs.Common.{◌≡◌, ℕ, ◌+◌, ◌<◌, ◌^◌, Bool, true, false, List, [], ◌∷◌, ◌++◌, map, drop, flat_map, Option, Ok, All, IsTrue, ℤ, pos, unsigned_abs, ◌-ℤ◌, refl, sym, ap, subst, ◌∙◌, append_assoc, arith}
use Rattle.std.specs.Prelude.{if◌then◌else◌}
use Rattle.std.specs.List.{AllZip, filter_map, join_with_byte}
use Rattle.std.proofs.lemmas.Bool.{false≢true}
use Rattle.std.proofs.lemmas.List.Elements.{All-nil, All-cons, All-head, All-tail}
use Rattle.std.proofs.lemmas.List.Folds.{flat_map-map}
use Rattle.metering_model.specs.NumberText.{spelling, value_limit}
use Rattle.metering_model.specs.declared.Kind.{Kind}
use Rattle.metering_model.specs.declared.Kind.TheVariants.{Usage, Purchase, Credit, Tax, Adjustment}
use Rattle.metering_model.specs.declared.ChargeClass.TheVariants.{New}
use Rattle.metering_model.specs.Batch.{Batch, Record, Reads, Amends, IsReading, IsRecord, is_priced, lacks}
use Rattle.metering_model.specs.BatchReading.{batch_in}
use Rattle.metering_model.specs.Sheet.{Sheet, Issuer, PriceRow, Commitment}
use Rattle.metering_model.specs.SheetRules.{IsSheet, IsIssuer}
use Rattle.metering_model.specs.Holding.{Placed, placed}
use Rattle.metering_model.specs.ValueAtSequence.{value_at}
use Rattle.metering_model.specs.Front.{is_due}
use Rattle.metering_model.specs.Rating.{cost_at}
use Rattle.metering_model.specs.Row.{charge, priced_kind, price_of, commitment_of}
use Rattle.metering_model.specs.File.{quoted, fields_of_row, header_line, row_text, file}
use Rattle.metering_model.proofs.Splitting.{ended}
use Rattle.metering_model.proofs.BatchLaws.{batch_read, IsWellFormed-read}
use Rattle.metering_model.proofs.HoldingLaws.{IsHolding-nil, IsHolding-put}
use Rattle.metering_model.proofs.ValueBounds.{value_small}
use Rattle.metering_model.proofs.ChargeBounds.{charge_within_limits}
use Rattle.metering_model.proofs.LineFeeds.{line_lacks_feed, spelling_quoted}
use Rattle.row_laws.specs.Columns.{line_of_row}
use Rattle.row_laws.proofs.FieldFeeds.{fields_one_line}
use Rattle.metering_model.specs.RatedAlone.{file_by}
use Rattle.batch_player.specs.Charges.{Metered, last_value, metered_at, metered_in, billed, BillsReading, BillsEach, BillsBatch}
use Rattle.batch_player.proofs.Amounts.{cost_spelling}
use Rattle.batch_player.proofs.AloneLaws.{first_batch, first_is, placed_from, place_of, value_alone, row_of_metered, rows_alone_are}
use Rattle.batch_player.proofs.JournaledLaws.{filed_apart}

-- ---- readings and their last values

-- A reading that meets its rules, and a value in range.
pub record IsMetered (m : Metered) : Type 0 where
  pub reading : IsReading m.reading
  pub small : unsigned_abs m.value < value_limit

metered_from : (agent : ℕ) (all : List Placed) (i : ℕ) (rs : List Record) → ((index : ℕ) → unsigned_abs (last_value all (place_of agent index)) < value_limit)
    → All IsRecord rs → All IsMetered (filter_map (metered_at all) (placed_from agent i rs))
metered_from agent all i [] small is = All-nil IsMetered
metered_from agent all i (Reads r ∷ rs) small is =
    let one : IsMetered (record { reading = r; value = last_value all (place_of agent i) }) = record { reading = All-head IsRecord (Reads r) rs is; small = small i } in
    All-cons IsMetered _ (filter_map (metered_at all) (placed_from agent (i + 1) rs)) one (metered_from agent all (i + 1) rs small (All-tail IsRecord (Reads r) rs is))
metered_from agent all i (Amends seq index value ∷ rs) small is =
    metered_from agent all (i + 1) rs small (All-tail IsRecord (Amends seq index value) rs is)

-- those of a batch that was read
pub metered_of_batch : (text : List ℕ) (b : Batch) → batch_in text ≡ Ok b → b.seq ≡ 1 → All IsMetered (metered_in b)
metered_of_batch text b read first =
    let is = batch_read text b read in
    let holding = IsHolding-put [] b IsHolding-nil (IsWellFormed-read text b read) in
    let alone = subst (λ (x : Batch). (index : ℕ) → unsigned_abs (value_at (x ∷ []) (place_of b.agent index) 1) < value_limit) (sym (first_is b first)) (λ index. value_small (b ∷ []) (place_of b.agent index) 1 holding) in
    subst (λ x. All IsMetered (metered_in x)) (first_is b first)
    (metered_from b.agent (placed (first_batch b.version b.agent b.records)) 0 b.records
    (λ index. subst (λ v. unsigned_abs v < value_limit) (value_alone b.version b.agent index b.records) (alone index)) is.records)

-- ---- the line of one reading

-- what no price charges is charged by its value
flat_cost : (kind : Kind) (price : Option PriceRow) (c : Option Commitment) (v : ℤ) → is_priced kind ≡ false
    → (charge (priced_kind kind) price c (pos 0) v).billed ≡ cost_at 1_000_000 (v -ℤ pos 0)
flat_cost Usage price c v flat = absurd (false≢true (sym flat))
flat_cost Purchase price c v flat = absurd (false≢true (sym flat))
flat_cost Credit price c v flat = refl
flat_cost Tax price c v flat = refl
flat_cost Adjustment price c v flat = refl

module _ (sheet : Sheet) (issuer : Issuer) (period : ℕ) (limits : IsSheet sheet) (names : IsIssuer issuer) where
  abbrev line_of : Metered → List ℕ
  line_of m = line_of_row (row_of_metered sheet issuer period m)

  line_bills : (m : Metered) → IsMetered m → BillsReading sheet m (line_of m)
  line_bills m is =
      let x = row_of_metered sheet issuer period m in
      let rest = join_with_byte 44 (map quoted (drop 1 (fields_of_row x))) in
      let limit = (charge_within_limits sheet m.reading (pos 0) m.value limits (omega arith) is.small).billed in
      let small : unsigned_abs (billed sheet m) < 10 ^ 64 = omega arith in
      record {
        rest = rest;
        begins = ap (λ s. s ++ 44 ∷ rest) (spelling_quoted 12 (billed sheet m) small);
        amount = λ flat. ap (spelling 12) (flat_cost m.reading.kind (price_of sheet m.reading) (commitment_of sheet m.reading) m.value flat) ∙ cost_spelling m.value is.small;
      }

  line_is_one : (m : Metered) → IsMetered m → lacks 10 (line_of m) ≡ true
  line_is_one m is =
      line_lacks_feed (fields_of_row (row_of_metered sheet issuer period m)) (fields_one_line sheet issuer m.reading period New (pos 0) m.value limits names is.reading (omega arith) is.small)

  -- ---- the lines of all

  lines_bill : (ms : List Metered) → All IsMetered ms → AllZip (BillsReading sheet) ms (map line_of ms)
  lines_bill [] h = tt
  lines_bill (m ∷ ms) h = (line_bills m (All-head IsMetered m ms h), lines_bill ms (All-tail IsMetered m ms h))

  abbrev IsOneLine : List ℕ → Type 0
  IsOneLine line = IsTrue (lacks 10 line)

  lines_are_one : (ms : List Metered) → All IsMetered ms → All IsOneLine (map line_of ms)
  lines_are_one [] h = All-nil IsOneLine
  lines_are_one (m ∷ ms) h = All-cons IsOneLine (line_of m) (map line_of ms) (line_is_one m (All-head IsMetered m ms h)) (lines_are_one ms (All-tail IsMetered m ms h))

  file_lines : (ms : List Metered) → file (map (row_of_metered sheet issuer period) ms) ≡ flat_map ended (header_line ∷ map line_of ms)
  file_lines ms =
      let rows = flat_map-map row_text (row_of_metered sheet issuer period) ms ∙ sym (flat_map-map ended line_of ms) in
      ap (λ t. header_line ++ 10 ∷ t) rows ∙ sym (append_assoc header_line (10 ∷ []) (flat_map ended (map line_of ms)))

  file_bills : (ms : List Metered) → All IsMetered ms → BillsEach sheet ms (file (map (row_of_metered sheet issuer period) ms))
  file_bills ms h = record { lines = map line_of ms; joined = file_lines ms; costs = lines_bill ms h; one_line_each = lines_are_one ms h }

  -- where the readings are due, and where they are not
  due_file_bills : (due : Bool) (ms : List Metered) → All IsMetered ms
      → BillsEach sheet (if due then ms else []) (file (if due then map (row_of_metered sheet issuer period) ms else []))
  due_file_bills true ms h = file_bills ms h
  due_file_bills false ms h = file_bills [] (All-nil IsMetered)

  -- What is filed of a batch bills each of its readings, where the batch is due, and else nothing.
  pub bills_batch : (text filed : List ℕ) → file_by sheet issuer period text ≡ Ok filed → BillsBatch sheet period text filed
  bills_batch text filed h =
      let is = filed_apart sheet issuer period text filed h in
      let b = is.batch in
      let agent = (batch_read text b is.is_batch).agent in
      let rows = rows_alone_are sheet issuer b period is.first agent.0 agent.1 in
      let due = is_due sheet.base period b in
      let bills = due_file_bills due (metered_in b) (metered_of_batch text b is.is_batch is.first) in
      record {
        batch = b;
        is_input = is.is_batch;
        bills = subst (BillsEach sheet (if due then metered_in b else [])) (sym (ap file rows) ∙ is.written) bills;
      }
