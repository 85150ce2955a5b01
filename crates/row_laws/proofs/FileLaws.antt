-- The first column of the files' texts, read back and added up.
use Rattle.std.proofs.Common.{◌≡◌, ℕ, ◌+◌, ◌<◌, ◌^◌, true, List, [], ◌∷◌, ◌++◌, map, drop, get_or, Some, option_map, ℤ, pos, unsigned_abs, refl, sym, ap, ap₂, ◌∙◌, arith}
use Rattle.std.specs.Prelude.{All}
use Rattle.std.specs.List.{list_all, flat_map, join_with_byte, before_first}
use Rattle.std.proofs.lemmas.Bool.{and_from}
use Rattle.std.proofs.lemmas.List.{append_assoc, map-append}
use Rattle.std.proofs.lemmas.List.Folds.{flat_map-map}
use Rattle.std.proofs.lemmas.List.Elements.{All-nil, All-cons, All-head, All-tail, All-append, All-weaker}
use Rattle.metering_model.specs.NumberText.{number_in, spelling, value_limit, cost_limit}
use Rattle.metering_model.specs.Batch.{Reading, IsRecord, IsReading, lacks}
use Rattle.metering_model.specs.BatchReading.{Lines, lines_in, all_some, with_first}
use Rattle.metering_model.specs.Cut.{Cut, IsGrowing, zero_cut, last_of}
use Rattle.metering_model.specs.Sheet.{Sheet, Issuer}
use Rattle.metering_model.specs.Holding.{Holding, IsHolding, Placed}
use Rattle.metering_model.specs.ValueAtSequence.{value_at}
use Rattle.metering_model.specs.declared.ChargeClass.{ChargeClass}
use Rattle.metering_model.specs.declared.ChargeClass.TheVariants.{New, Correction}
use Rattle.metering_model.specs.Row.{Row, row}
use Rattle.metering_model.specs.Rows.{rows}
use Rattle.metering_model.specs.File.{quoted, header_line, fields_of_row, file}
use Rattle.metering_model.proofs.NumberLaws.{spelling_spells, spelled_number}
use Rattle.metering_model.proofs.FirstByte.{before_join}
use Rattle.metering_model.proofs.Splitting.{ended, lines_of_text}
use Rattle.metering_model.specs.SheetRules.{IsSheet, IsIssuer}
use Rattle.metering_model.specs.Totals.{amounts_of, amounts_in, sum_of}
use Rattle.metering_model.specs.World.{last_cut}
use Rattle.row_laws.specs.Charged.{charges_up_to, files_over, files, all_rows}
use Rattle.row_laws.specs.Columns.{line_of_row, data_lines, is_comma, first_number, sum_of_first_column}
use Rattle.row_laws.proofs.Sums.{sum_of_is, sum-map}
use Rattle.metering_model.proofs.ValueBounds.{value_small}
use Rattle.metering_model.proofs.ChargeBounds.{charge_within_limits}
use Rattle.metering_model.proofs.EachRow.{records_have, rows_have}
use Rattle.metering_model.proofs.LineFeeds.{line_lacks_feed, spelling_quoted, spelling_lacks_comma}
use Rattle.row_laws.proofs.FieldFeeds.{fields_one_line}
use Rattle.row_laws.proofs.TotalLaws.{totals_of_files}

-- Its line has no line feed, and its billed cost has a spelling.
pub record HasLine (x : Row) : Type 0 where
  pub one : lacks 10 (line_of_row x) ≡ true
  pub small : unsigned_abs x.billed_cost < cost_limit

-- ---- one file

-- a file is its header and its rows' lines
file_of_lines : (xs : List Row) → file xs ≡ flat_map ended (header_line ∷ map line_of_row xs)
file_of_lines xs =
    ap (λ t. header_line ++ 10 ∷ t) (sym (flat_map-map ended line_of_row xs))
    ∙ sym (append_assoc header_line (10 ∷ []) (flat_map ended (map line_of_row xs)))

lines_lack_feeds : (xs : List Row) → All HasLine xs → list_all (lacks 10) (map line_of_row xs) ≡ true
lines_lack_feeds [] all = refl
lines_lack_feeds (x ∷ xs) all = and_from _ _ (All-head HasLine x xs all).one (lines_lack_feeds xs (All-tail HasLine x xs all))

-- so these are its lines, with nothing behind the last line feed
lines_of_file : (xs : List Row) → All HasLine xs → lines_in (file xs) ≡ record { lines = header_line ∷ map line_of_row xs; rest = [] }
lines_of_file xs all = ap lines_in (file_of_lines xs) ∙ lines_of_text (header_line ∷ map line_of_row xs) (and_from _ _ refl (lines_lack_feeds xs all))

data_lines_of_file : (xs : List Row) → All HasLine xs → data_lines (file xs) ≡ map line_of_row xs
data_lines_of_file xs all = ap (λ (ls : Lines). drop 1 ls.lines) (lines_of_file xs all)

-- the number that a row's line begins with is the billed cost
first_number_of_line : (x : Row) → HasLine x → first_number (line_of_row x) ≡ Some x.billed_cost
first_number_of_line x has =
    let n = x.billed_cost in
    let t = spelling 12 n in
    let limit = has.small in
    let small : unsigned_abs n < 10 ^ 64 = omega arith in
    let rest = join_with_byte 44 (map quoted (drop 1 (fields_of_row x))) in
    ap (λ s. number_in 12 (before_first is_comma s)) (ap (λ s. s ++ 44 ∷ rest) (spelling_quoted 12 n small))
    ∙ (ap (number_in 12) (before_join 44 t rest (spelling_lacks_comma 12 n small))
    ∙ spelled_number 12 t n (spelling_spells 12 n small))

-- ---- several files

data_lines_of_files : (fs : List (List Row)) → All HasLine (all_rows fs) → flat_map data_lines (map file fs) ≡ map line_of_row (all_rows fs)
data_lines_of_files [] all = refl
data_lines_of_files (xs ∷ fs) all =
    ap₂ ◌++◌ (data_lines_of_file xs (All-left xs (all_rows fs) all)) (data_lines_of_files fs (All-right xs (all_rows fs) all))
    ∙ sym (map-append line_of_row xs (all_rows fs))
  where
    All-left : (left right : List Row) → All HasLine (left ++ right) → All HasLine left
    All-left [] right h = All-nil HasLine
    All-left (a ∷ left) right h = All-cons HasLine a left (All-head HasLine a (left ++ right) h) (All-left left right (All-tail HasLine a (left ++ right) h))

    All-right : (left right : List Row) → All HasLine (left ++ right) → All HasLine right
    All-right [] right h = h
    All-right (a ∷ left) right h = All-right left right (All-tail HasLine a (left ++ right) h)

numbers_of_lines : (xs : List Row) → All HasLine xs → all_some (map first_number (map line_of_row xs)) ≡ Some (map (λ x. x.billed_cost) xs)
numbers_of_lines [] all = refl
numbers_of_lines (x ∷ xs) all =
    ap₂ with_first (first_number_of_line x (All-head HasLine x xs all)) (numbers_of_lines xs (All-tail HasLine x xs all))

pub sum_of_texts : (fs : List (List Row)) → All HasLine (all_rows fs) → sum_of_first_column (map file fs) ≡ Some (sum_of (λ x. x.billed_cost) (all_rows fs))
sum_of_texts fs all =
    let xs = all_rows fs in
    ap (λ ls. option_map (sum_of (λ n. n)) (all_some (map first_number ls))) (data_lines_of_files fs all)
    ∙ (ap (option_map (sum_of (λ n. n))) (numbers_of_lines xs all)
    ∙ ap Some (sum_of_is (λ n. n) (map (λ x. x.billed_cost) xs) ∙ (sum-map (λ n. n) (λ (x : Row). x.billed_cost) xs ∙ sym (sum_of_is (λ x. x.billed_cost) xs))))

-- ---- the files of a group

module _ (sheet : Sheet) (issuer : Issuer) (h : Holding) (ok : IsHolding h) (limits : IsSheet sheet) (names : IsIssuer issuer) where
  row_has_line : (r : Reading) (period : ℕ) (class : ChargeClass) (was now : ℤ) → IsReading r → unsigned_abs was < value_limit → unsigned_abs now < value_limit → HasLine (row sheet issuer r period class was now)
  row_has_line r period class was now rule small_was small_now = record {
    one = line_lacks_feed (fields_of_row (row sheet issuer r period class was now)) (fields_one_line sheet issuer r period class was now limits names rule small_was small_now);
    small = (charge_within_limits sheet r was now limits small_was small_now).billed;
  }

  rows_have_lines : (period : ℕ) (from to : Cut) → All HasLine (rows sheet issuer h period from to)
  rows_have_lines period from to =
      rows_have sheet issuer h period from to HasLine (λ (x : Placed). IsRecord x.what)
      (λ at r rule. row_has_line r period New (pos 0) (value_at h at (last_of to at.agent)) rule (omega arith) (value_small h at _ ok))
      (λ at r rule. row_has_line r period Correction (value_at h at (last_of from at.agent)) (value_at h at (last_of to at.agent)) rule (value_small h at _ ok) (value_small h at _ ok))
      (records_have (λ (x : Placed). IsRecord x.what) to h (λ k d inside _.
      let b = get_or h k d in
      All-weaker IsRecord (λ r. (i : ℕ) → IsRecord r) (λ r rule i. rule) b.records (ok.batches k d inside).records))

  pub one_line_each : (period : ℕ) (from to : Cut) →
      lines_in (file (rows sheet issuer h period from to)) ≡ record { lines = header_line ∷ map line_of_row (rows sheet issuer h period from to); rest = [] }
  one_line_each period from to = lines_of_file (rows sheet issuer h period from to) (rows_have_lines period from to)

  files_have_lines : (period : ℕ) (before : Cut) (cuts : List Cut) → All HasLine (all_rows (files_over sheet issuer h period before cuts))
  files_have_lines period before [] = All-nil HasLine
  files_have_lines period before (cut ∷ cuts) =
      All-append HasLine (rows sheet issuer h period before cut) (all_rows (files_over sheet issuer h (period + 1) cut cuts))
      (rows_have_lines period before cut) (files_have_lines (period + 1) cut cuts)

  pub texts_add_up : (agents : ℕ) (cuts : List Cut) → IsGrowing agents cuts →
      sum_of_first_column (map file (files sheet issuer h agents cuts)) ≡ Some (sum_of (λ x. x.billed) (charges_up_to sheet h (last_cut agents cuts)))
  texts_add_up agents cuts grows =
      let xs = all_rows (files sheet issuer h agents cuts) in
      let charges = charges_up_to sheet h (last_cut agents cuts) in
      sum_of_texts (files sheet issuer h agents cuts) (files_have_lines 0 (zero_cut agents) cuts)
      ∙ ap Some (sum_of_is (λ x. x.billed_cost) xs
      ∙ (sym (sum_of_is (λ a. a.billed) (map amounts_in xs) ∙ sum-map (λ a. a.billed) amounts_in xs)
      ∙ (ap (λ a. a.billed) (totals_of_files sheet issuer h ok agents cuts grows)
      ∙ (sum_of_is (λ a. a.billed) (map amounts_of charges)
      ∙ (sum-map (λ a. a.billed) amounts_of charges
      ∙ sym (sum_of_is (λ x. x.billed) charges))))))
