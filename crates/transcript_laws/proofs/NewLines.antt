-- Over growing cuts, the files have as many lines of null ChargeClass as there are readings up to the last cut.
use Rattle.std.proofs.Common.{◌≡◌, ℕ, suc, ◌+◌, ◌<◌, ◌≤◌, Bool, true, false, cond, leb, List, [], ◌∷◌, ◌++◌, length, map, drop, filter, Some, ℤ, pos, ◌+ℤ◌, ◌-ℤ◌, refl, sym, ap, ap₂, ◌∙◌, arith}
use Rattle.std.specs.Prelude.{All, slice_get}
use Rattle.std.specs.List.{enumerate_from, flat_map}
use Rattle.std.proofs.lemmas.Bool.{cond-true, cond-false, le-leb, lt-leb}
use Rattle.std.proofs.lemmas.Int.{ints}
use Rattle.std.proofs.lemmas.List.{map-append}
use Rattle.std.proofs.lemmas.List.Elements.{All-nil, All-cons, All-head, All-tail, All-append}
use Rattle.metering_model.specs.Batch.{Batch, IsWellFormed, Record, Reads, Amends, Reading}
use Rattle.metering_model.specs.BatchReading.{Lines}
use Rattle.metering_model.specs.Cut.{Cut, IsGrowing, zero_cut, last_of}
use Rattle.metering_model.specs.Sheet.{Sheet, Issuer}
use Rattle.metering_model.specs.SheetRules.{IsSheet, IsIssuer}
use Rattle.metering_model.specs.Rating.{Rated}
use Rattle.metering_model.specs.Holding.{Holding, IsHolding, Position, Placed, placed, records_in_order, up_to}
use Rattle.metering_model.specs.declared.ChargeClass.{ChargeClass}
use Rattle.metering_model.specs.declared.ChargeClass.TheVariants.{New, Correction}
use Rattle.metering_model.specs.Row.{Row, row}
use Rattle.metering_model.specs.Rows.{PlacedRow, placed_rows, rows}
use Rattle.metering_model.specs.File.{text_or_null, file}
use Rattle.metering_model.specs.Totals.{rows_over}
use Rattle.metering_model.specs.World.{last_cut}
use Rattle.metering_model.proofs.EachRow.{rows_have}
use Rattle.metering_model.proofs.RecordPlaces.{place_in}
use Rattle.row_laws.specs.Charged.{files_over, files, all_rows, is_new, charge_at, charges_up_to}
use Rattle.row_laws.specs.Columns.{line_of_row, data_lines}
use Rattle.row_laws.proofs.Sums.{sum_over, sum-map, sum-filter_map, of_option}
use Rattle.row_laws.proofs.Telescoping.{within, gain, sum-up_to, sum_of_periods, last_of_zero_cut}
use Rattle.row_laws.proofs.ColumnGains.{GrowsBy, record_worth, kept, kept_worth, adds_gains}
use Rattle.row_laws.proofs.FileLaws.{one_line_each}
use Rattle.transcript_laws.specs.Csv.{csv_fields, is_null, new_lines}
use Rattle.transcript_laws.proofs.CsvLaws.{row_read}

-- ---- a length is a sum of ones

one_more : (n : ℕ) (s : ℤ) → pos n ≡ s → pos (suc n) ≡ pos 1 +ℤ s
one_more n s e = omega (arith, ints)

no_more : (n : ℕ) (s : ℤ) → pos n ≡ s → pos n ≡ pos 0 +ℤ s
no_more n s e = omega (arith, ints)

all_counted : {A : Type 0} (xs : List A) → pos (length xs) ≡ sum_over (λ (x : A). pos 1) xs
all_counted [] = refl
all_counted (x ∷ xs) = one_more (length xs) _ (all_counted xs)

counted : {A : Type 0} (p : A → Bool) (xs : List A) → pos (length (filter p xs)) ≡ sum_over (λ x. cond (p x) (pos 1) (pos 0)) xs
counted p [] = refl
counted p (x ∷ xs) = either (p x) (counted p xs)
  where
    either : (b : Bool) → pos (length (filter p xs)) ≡ sum_over (λ y. cond (p y) (pos 1) (pos 0)) xs →
        pos (length (cond b (x ∷ filter p xs) (filter p xs))) ≡ cond b (pos 1) (pos 0) +ℤ sum_over (λ y. cond (p y) (pos 1) (pos 0)) xs
    either true rest = one_more (length (filter p xs)) _ rest
    either false rest = no_more (length (filter p xs)) _ rest

-- ---- the new rows of all files

-- 1 for a new row, and for a reading once it is reached
abbrev first_charges : Row → ℤ
first_charges r = cond (is_new r) (pos 1) (pos 0)

abbrev reached : Position → Reading → ℕ → ℤ
reached at r upto = cond (leb at.seq upto) (pos 1) (pos 0)

is_reached : (at : Position) (r : Reading) (upto : ℕ) → at.seq ≤ upto → reached at r upto ≡ pos 1
is_reached at r upto h = cond-true _ (pos 1) (pos 0) (le-leb at.seq upto h)

not_reached : (at : Position) (r : Reading) (upto : ℕ) → upto < at.seq → reached at r upto ≡ pos 0
not_reached at r upto h = cond-false _ (pos 1) (pos 0) (lt-leb at.seq upto h)

counts_reached : (sheet : Sheet) (issuer : Issuer) (h : Holding) → GrowsBy sheet issuer h first_charges reached
counts_reached sheet issuer h = record {
  charged = λ period at r from to before in_to. sym (ap₂ ◌-ℤ◌ (is_reached at r to in_to) (not_reached at r from before));
  corrected = λ period at r from to in_from up. sym (ap₂ ◌-ℤ◌ (is_reached at r to (omega (arith, in_from, up))) (is_reached at r from in_from));
  same = λ at r from to in_from up alike. is_reached at r from in_from ∙ sym (is_reached at r to (omega (arith, in_from, up)));
  outside = λ at r from to up out. not_reached at r from (omega (arith, up, out)) ∙ sym (not_reached at r to out);
}

-- a batch is numbered from 1 on, so no cut of zeros reaches a record
abbrev IsNumbered : Placed → Type 0
IsNumbered x = 1 ≤ x.place.seq

batch_numbered : (b : Batch) → 1 ≤ b.seq → (es : List (ℕ × Record)) → All IsNumbered (map (place_in b) es)
batch_numbered b some [] = All-nil IsNumbered
batch_numbered b some (e ∷ es) = All-cons IsNumbered (place_in b e) (map (place_in b) es) some (batch_numbered b some es)

all_numbered : (h : Holding) → All IsWellFormed h → All IsNumbered (records_in_order h)
all_numbered [] all = All-nil IsNumbered
all_numbered (b ∷ h) all =
    All-append IsNumbered (placed b) (records_in_order h) (batch_numbered b (All-head IsWellFormed b h all).seq.0 (enumerate_from 0 b.records)) (all_numbered h (All-tail IsWellFormed b h all))

sum_same_where : {A : Type 0} (P : A → Type 0) (f g : A → ℤ) → ((x : A) → P x → f x ≡ g x) → (xs : List A) → All P xs → sum_over f xs ≡ sum_over g xs
sum_same_where P f g same [] all = refl
sum_same_where P f g same (x ∷ xs) all = ap₂ ◌+ℤ◌ (same x (All-head P x xs all)) (sum_same_where P f g same xs (All-tail P x xs all))

module _ (sheet : Sheet) (issuer : Issuer) (h : Holding) (ok : IsHolding h) (agents : ℕ) where
  -- the files' rows are all rows
  rows_of_files : (period : ℕ) (before : Cut) (cuts : List Cut) → all_rows (files_over sheet issuer h period before cuts) ≡ map (λ y. y.row) (rows_over sheet issuer h period before cuts)
  rows_of_files period before [] = refl
  rows_of_files period before (cut ∷ cuts) =
      ap (λ rs. rows sheet issuer h period before cut ++ rs) (rows_of_files (period + 1) cut cuts)
      ∙ sym (map-append (λ (y : PlacedRow). y.row) (placed_rows sheet issuer h period before cut) (rows_over sheet issuer h (period + 1) cut cuts))

  -- what a record counts, from nothing to the last cut, is 1 for a reading that the cut reaches
  reading_counts : (last : Cut) (x : Placed) → IsNumbered x →
      gain (kept_worth (λ p. true) reached) (zero_cut agents) last x ≡ within last (λ y. of_option (λ (z : Rated). pos 1) (charge_at sheet h last y)) x
  reading_counts last x some = at_record x.place x.what some
    where
      less_nothing : (v : ℤ) → v -ℤ pos 0 ≡ v
      less_nothing v = omega (arith, ints)

      nothing_either_way : (b : Bool) → pos 0 -ℤ pos 0 ≡ cond b (pos 0) (pos 0)
      nothing_either_way true = refl
      nothing_either_way false = refl

      at_record : (at : Position) (what : Record) → 1 ≤ at.seq →
          record_worth reached at what (last_of last at.agent) -ℤ record_worth reached at what (last_of (zero_cut agents) at.agent)
          ≡ within last (λ y. of_option (λ (z : Rated). pos 1) (charge_at sheet h last y)) (record { place = at; what = what })
      at_record at (Reads r) first =
          let none = last_of_zero_cut agents at.agent in
          ap (λ v. reached at r (last_of last at.agent) -ℤ v) (not_reached at r (last_of (zero_cut agents) at.agent) (omega (arith, none, first))) ∙ less_nothing _
      at_record at (Amends seq index value) first = nothing_either_way (leb at.seq (last_of last at.agent))

  new_rows : (cuts : List Cut) → IsGrowing agents cuts →
      length (filter is_new (all_rows (files sheet issuer h agents cuts))) ≡ length (charges_up_to sheet h (last_cut agents cuts))
  new_rows cuts grows =
      let last = last_cut agents cuts in
      let all = rows_over sheet issuer h 0 (zero_cut agents) cuts in
      let here =
      counted is_new (all_rows (files sheet issuer h agents cuts))
      ∙ (ap (sum_over first_charges) (rows_of_files 0 (zero_cut agents) cuts)
      ∙ (sum-map first_charges (λ (y : PlacedRow). y.row) all
      ∙ (sum_of_periods sheet issuer h (kept (λ p. true) first_charges) (kept_worth (λ p. true) reached) (adds_gains sheet issuer h first_charges reached (counts_reached sheet issuer h) (λ p. true)) 0 (zero_cut agents) cuts grows
      ∙ sum_same_where IsNumbered _ _ (reading_counts last) (records_in_order h) (all_numbered h ok.batches)))) in
      let there =
      all_counted (charges_up_to sheet h last)
      ∙ (sum-filter_map (λ (z : Rated). pos 1) (charge_at sheet h last) (records_in_order (up_to last h))
      ∙ sum-up_to last (λ y. of_option (λ (z : Rated). pos 1) (charge_at sheet h last y)) h) in
      same_count _ _ (here ∙ sym there)
    where
      same_count : (m n : ℕ) → pos m ≡ pos n → m ≡ n
      same_count m n e = omega (arith, ints)

-- ---- the lines that say so

-- its line has a null ChargeClass where it has none
abbrev SaysClass : Row → Type 0
SaysClass x = is_null (slice_get (csv_fields (line_of_row x)) 7) ≡ is_new x

says_class : (x : Row) → is_null (Some (text_or_null x.charge_class)) ≡ is_new x → SaysClass x
says_class x e = ap (λ fs. is_null (slice_get fs 7)) (row_read x) ∙ e

same_length : (b : Bool) {A B : Type 0} (x : A) (xs : List A) (y : B) (ys : List B) → length xs ≡ length ys → length (cond b (x ∷ xs) xs) ≡ length (cond b (y ∷ ys) ys)
same_length true x xs y ys e = ap suc e
same_length false x xs y ys e = e

lines_say : (xs : List Row) → All SaysClass xs → length (filter (λ line. is_null (slice_get (csv_fields line) 7)) (map line_of_row xs)) ≡ length (filter is_new xs)
lines_say [] all = refl
lines_say (x ∷ xs) all =
    let says = λ (line : List ℕ). is_null (slice_get (csv_fields line) 7) in
    let rest = lines_say xs (All-tail SaysClass x xs all) in
    ap (λ b. length (cond b (line_of_row x ∷ filter says (map line_of_row xs)) (filter says (map line_of_row xs)))) (All-head SaysClass x xs all)
    ∙ same_length (is_new x) (line_of_row x) (filter says (map line_of_row xs)) x (filter is_new xs) rest

module _ (sheet : Sheet) (issuer : Issuer) (h : Holding) (ok : IsHolding h) (limits : IsSheet sheet) (names : IsIssuer issuer) where
  row_says : (r : Reading) (period : ℕ) (class : ChargeClass) (was now : ℤ) → SaysClass (row sheet issuer r period class was now)
  row_says r period New was now = says_class (row sheet issuer r period New was now) refl
  row_says r period Correction was now = says_class (row sheet issuer r period Correction was now) refl

  rows_say : (period : ℕ) (from to : Cut) → All SaysClass (rows sheet issuer h period from to)
  rows_say period from to =
      rows_have sheet issuer h period from to SaysClass (λ x. Unit {0}) (λ at r q. row_says r period New _ _) (λ at r q. row_says r period Correction _ _) (λ k d inside. tt)

  files_say : (period : ℕ) (before : Cut) (cuts : List Cut) → All SaysClass (all_rows (files_over sheet issuer h period before cuts))
  files_say period before [] = All-nil SaysClass
  files_say period before (cut ∷ cuts) =
      All-append SaysClass (rows sheet issuer h period before cut) (all_rows (files_over sheet issuer h (period + 1) cut cuts)) (rows_say period before cut) (files_say (period + 1) cut cuts)

  lines_of_files : (period : ℕ) (before : Cut) (cuts : List Cut) → flat_map data_lines (map file (files_over sheet issuer h period before cuts)) ≡ map line_of_row (all_rows (files_over sheet issuer h period before cuts))
  lines_of_files period before [] = refl
  lines_of_files period before (cut ∷ cuts) =
      ap₂ ◌++◌ (ap (λ (x : Lines). drop 1 x.lines) (one_line_each sheet issuer h ok limits names period before cut)) (lines_of_files (period + 1) cut cuts)
      ∙ sym (map-append line_of_row (rows sheet issuer h period before cut) (all_rows (files_over sheet issuer h (period + 1) cut cuts)))

  pub as_many_new_lines : (agents : ℕ) (cuts : List Cut) → IsGrowing agents cuts →
      length (new_lines (map file (files sheet issuer h agents cuts))) ≡ length (charges_up_to sheet h (last_cut agents cuts))
  as_many_new_lines agents cuts grows =
      ap (λ ls. length (filter (λ line. is_null (slice_get (csv_fields line) 7)) ls)) (lines_of_files 0 (zero_cut agents) cuts)
      ∙ (lines_say (all_rows (files sheet issuer h agents cuts)) (files_say 0 (zero_cut agents) cuts)
      ∙ new_rows sheet issuer h ok agents cuts grows)
