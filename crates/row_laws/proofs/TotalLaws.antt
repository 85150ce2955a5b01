-- What rows add up to over growing cuts: of one place, and of all.
use Rattle.std.proofs.Common.{◌≡◌, ℕ, ◌+◌, ◌<◌, ◌≤◌, ◌&&◌, Bool, true, false, cond, ltb, leb, List, [], ◌∷◌, ◌++◌, map, filter, Some, None, unwrap_or, ℤ, pos, ◌+ℤ◌, ◌-ℤ◌, refl, sym, ap, ap₂, ◌∙◌, arith}
use Rattle.std.specs.Prelude.{All, ◌==◌, nat_le}
use Rattle.std.specs.List.{enumerate_from, last_or, filter_map}
use Rattle.std.proofs.lemmas.Bool.{cond_both, cond-false, lt-leb, leb-false, and_right}
use Rattle.std.proofs.lemmas.Int.{ints}
use Rattle.std.proofs.lemmas.List.{map-append}
use Rattle.std.proofs.lemmas.List.Elements.{filter-append, All-head, All-tail}
use Rattle.metering_model.specs.Batch.{Batch, IsWellFormed, Record, Reads, Amends, Reading}
use Rattle.metering_model.specs.Cut.{Cut, IsGrowing, zero_cut, last_of}
use Rattle.metering_model.specs.Sheet.{Sheet, Issuer}
use Rattle.metering_model.specs.Rating.{Rated}
use Rattle.metering_model.specs.Holding.{Holding, IsHolding, Position, Placed, records_in_order, placed, is_same_place, reading_at, up_to}
use Rattle.metering_model.specs.ValueAtSequence.{value_at, value_given_by, journal_until}
use Rattle.metering_model.specs.declared.ChargeClass.{ChargeClass}
use Rattle.metering_model.specs.Row.{Row, row}
use Rattle.metering_model.specs.Rows.{PlacedRow, placed_rows, rows}
use Rattle.metering_model.specs.Totals.{Amounts, amounts_of, amounts_in, added_up, sum_of, rows_over, rows_of_place, totals}
use Rattle.metering_model.specs.World.{last_cut}
use Rattle.row_laws.specs.Charged.{charged_at_once, charge_at, charges_up_to, files_over, files, all_rows}
use Rattle.row_laws.proofs.Sums.{sum_over, sum_of_is, sum_same, sum-map, sum-filter, sum-filter_map, of_option}
use Rattle.metering_model.proofs.RecordPlaces.{place_in}
use Rattle.row_laws.proofs.Telescoping.{within, gain, sum-up_to, sum_of_periods, last_of_zero_cut}
use Rattle.row_laws.proofs.ColumnGains.{record_worth, kept, kept_worth, adds_gains}
use Rattle.row_laws.proofs.AmountGains.{difference_of, grows_by_value, value_before}
use Rattle.metering_model.proofs.RecordPlaces.{stands_at, reading_there}

-- ---- at sequence 0 a reading is worth nothing, since no batch has that sequence

is_until : ℕ → ℕ → Placed → Bool
is_until agent upto x = (x.place.agent == agent) && nat_le x.place.seq upto

none_of_batch : (agent : ℕ) (b : Batch) → 1 ≤ b.seq → (es : List (ℕ × Record)) → filter (λ x. (x.place.agent == agent) && nat_le x.place.seq 0) (map (place_in b) es) ≡ []
none_of_batch agent b some [] = refl
none_of_batch agent b some (e ∷ es) =
    cond-false ((b.agent == agent) && nat_le b.seq 0) (place_in b e ∷ filter (λ x. (x.place.agent == agent) && nat_le x.place.seq 0) (map (place_in b) es)) (filter (λ x. (x.place.agent == agent) && nat_le x.place.seq 0) (map (place_in b) es))
    (and_right (b.agent == agent) (nat_le b.seq 0) (lt-leb b.seq 0 (omega arith)))
    ∙ none_of_batch agent b some es

none_until_zero : (agent : ℕ) (h : Holding) → All IsWellFormed h → journal_until h agent 0 ≡ []
none_until_zero agent [] all = refl
none_until_zero agent (b ∷ h) all =
    let well = All-head IsWellFormed b h all in
    filter-append (λ x. (x.place.agent == agent) && nat_le x.place.seq 0) (placed b) (records_in_order h)
    ∙ ap₂ ◌++◌ (none_of_batch agent b well.seq.0 (enumerate_from 0 b.records)) (none_until_zero agent h (All-tail IsWellFormed b h all))

pub value_at_zero : (h : Holding) (at : Position) → IsHolding h → value_at h at 0 ≡ pos 0
value_at_zero h at ok =
    cond_both (ltb 0 at.seq) (pos 0) _ (λ v. v ≡ pos 0) (λ _. refl)
    (λ _. ap (λ (xs : List Placed). unwrap_or (last_or None (filter_map (value_given_by at) xs)) (pos 0)) (none_until_zero at.agent h ok.batches))

-- ---- a column over all periods

module _ (sheet : Sheet) (issuer : Issuer) (h : Holding) (ok : IsHolding h) (agents : ℕ) (cuts : List Cut) (grows : IsGrowing agents cuts)
    (column : Row → ℤ) (amount : Reading → ℤ → ℤ)
    (differs : (r : Reading) (period : ℕ) (class : ChargeClass) (was now : ℤ) → column (row sheet issuer r period class was now) ≡ amount r now -ℤ amount r was)
    (nothing : (r : Reading) → amount r (pos 0) ≡ pos 0)
  where
    abbrev worth : Position → Reading → ℕ → ℤ
    worth at r upto = amount r (value_at h at upto)

    abbrev last : Cut
    last = last_cut agents cuts

    -- before all cuts a record is worth nothing
    first_worth : (at : Position) (what : Record) → record_worth worth at what (last_of (zero_cut agents) at.agent) ≡ pos 0
    first_worth at (Reads r) = ap (λ n. amount r (value_at h at n)) (last_of_zero_cut agents at.agent) ∙ (ap (amount r) (value_at_zero h at ok) ∙ nothing r)
    first_worth at (Amends seq index value) = refl

    whole_gain : (keep : Position → Bool) (x : Placed) → gain (kept_worth keep worth) (zero_cut agents) last x ≡ kept_worth keep worth x (last_of last x.place.agent)
    whole_gain keep x =
        ap (λ v. kept_worth keep worth x (last_of last x.place.agent) -ℤ v) (ap (λ v. cond (keep x.place) v (pos 0)) (first_worth x.place x.what) ∙ neither (keep x.place))
        ∙ less_nothing _
      where
        neither : (b : Bool) → cond b (pos 0) (pos 0) ≡ pos 0
        neither true = refl
        neither false = refl

        less_nothing : (v : ℤ) → v -ℤ pos 0 ≡ v
        less_nothing v = omega (arith, ints)

    -- the rows of the places to keep
    sum_of_kept : (keep : Position → Bool) → sum_over (kept keep column) (rows_over sheet issuer h 0 (zero_cut agents) cuts) ≡ sum_over (λ x. kept_worth keep worth x (last_of last x.place.agent)) (records_in_order h)
    sum_of_kept keep =
        sum_of_periods sheet issuer h (kept keep column) (kept_worth keep worth) (adds_gains sheet issuer h column worth (grows_by_value sheet issuer h column amount differs) keep) 0 (zero_cut agents) cuts grows
        ∙ sum_same _ _ (whole_gain keep) (records_in_order h)

    -- the rows of one place
    pub sum_of_place : (at : Position) (r : Reading) → reading_at h at ≡ Some r → sum_over column (rows_of_place sheet issuer h agents cuts at) ≡ amount r (value_at h at (last_of last at.agent))
    sum_of_place at r found =
        sum-map column (λ (y : PlacedRow). y.row) (filter (λ y. is_same_place y.place at) (rows_over sheet issuer h 0 (zero_cut agents) cuts))
        ∙ (sum-filter (λ (y : PlacedRow). column y.row) (λ y. is_same_place y.place at) (rows_over sheet issuer h 0 (zero_cut agents) cuts)
        ∙ (sum_of_kept (λ p. is_same_place p at)
        ∙ (sym (sum-filter (λ x. record_worth worth x.place x.what (last_of last x.place.agent)) (stands_at at) (records_in_order h))
        ∙ (ap (sum_over (λ x. record_worth worth x.place x.what (last_of last x.place.agent))) (reading_there h at r ok found)
        ∙ and_nothing _))))
      where
        and_nothing : (v : ℤ) → v +ℤ pos 0 ≡ v
        and_nothing v = omega (arith, ints)

    -- all rows
    charge_within : (field : Rated → ℤ) → ((r : Reading) (v : ℤ) → field (charged_at_once sheet r v) ≡ amount r v) → (x : Placed) →
        within last (λ y. of_option field (charge_at sheet h last y)) x ≡ record_worth worth x.place x.what (last_of last x.place.agent)
    charge_within field is x =
        cond_both (leb x.place.seq (last_of last x.place.agent)) (of_option field (charge_at sheet h last x)) (pos 0) (λ v. v ≡ record_worth worth x.place x.what (last_of last x.place.agent))
        (λ _. inside x.place x.what)
        (λ out. sym (outside x.place x.what (leb-false _ _ out)))
      where
        inside : (at : Position) (what : Record) → of_option field (charge_at sheet h last (record { place = at; what = what })) ≡ record_worth worth at what (last_of last at.agent)
        inside at (Reads r) = is r (value_at h at (last_of last at.agent))
        inside at (Amends seq index value) = refl

        outside : (at : Position) (what : Record) → last_of last at.agent < at.seq → record_worth worth at what (last_of last at.agent) ≡ pos 0
        outside at (Reads r) out = ap (amount r) (value_before h at (last_of last at.agent) out) ∙ nothing r
        outside at (Amends seq index value) out = refl

    pub sum_of_all : (field : Rated → ℤ) → ((r : Reading) (v : ℤ) → field (charged_at_once sheet r v) ≡ amount r v) →
        sum_over column (map (λ y. y.row) (rows_over sheet issuer h 0 (zero_cut agents) cuts)) ≡ sum_over field (charges_up_to sheet h last)
    sum_of_all field is =
        sum-map column (λ (y : PlacedRow). y.row) (rows_over sheet issuer h 0 (zero_cut agents) cuts)
        ∙ (sum_of_kept (λ p. true)
        ∙ sym (sum-filter_map field (charge_at sheet h last) (records_in_order (up_to last h))
        ∙ (sum-up_to last (λ y. of_option field (charge_at sheet h last y)) h
        ∙ sum_same _ _ (charge_within field is) (records_in_order h))))

-- ---- the six columns

minus_itself_nothing : (a : ℤ) → a ≡ a -ℤ a → a ≡ pos 0
minus_itself_nothing a e = omega (arith, ints)

same_amounts : (a b : Amounts) → a.consumed ≡ b.consumed → a.priced ≡ b.priced → a.list ≡ b.list → a.contracted ≡ b.contracted → a.billed ≡ b.billed → a.effective ≡ b.effective → a ≡ b
same_amounts a b consumed priced list contracted billed effective =
    ap (λ v. record a { consumed = v }) consumed
    ∙ (ap (λ v. record a { consumed = b.consumed; priced = v }) priced
    ∙ (ap (λ v. record a { consumed = b.consumed; priced = b.priced; list = v }) list
    ∙ (ap (λ v. record a { consumed = b.consumed; priced = b.priced; list = b.list; contracted = v }) contracted
    ∙ (ap (λ v. record b { effective = a.effective; billed = v }) billed
    ∙ ap (λ v. record b { effective = v }) effective))))

-- One of the six amounts is, in each row, what its reading is charged at the new value less what it is at the old one.
pub record AddsUp (sheet : Sheet) (issuer : Issuer) (field : Amounts → ℤ) : Type 0 where
  pub differs : (r : Reading) (period : ℕ) (class : ChargeClass) (was now : ℤ) →
      field (amounts_in (row sheet issuer r period class was now)) ≡ field (amounts_of (charged_at_once sheet r now)) -ℤ field (amounts_of (charged_at_once sheet r was))
  pub nothing : (r : Reading) → field (amounts_of (charged_at_once sheet r (pos 0))) ≡ pos 0

module _ (sheet : Sheet) (issuer : Issuer) where
  consumed_adds : AddsUp sheet issuer (λ a. a.consumed)
  consumed_adds = record { differs = λ r period class was now. (difference_of sheet r was now).consumed; nothing = λ r. minus_itself_nothing _ (difference_of sheet r (pos 0) (pos 0)).consumed }

  priced_adds : AddsUp sheet issuer (λ a. a.priced)
  priced_adds = record { differs = λ r period class was now. (difference_of sheet r was now).priced; nothing = λ r. minus_itself_nothing _ (difference_of sheet r (pos 0) (pos 0)).priced }

  list_adds : AddsUp sheet issuer (λ a. a.list)
  list_adds = record { differs = λ r period class was now. (difference_of sheet r was now).list; nothing = λ r. minus_itself_nothing _ (difference_of sheet r (pos 0) (pos 0)).list }

  contracted_adds : AddsUp sheet issuer (λ a. a.contracted)
  contracted_adds = record { differs = λ r period class was now. (difference_of sheet r was now).contracted; nothing = λ r. minus_itself_nothing _ (difference_of sheet r (pos 0) (pos 0)).contracted }

  billed_adds : AddsUp sheet issuer (λ a. a.billed)
  billed_adds = record { differs = λ r period class was now. (difference_of sheet r was now).billed; nothing = λ r. minus_itself_nothing _ (difference_of sheet r (pos 0) (pos 0)).billed }

  effective_adds : AddsUp sheet issuer (λ a. a.effective)
  effective_adds = record { differs = λ r period class was now. (difference_of sheet r was now).effective; nothing = λ r. minus_itself_nothing _ (difference_of sheet r (pos 0) (pos 0)).effective }

-- the sum of one column, from the front
of_rows : (field : Amounts → ℤ) (xs : List Row) → sum_of field (map amounts_in xs) ≡ sum_over (λ x. field (amounts_in x)) xs
of_rows field xs = sum_of_is field (map amounts_in xs) ∙ sum-map field amounts_in xs

of_charges : (field : Amounts → ℤ) (xs : List Rated) → sum_of field (map amounts_of xs) ≡ sum_over (λ x. field (amounts_of x)) xs
of_charges field xs = sum_of_is field (map amounts_of xs) ∙ sum-map field amounts_of xs

module _ (sheet : Sheet) (issuer : Issuer) (h : Holding) (ok : IsHolding h) (agents : ℕ) (cuts : List Cut) (grows : IsGrowing agents cuts) where
  -- the rows of one place
  column_of_place : (at : Position) (r : Reading) → reading_at h at ≡ Some r → (field : Amounts → ℤ) → AddsUp sheet issuer field →
      sum_of field (map amounts_in (rows_of_place sheet issuer h agents cuts at)) ≡ field (amounts_of (charged_at_once sheet r (value_at h at (last_of (last_cut agents cuts) at.agent))))
  column_of_place at r found field adds =
      of_rows field (rows_of_place sheet issuer h agents cuts at)
      ∙ sum_of_place sheet issuer h ok agents cuts grows (λ x. field (amounts_in x)) (λ s v. field (amounts_of (charged_at_once sheet s v))) adds.differs adds.nothing at r found

  pub totals_of_place : (at : Position) (r : Reading) → reading_at h at ≡ Some r →
      totals (rows_of_place sheet issuer h agents cuts at) ≡ amounts_of (charged_at_once sheet r (value_at h at (last_of (last_cut agents cuts) at.agent)))
  totals_of_place at r found =
      let column = column_of_place at r found in
      same_amounts _ _
      (column (λ a. a.consumed) (consumed_adds sheet issuer))
      (column (λ a. a.priced) (priced_adds sheet issuer))
      (column (λ a. a.list) (list_adds sheet issuer))
      (column (λ a. a.contracted) (contracted_adds sheet issuer))
      (column (λ a. a.billed) (billed_adds sheet issuer))
      (column (λ a. a.effective) (effective_adds sheet issuer))

  -- the files' rows are all rows
  rows_of_files : (period : ℕ) (before : Cut) (later : List Cut) → all_rows (files_over sheet issuer h period before later) ≡ map (λ y. y.row) (rows_over sheet issuer h period before later)
  rows_of_files period before [] = refl
  rows_of_files period before (cut ∷ later) =
      ap (λ rs. rows sheet issuer h period before cut ++ rs) (rows_of_files (period + 1) cut later)
      ∙ sym (map-append (λ (y : PlacedRow). y.row) (placed_rows sheet issuer h period before cut) (rows_over sheet issuer h (period + 1) cut later))

  -- the rows of all files
  column_of_files : (field : Amounts → ℤ) → AddsUp sheet issuer field →
      sum_of field (map amounts_in (all_rows (files sheet issuer h agents cuts))) ≡ sum_of field (map amounts_of (charges_up_to sheet h (last_cut agents cuts)))
  column_of_files field adds =
      of_rows field (all_rows (files sheet issuer h agents cuts))
      ∙ (ap (sum_over (λ x. field (amounts_in x))) (rows_of_files 0 (zero_cut agents) cuts)
      ∙ (sum_of_all sheet issuer h ok agents cuts grows (λ x. field (amounts_in x)) (λ s v. field (amounts_of (charged_at_once sheet s v))) adds.differs adds.nothing (λ x. field (amounts_of x)) (λ s v. refl)
      ∙ sym (of_charges field (charges_up_to sheet h (last_cut agents cuts)))))

  pub totals_of_files : totals (all_rows (files sheet issuer h agents cuts)) ≡ added_up (map amounts_of (charges_up_to sheet h (last_cut agents cuts)))
  totals_of_files =
      same_amounts _ _
      (column_of_files (λ a. a.consumed) (consumed_adds sheet issuer))
      (column_of_files (λ a. a.priced) (priced_adds sheet issuer))
      (column_of_files (λ a. a.list) (list_adds sheet issuer))
      (column_of_files (λ a. a.contracted) (contracted_adds sheet issuer))
      (column_of_files (λ a. a.billed) (billed_adds sheet issuer))
      (column_of_files (λ a. a.effective) (effective_adds sheet issuer))
