-- What holds of each row, from what holds of each record.
use Rattle.std.proofs.Common.{◌≡◌, ℕ, ◌+◌, ◌≤◌, ltb, List, [], ◌∷◌, map, Option, Some, None, option_map, pos, refl, subst}
use Rattle.std.specs.Prelude.{All}
use Rattle.std.specs.List.{enumerate_from}
use Rattle.std.proofs.lemmas.Bool.{cond_both}
use Rattle.std.proofs.lemmas.Option.{same_Some}
use Rattle.std.proofs.lemmas.List.Elements.{All-nil, All-cons, All-head, All-tail, All-append, All-map, All-weaker}
use Rattle.metering_model.specs.Batch.{Batch, Record, Reads, Amends, Reading}
use Rattle.metering_model.specs.Cut.{Cut, last_of}
use Rattle.metering_model.specs.Sheet.{Sheet, Issuer}
use Rattle.metering_model.specs.Holding.{Holding, Position, Placed, records_in_order, placed, up_to}
use Rattle.metering_model.specs.ValueAtSequence.{value_at}
use Rattle.metering_model.specs.declared.ChargeClass.TheVariants.{New, Correction}
use Rattle.metering_model.specs.Row.{Row, row}
use Rattle.metering_model.specs.Rows.{PlacedRow, differ, row_of, row_of_reading, placed_row, placed_rows, rows}
use Rattle.metering_model.proofs.HoldingLaws.{up_to_cases}
use Rattle.metering_model.proofs.RecordPlaces.{place_in}
use Rattle.metering_model.proofs.ValueBounds.{all_filter_map}

-- ---- records

each_placed : (Q : Placed → Type 0) (b : Batch) (n : ℕ) (rs : List Record) → All (λ r. (i : ℕ) → Q (place_in b (i, r))) rs → All Q (map (place_in b) (enumerate_from n rs))
each_placed Q b n [] all = All-nil Q
each_placed Q b n (r ∷ rs) all =
    let Each = λ (s : Record). (i : ℕ) → Q (place_in b (i, s)) in
    All-cons Q (place_in b (n, r)) (map (place_in b) (enumerate_from (n + 1) rs)) (All-head Each r rs all n) (each_placed Q b (n + 1) rs (All-tail Each r rs all))

-- what holds of the records of each batch up to a cut holds of each record up to it
pub records_have : (Q : Placed → Type 0) (cut : Cut) (h : Holding) → All (λ b. b.seq ≤ last_of cut b.agent → All (λ r. (i : ℕ) → Q (place_in b (i, r))) b.records) h → All Q (records_in_order (up_to cut h))
records_have Q cut [] all = All-nil Q
records_have Q cut (b ∷ h) all =
    let Each = λ (c : Batch). c.seq ≤ last_of cut c.agent → All (λ r. (i : ℕ) → Q (place_in c (i, r))) c.records in
    let rest = records_have Q cut h (All-tail Each b h all) in
    up_to_cases (λ k. All Q (records_in_order k)) cut b h
    (λ in_cut. All-append Q (placed b) (records_in_order (up_to cut h)) (each_placed Q b 0 b.records (All-head Each b h all in_cut)) rest)
    (λ _. rest)

-- ---- rows

module _ (sheet : Sheet) (issuer : Issuer) (h : Holding) (period : ℕ) (from to : Cut) (P : Row → Type 0) (Q : Placed → Type 0)
    (new : (at : Position) (r : Reading) → Q (record { place = at; what = Reads r }) → P (row sheet issuer r period New (pos 0) (value_at h at (last_of to at.agent))))
    (corrected : (at : Position) (r : Reading) → Q (record { place = at; what = Reads r }) → P (row sheet issuer r period Correction (value_at h at (last_of from at.agent)) (value_at h at (last_of to at.agent))))
  where
    abbrev Has : Option Row → Type 0
    Has o = (x : Row) → o ≡ Some x → P x

    none_has : Has None
    none_has x e = absurd (cc)

    some_has : (y : Row) → P y → Has (Some y)
    some_has y here x e = subst P (same_Some y x e) here

    reading_has : (at : Position) (r : Reading) → Q (record { place = at; what = Reads r }) → Has (row_of_reading sheet issuer h period from to at r)
    reading_has at r q =
        let was = value_at h at (last_of from at.agent) in
        let now = value_at h at (last_of to at.agent) in
        cond_both (ltb (last_of from at.agent) at.seq) (Some (row sheet issuer r period New (pos 0) now)) _ Has
        (λ _. some_has (row sheet issuer r period New (pos 0) now) (new at r q))
        (λ _. cond_both (differ was now) (Some (row sheet issuer r period Correction was now)) None Has
        (λ _. some_has (row sheet issuer r period Correction was now) (corrected at r q))
        (λ _. none_has))

    record_has : (at : Position) (what : Record) → Q (record { place = at; what = what }) → Has (row_of sheet issuer h period from to at what)
    record_has at (Reads r) q = reading_has at r q
    record_has at (Amends seq index value) q = none_has

    placed_has : (at : Position) (o : Option Row) → Has o → (y : PlacedRow) → option_map (λ (r : Row). let p : PlacedRow = record { place = at; row = r } in p) o ≡ Some y → P y.row
    placed_has at None has y e = absurd (cc)
    placed_has at (Some r) has y e = let same : ◌≡◌ {A = PlacedRow} (record { place = at; row = r }) y = same_Some _ y e in subst (λ (z : PlacedRow). P z.row) same (has r refl)

    pub rows_have : All Q (records_in_order (up_to to h)) → All P (rows sheet issuer h period from to)
    rows_have all =
        All-map P (λ (y : PlacedRow). y.row) (placed_rows sheet issuer h period from to)
        (all_filter_map (λ (y : PlacedRow). P y.row) (placed_row sheet issuer h period from to) (records_in_order (up_to to h))
        (All-weaker Q _ (λ x q. placed_has x.place (row_of sheet issuer h period from to x.place x.what) (record_has x.place x.what q)) (records_in_order (up_to to h)) all))
