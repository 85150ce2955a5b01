-- What stands at the top of a table, each part read or its fault told, and behind it the rows.
use Rattle.std.proofs.Common.{refl}
use Rattle.sheet_text.specs.declared.faults.Place.TheVariants as places
use Rattle.price_sheet.specs.SheetReading.{sheet_in}
use Rattle.price_sheet.proofs.Chains.{handed_on, placed_taken, placed_refused}
use Rattle.price_sheet.proofs.sheets.Sheet.of_table.Goals as goal

pub returns-in_err-base-clause-refused : goal.returns-in_err-base-clause-refused
unfolding sheet_in
returns-in_err-base-clause-refused c =
    handed_on _ c.from_residual.result _ c.from_residual.ensures (λ other.
    let base = placed_refused (λ m. m) places.Top _ _ _ c.base_under.ensures.gives c.in_err-base.ensures other in
    rw base refl)

pub returns-in_err-price_tables-clause-refused : goal.returns-in_err-price_tables-clause-refused
unfolding sheet_in
returns-in_err-price_tables-clause-refused c =
    handed_on _ c.from_residual-in_err-price_tables.result _ c.from_residual-in_err-price_tables.ensures (λ other.
    let base = placed_taken (λ m. m) places.Top _ _ _ c.base_under.ensures.gives c.in_ok-base.ensures in
    let prices = placed_refused _ places.Top _ _ _ c.rows_under.ensures.gives c.in_err-price_tables.ensures other in
    rw (base, prices) refl)

pub returns-in_err-commitment_tables-clause-refused : goal.returns-in_err-commitment_tables-clause-refused
unfolding sheet_in
returns-in_err-commitment_tables-clause-refused c =
    handed_on _ c.from_residual-in_err-commitment_tables.result _ c.from_residual-in_err-commitment_tables.ensures (λ other.
    let base = placed_taken (λ m. m) places.Top _ _ _ c.base_under.ensures.gives c.in_ok-base.ensures in
    let prices = placed_taken _ places.Top _ _ _ c.rows_under.ensures.gives c.in_ok-price_tables.ensures in
    let commitments = placed_refused _ places.Top _ _ _ c.rows_under-2.ensures.gives c.in_err-commitment_tables.ensures other in
    rw (base, prices, commitments) refl)

pub returns-in_err-region_tables-clause-refused : goal.returns-in_err-region_tables-clause-refused
unfolding sheet_in
returns-in_err-region_tables-clause-refused c =
    handed_on _ c.from_residual-in_err-region_tables.result _ c.from_residual-in_err-region_tables.ensures (λ other.
    let base = placed_taken (λ m. m) places.Top _ _ _ c.base_under.ensures.gives c.in_ok-base.ensures in
    let prices = placed_taken _ places.Top _ _ _ c.rows_under.ensures.gives c.in_ok-price_tables.ensures in
    let commitments = placed_taken _ places.Top _ _ _ c.rows_under-2.ensures.gives c.in_ok-commitment_tables.ensures in
    let regions = placed_refused _ places.Top _ _ _ c.rows_under-3.ensures.gives c.in_err-region_tables.ensures other in
    rw (base, prices, commitments, regions) refl)

pub returns-clause-taken : goal.returns-clause-taken
unfolding sheet_in
returns-clause-taken c =
    let base = placed_taken (λ m. m) places.Top _ _ _ c.base_under.ensures.gives c.in_ok-base.ensures in
    let prices = placed_taken _ places.Top _ _ _ c.rows_under.ensures.gives c.in_ok-price_tables.ensures in
    let commitments = placed_taken _ places.Top _ _ _ c.rows_under-2.ensures.gives c.in_ok-commitment_tables.ensures in
    let regions = placed_taken _ places.Top _ _ _ c.rows_under-3.ensures.gives c.in_ok-region_tables.ensures in
    rw (base, prices, commitments, regions, ← c.deref.ensures.value, ← c.deref-2.ensures.value, ← c.deref-3.ensures.value) c.of_rows.ensures.taken

pub returns-clause-refused : goal.returns-clause-refused
unfolding sheet_in
returns-clause-refused c =
    let base = placed_taken (λ m. m) places.Top _ _ _ c.base_under.ensures.gives c.in_ok-base.ensures in
    let prices = placed_taken _ places.Top _ _ _ c.rows_under.ensures.gives c.in_ok-price_tables.ensures in
    let commitments = placed_taken _ places.Top _ _ _ c.rows_under-2.ensures.gives c.in_ok-commitment_tables.ensures in
    let regions = placed_taken _ places.Top _ _ _ c.rows_under-3.ensures.gives c.in_ok-region_tables.ensures in
    rw (base, prices, commitments, regions, ← c.deref.ensures.value, ← c.deref-2.ensures.value, ← c.deref-3.ensures.value) c.of_rows.ensures.refused
