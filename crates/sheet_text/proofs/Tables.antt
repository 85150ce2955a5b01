-- The tables of an array, one by one.
use Rattle.std.proofs.Common.{◌≡◌, List, [], ◌∷◌, ◌++◌, Option, Some, None, refl, ap, append_assoc, append-nil}
use Rattle.toml.specs.Data.{Members}
use Rattle.metering_model.specs.BatchReading.{with_first}

-- the tables that were read, and those behind them
abbrev pub with_rows : List Members → Option (List Members) → Option (List Members)
with_rows rows None = None
with_rows rows (Some more) = Some (rows ++ more)

pub one_more_table : (rows : List Members) (row : Members) (more : Option (List Members)) → with_rows (rows ++ row ∷ []) more ≡ with_rows rows (with_first (Some row) more)
one_more_table rows row None = refl
one_more_table rows row (Some more) = ap Some (append_assoc rows (row ∷ []) more)

pub no_more_rows : (rows : List Members) → with_rows rows (Some []) ≡ Some rows
no_more_rows rows = ap Some (append-nil rows)
