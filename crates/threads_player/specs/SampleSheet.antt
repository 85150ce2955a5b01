-- The sheet that the group's batches are rated by, in TOML: a virtual CPU by the hour and under a commitment, and requests by pairs.
use Rattle.std.specs.Prelude.{ℕ, List, [], ◌∷◌, codes}
use Rattle.std.specs.List.{flat_map}
use Rattle.metering_model.specs.Transcript.{line}

abbrev pub sample_sheet_text : List ℕ
sample_sheet_text = flat_map line (
    codes "base = \"2025-01\"" ∷
    codes "[[price]]" ∷
    codes "sku = \"cpu\"" ∷
    codes "price_id = \"cpu-od\"" ∷
    codes "from = \"2025-01-01\"" ∷
    codes "description = \"Virtual CPU time\"" ∷
    codes "service = \"Sample Compute\"" ∷
    codes "category = \"Compute\"" ∷
    codes "consumed_unit = \"Seconds\"" ∷
    codes "pricing_unit = \"Hours\"" ∷
    codes "per = 3600" ∷
    codes "list = \"0.1\"" ∷
    codes "contracted = \"0.08\"" ∷
    codes "[[price]]" ∷
    codes "sku = \"ops\"" ∷
    codes "price_id = \"ops-od\"" ∷
    codes "from = \"2025-01-01\"" ∷
    codes "description = \"Object requests\"" ∷
    codes "service = \"Sample Storage\"" ∷
    codes "category = \"Storage\"" ∷
    codes "consumed_unit = \"Requests\"" ∷
    codes "pricing_unit = \"Request Pairs\"" ∷
    codes "per = 2" ∷
    codes "list = \"1\"" ∷
    codes "contracted = \"1\"" ∷
    codes "[[price]]" ∷
    codes "sku = \"cpu-plan\"" ∷
    codes "price_id = \"cpu-plan-1\"" ∷
    codes "from = \"2025-01-01\"" ∷
    codes "description = \"Virtual CPU plan\"" ∷
    codes "service = \"Sample Compute\"" ∷
    codes "category = \"Compute\"" ∷
    codes "consumed_unit = \"Plans\"" ∷
    codes "pricing_unit = \"Plans\"" ∷
    codes "per = 1" ∷
    codes "list = \"50\"" ∷
    codes "contracted = \"40\"" ∷
    codes "[[commitment]]" ∷
    codes "id = \"cm-1\"" ∷
    codes "sku = \"cpu\"" ∷
    codes "buy = \"cpu-plan\"" ∷
    codes "category = \"Usage\"" ∷
    codes "type = \"Reserved\"" ∷
    codes "rate = \"0.05\"" ∷
    [])
