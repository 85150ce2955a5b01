-- What is not ahead yet.
use Rattle.std.specs.Prelude.{◌≡◌, ℕ, ◌≤◌, true, List, length, drop}
use Rattle.metering_model.specs.Batch.{lacks}

-- no line ends behind that place, and no more than so many bytes are ahead in all
abbrev pub IsLineShort : (from most : ℕ) → List ℕ → Type 0
IsLineShort from most text = (lacks 10 (drop from text) ≡ true) × (length text ≤ most)
