-- Texts to which something was appended.
use Rattle.std.specs.Prelude.{◌≡◌, ℕ, List, ◌++◌}

-- a text is another one, and what stands behind it
abbrev pub BeginsWith : List ℕ → List ℕ → Type 0
BeginsWith text begun = (more : List ℕ) × (text ≡ begun ++ more)
