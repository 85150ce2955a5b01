-- Texts that grow.
use Rattle.std.specs.Prelude.{◌≡◌, ℕ, List, ◌++◌}

-- the second text is the first one, and perhaps goes on
abbrev pub HasBehind : List ℕ → List ℕ → Type 0
HasBehind before after = (more : List ℕ) × (after ≡ before ++ more)
