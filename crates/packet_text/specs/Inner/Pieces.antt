-- Pieces of a packet's line, and texts that grow.
use Rattle.std.specs.Prelude.{◌≡◌, ℕ, List, ◌∷◌, ◌++◌, MatchResult, Result}
use Rattle.std.specs.List.{flat_map}

-- fields behind others of a line: each with the `|` before it
abbrev pub barred : List (List ℕ) → List ℕ
barred fields = flat_map (λ f. 124 ∷ f) fields

-- the second text is the first one, and perhaps goes on
pub record HasBehind (before after : List ℕ) : Type 0 where
  pub more : List ℕ
  pub joined : after ≡ before ++ more

-- what a call that appends a piece says: with Ok it stands behind what was there, at an error perhaps some of it
abbrev pub Puts : {A E : Type 0} → Result A E → (before after piece : List ℕ) → Type 0
Puts result before after piece = MatchResult result (λ _. after ≡ before ++ piece) (λ _. HasBehind before after)
