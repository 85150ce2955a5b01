-- The text of a number from its parts.
use Rattle.std.specs.Prelude.{ℕ, Bool, List, ◌++◌, decimal}
use Rattle.metering_model.specs.NumberText.{sign_text, point_text, decimals_of}

-- its sign, its whole part, and so many places of decimals
abbrev pub text_of_parts : Bool → ℕ → ℕ → ℕ → List ℕ
text_of_parts minus whole decimals places = sign_text minus ++ decimal whole ++ point_text (decimals_of places decimals)
