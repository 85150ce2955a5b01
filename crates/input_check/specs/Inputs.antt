-- What is written of an input: what is wrong with it, and behind that what is warned of.
use Rattle.std.specs.Prelude.{ℕ, if◌then◌else◌, List, Option, codes}
use Rattle.input_sections.specs.Sections.{begins_with}
use Rattle.fault_lines.specs.Checked.{IsSaid}
-- Passed on to the crate above, which so need not name the crate below.
pub use Rattle.fault_lines.specs.Checked.{Checks}
use Rattle.input_check.specs.Checks.{said_of_input_as}
use Rattle.input_check.specs.Warnings.{warned_of_input_as}
use Rattle.input_check.specs.declared.kinds.InputKind.{InputKind}
use Rattle.input_check.specs.declared.kinds.InputKind.TheVariants as kind

-- Of an input, which is all that a reader gives where its bytes are known, this is said as of that kind, and this is warned of.
abbrev pub IsSaidAs : (k : InputKind) (known : Option (List ℕ)) (input said warned : List ℕ) → Type 0
IsSaidAs k known input said warned = IsSaid (said_of_input_as k) (warned_of_input_as k) known input said warned

-- ---- the kind that the first line says

abbrev pub kind_in : List ℕ → InputKind
kind_in text = if begins_with (codes "SCHEDULE") text then kind.Play else kind.Rate

unfoldable pub said_of_input : List ℕ → List ℕ
said_of_input text = said_of_input_as (kind_in text) text

unfoldable pub warned_of_input : List ℕ → List ℕ
warned_of_input text = warned_of_input_as (kind_in text) text

abbrev pub IsSaidOf : (known : Option (List ℕ)) (input said warned : List ℕ) → Type 0
IsSaidOf known input said warned = IsSaid said_of_input warned_of_input known input said warned
