-- As which kind an input is checked: as the one that is given, or else as its first line says.
use Rattle.std.specs.Prelude.{ℕ, List, Option, Some, None}
use Rattle.input_check.specs.Checks.{said_of_input_as}
use Rattle.input_check.specs.Inputs.{kind_in}
use Rattle.input_check.specs.Warnings.{warned_of_input_as}
use Rattle.input_check.specs.declared.kinds.InputKind.{InputKind}

abbrev pub kind_by : Option InputKind → List ℕ → InputKind
kind_by (Some k) text = k
kind_by None text = kind_in text

abbrev pub said_by : Option InputKind → List ℕ → List ℕ
said_by given text = said_of_input_as (kind_by given text) text

abbrev pub warned_by : Option InputKind → List ℕ → List ℕ
warned_by given text = warned_of_input_as (kind_by given text) text
