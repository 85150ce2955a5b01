-- A line that opens a table.
use Rattle.std.specs.Prelude.{ℕ, Bool, not, ◌||◌, ◌==◌, List, [], drop, Some, None, codes}
use Rattle.std.specs.List.{position}
use Rattle.input_sections.specs.Sections.{begins_with}

abbrev pub is_blank : ℕ → Bool
is_blank c = (c == 32) || (c == 9)

-- from the first byte on for which this holds
abbrev pub from_first : (ℕ → Bool) → List ℕ → List ℕ
from_first test text = elim (position test text) [ Some at ↦ drop at text | None ↦ [] ]

-- whether `[` comes first in a line, behind blanks
abbrev pub opens_table : List ℕ → Bool
opens_table line = begins_with (codes "[") (from_first (λ c. not (is_blank c)) line)
