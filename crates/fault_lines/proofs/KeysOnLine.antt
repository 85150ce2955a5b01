-- The keys that no reader takes, of the sections that stand from a line of a text on.
use Rattle.std.proofs.Common.{◌≡◌, ℕ, List, [], ◌++◌, Ok, Err, sym, ap, ◌∙◌, append-nil}
use Rattle.input_sections.specs.declared.faults.ScheduleCode.TheVariants as code
use Rattle.input_sections.specs.declared.faults.ScheduleFault.{ScheduleFault}
use Rattle.input_sections.specs.Sections.{Unread}
use Rattle.fault_lines.specs.Told.{from_line}
use Rattle.fault_lines.specs.UnknownKeys.{unknown_from, unknown_on}

pub unknown_there : (n : ℕ) (text : List ℕ) (u : Unread) → from_line code.Sheet n text ≡ Ok u → unknown_on n text ≡ unknown_from u
unfolding unknown_on
unknown_there n text u is = ap (λ r. elim r [ Ok w ↦ unknown_from w | Err fault ↦ [] ]) is

pub unknown_nowhere : (n : ℕ) (text : List ℕ) (fault : ScheduleFault) → from_line code.Sheet n text ≡ Err fault → unknown_on n text ≡ []
unfolding unknown_on
unknown_nowhere n text fault is = ap (λ r. elim r [ Ok w ↦ unknown_from w | Err fault ↦ [] ]) is

-- nothing more was told
pub still : (told more : List ℕ) → more ≡ [] → told ≡ told ++ more
still told more none = sym (ap (λ t. told ++ t) none ∙ append-nil told)
