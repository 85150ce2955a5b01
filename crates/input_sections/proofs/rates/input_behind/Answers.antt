use Rattle.std.proofs.Common.{◌≡◌, ℕ, List, Result, Ok, ap₂, sym, ◌∙◌}
use Rattle.metering_model.specs.Sheet.{Issuer}
use Rattle.input_sections.specs.Sections.{Unread}
use Rattle.input_sections.specs.declared.faults.ScheduleFault.{ScheduleFault}
use Rattle.input_sections.proofs.rates.input_behind.Goals as goal

-- what is left, by its parts
by_parts : {r : Result (Issuer × Unread) ScheduleFault} {issuer : Issuer} {text : List ℕ} (u : Unread) (from : ℕ) → r ≡ Ok (issuer, u) → u.text ≡ text → from ≡ u.from
    → (line : ℕ) × (r ≡ Ok (issuer, record { text = text; from = from; line = line }))
by_parts {issuer = issuer} u from is text place =
    (u.line, is ∙ ap₂ (λ (t : List ℕ) (n : ℕ). Ok (issuer, record { text = t; from = n; line = u.line })) text (sym place))

pub returns-in-Ok-clause-taken : goal.returns-in-Ok-clause-taken
returns-in-Ok-clause-taken c = by_parts c.in-Ok.unread c.from.result c.in-Ok.ensures.taken c.in-Ok.ensures.text c.from.ensures.value
