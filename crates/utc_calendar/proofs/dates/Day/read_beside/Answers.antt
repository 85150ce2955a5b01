-- Equal texts name the same day.
use Rattle.std.proofs.Common.{sym, ap, ◌∙◌}
use Rattle.metering_model.specs.Dates.{day_in}
use Rattle.utc_calendar.proofs.StampTexts.{same_text}
use Rattle.utc_calendar.proofs.dates.Day.read_beside.Goals as goal

pub returns-then-eq : goal.returns-then-eq
returns-then-eq c = sym (ap day_in (same_text c.args.text.now c.args.known.now (sym c.if-eq.ensures)) ∙ c.requires)
