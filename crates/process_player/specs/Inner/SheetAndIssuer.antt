-- What stands between what stands first and the log.
use Rattle.std.specs.Prelude.{Result, Ok}
use Rattle.metering_model.specs.FirstFailure.{◌>>=◌}
use Rattle.metering_model.specs.Sheet.{Sheet, Issuer}
use Rattle.input_sections.specs.declared.faults.ScheduleFault.{ScheduleFault}
use Rattle.input_sections.specs.Sections.{Unread, issuer_section, sheet_section}

-- the sheet, the issuer, and what is left behind them
abbrev pub sheet_and_issuer_in : Unread → Result (Sheet × Issuer × Unread) ScheduleFault
sheet_and_issuer_in u = do
  s ← sheet_section u
  i ← issuer_section s.1
  Ok (s.0, i.0, i.1)
