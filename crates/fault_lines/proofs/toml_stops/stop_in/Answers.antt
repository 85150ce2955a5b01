use Rattle.std.proofs.Common.{◌+◌, sym, ◌∙◌}
use Rattle.fault_lines.proofs.TomlStopLaws.{stops_at, stops_nowhere}
use Rattle.fault_lines.proofs.toml_stops.stop_in.Goals as goal

pub returns-in-Some : goal.returns-in-Some
returns-in-Some c = stops_at (c.args.opening + 1 + c.args.first) c.args.table.now c.in-Some.index c.line_at.result (sym c.in-Some.is ∙ c.in_ok-index.ensures) c.line_at.ensures

pub returns-in-None : goal.returns-in-None
returns-in-None c = stops_nowhere (c.args.opening + 1 + c.args.first) c.args.table.now (sym c.in-None.is ∙ c.in_ok-index.ensures)
