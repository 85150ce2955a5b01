use Rattle.fault_lines.proofs.TomlStopLaws.{AreLeft}
use Rattle.fault_lines.proofs.toml_stops.toml_stop.Given as goal

abbrev pub invariant-loop-index : goal.invariant-loop-index
invariant-loop-index l = AreLeft l.opening l.text l.table l.left l.first l.index
