use Rattle.std.proofs.Common.{◌≡◌, ◌-◌}
use Rattle.metering_model.specs.BatchReading.{lines_in}
use Rattle.fault_lines.specs.TomlStops.{stop_among}
use Rattle.fault_lines.proofs.toml_stops.stop_among.Given as goal

-- The first line at which the table stops is among those that are left.
abbrev pub invariant-loop-index : goal.invariant-loop-index
invariant-loop-index l = stop_among (lines_in l.table).lines l.index (99 - l.index) ≡ stop_among (lines_in l.table).lines 0 99
