-- So many lines were passed, and they have so many bytes.
use Rattle.std.proofs.Common.{◌-◌, ◌≡◌, ◌≤◌}
use Rattle.line_source.specs.Lines.{AreInFront}
use Rattle.line_source.proofs.lines.lines_in_front.Given as goal

abbrev pub invariant-loop-count : goal.invariant-loop-count
invariant-loop-count l = record {
  passed : AreInFront l.text l.count l.at;
  few : l.count ≤ l.most;
  begun : l.count ≡ 0 → l.at ≡ 0;
}

abbrev pub decreases-loop-count : goal.decreases-loop-count
decreases-loop-count l = l.most - l.count
