-- The parts that are left rise from above the last key just if all of them rise.
use Rattle.std.proofs.Common.{◌≡◌, [], Some, length}
use Rattle.record_view.specs.Parts.{lent, parts_at}
use Rattle.record_view.specs.Inner.Placed.{IsPlaced}
use Rattle.record_view.specs.Inner.TagParts.{rise_from}
use Rattle.record_view.proofs.tags.keys_rise.Given as goal

abbrev pub invariant-loop-part : goal.invariant-loop-part
invariant-loop-part l = record {
  placed : IsPlaced (lent l.rest);
  rises : rise_from (Some l.last) (parts_at 59 (lent l.rest)) ≡ rise_from (Some []) (parts_at 59 (lent l.text));
}

abbrev pub decreases-loop-part : goal.decreases-loop-part
decreases-loop-part l = length l.rest.text.now
