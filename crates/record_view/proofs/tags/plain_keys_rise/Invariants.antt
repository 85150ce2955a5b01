-- The parts that are left rise from above the last key just if all of them rise, they have all the bars, and they are plain if all are.
use Rattle.std.proofs.Common.{◌≡◌, ◌==◌, true, [], Some, length}
use Rattle.std.specs.List.{list_any}
use Rattle.record_view.specs.Parts.{lent, parts_at}
use Rattle.record_view.specs.Inner.Placed.{IsPlaced}
use Rattle.record_view.specs.Plain.{is_plain}
use Rattle.record_view.specs.Inner.TagParts.{rise_from}
use Rattle.record_view.proofs.tags.plain_keys_rise.Given as goal

abbrev pub invariant-loop-end : goal.invariant-loop-end
invariant-loop-end l = record {
  placed : IsPlaced (lent l.rest);
  rises : rise_from (Some l.last) (parts_at 59 (lent l.rest)) ≡ rise_from (Some []) (parts_at 59 (lent l.text));
  bars : list_any (λ c. c == 124) l.text.text.now ≡ list_any (λ c. c == 124) l.rest.text.now;
  plain : is_plain l.text.text.now ≡ true → is_plain l.rest.text.now ≡ true;
}

abbrev pub decreases-loop-end : goal.decreases-loop-end
decreases-loop-end l = length l.rest.text.now
