-- What was written, with the tags that are left behind it, is all of some tags within quotation marks. Where the text is
-- plain, these are.
use Rattle.std.proofs.Common.{◌≡◌, true, [], ◌∷◌, ◌++◌, map, List}
use Rattle.std.specs.Prelude.{IsTrue}
use Rattle.metering_model.specs.Batch.{Tag}
use Rattle.record_view.specs.Lent.{lent_tags}
use Rattle.record_view.specs.TagTexts.{tag_of}
use Rattle.focus_csv.specs.Inner.Strings.{are_plain, doubled}
use Rattle.focus_csv.proofs.TagTexts.{members_left}
use Rattle.focus_csv.proofs.tags.set_tags.Given as goal

abbrev pub invariant-loop-key : goal.invariant-loop-key
invariant-loop-key l = record {
  ready : (goal.iterator-loop-key).can_next l.key-iterator;
  finite : (goal.iterator-loop-key).is_finite l.key-iterator;
  some : (t : Tag) × (ts : List Tag) × (map tag_of (lent_tags l.fn.tags) ≡ t ∷ ts);
  plain : IsTrue l.is_plain → are_plain (map tag_of (lent_tags l.key-iterator)) ≡ true;
  text : l.piece.items ++ doubled (members_left (44 ∷ []) (map tag_of (lent_tags l.key-iterator)))
      ≡ 44 ∷ 34 ∷ 123 ∷ doubled (members_left [] (map tag_of (lent_tags l.fn.tags)));
}
