-- The parts of a fault's line, one behind the other.
use Rattle.std.proofs.Common.{◌≡◌, ◌∙◌, ◌++◌, ℕ, List, Option, Result, Ok, Err, OnOk, OnErr, is_err, codes, inl, inr, sym, ap, subst}
use Rattle.std.proofs.KnownBytes.{Appends-trans}
use Rattle.std.proofs.lemmas.List.{append-nil, append_assoc}
use Rattle.std.specs.Io.KnownBytes.{Appends}
use Rattle.counted_io.specs.Counts.{count_after, next_count}
use Rattle.counted_io.specs.Writing.{AppendsPrefix}
use Rattle.counted_io.specs.declared.writing.Sink.{Ghosts as SinkOf}
use Rattle.counted_io.specs.declared.writing.Failed.{Failed}
use Rattle.counted_io.proofs.Prefixes.{prefix_behind, prefix_within}
use Rattle.command_line.specs.Endings.{Tells, ending_line}
use Rattle.command_line.specs.Inner.Parts.{first_part, last_part}
use Rattle.command_line.specs.declared.statuses.Fault.{Fault}
use Rattle.command_line.specs.declared.statuses.Fault.TheVariants.{Line, Play, Faults, File, Threads, Process, Unlike, Refused, TooLong, NotClosed}

parts_join : (fault : Fault) → first_part fault ++ last_part fault ≡ ending_line fault
parts_join (Refused told) = sym (append_assoc (codes "focusd: ") told.items (codes "\n"))
parts_join (Line fault) = append-nil (ending_line (Line fault))
parts_join (Play fault) = append-nil (ending_line (Play fault))
parts_join (Faults count) = append-nil (ending_line (Faults count))
parts_join (File fault) = append-nil (ending_line (File fault))
parts_join (Threads fault) = append-nil (ending_line (Threads fault))
parts_join (Process fault) = append-nil (ending_line (Process fault))
parts_join Unlike = append-nil (ending_line Unlike)
parts_join TooLong = append-nil (ending_line TooLong)
parts_join NotClosed = append-nil (ending_line NotClosed)

-- four texts behind one, put there in turn, as the two pairs that they are
pub put_in_turn : (before a b c d : List ℕ) → before ++ a ++ b ++ c ++ d ≡ before ++ (a ++ b ++ (c ++ d))
put_in_turn before a b c d =
    append_assoc (before ++ a ++ b) c d ∙ (ap (λ (x : List ℕ). x ++ (c ++ d)) (append_assoc before a b) ∙ append_assoc before (a ++ b) (c ++ d))

-- a part of the second text behind all of the first is a part of both
pub part_of_both : (old between new : Option (List ℕ)) (first last : List ℕ) (r : Result (Unit {0}) Failed) → Appends old between first
    → OnErr r (AppendsPrefix between new last) → OnErr r (AppendsPrefix old new (first ++ last))
part_of_both old between new first last (Ok x) written cut = tt
part_of_both old between new first last (Err x) written cut = prefix_behind old between new first last written cut

module _ {E : Type 0} (sink : SinkOf E) (fault : Fault) where
  -- the first part was not written whole
  pub first_not_told : (errors between : E) → AppendsPrefix (sink.contents errors) (sink.contents between) (first_part fault)
      → sink.failed_calls between ≡ next_count (sink.failed_calls errors) → Tells sink fault errors between
  first_not_told errors between cut count =
      let whole = prefix_within (sink.contents errors) (sink.contents between) (first_part fault) (last_part fault) cut in
      inr (subst (AppendsPrefix (sink.contents errors) (sink.contents between)) (parts_join fault) whole, count)

  -- it was, and then the second was, or was not
  pub told_in_two : (errors between errors' : E) (r : Result (Unit {0}) Failed) → Appends (sink.contents errors) (sink.contents between) (first_part fault)
      → sink.failed_calls between ≡ sink.failed_calls errors
      → OnOk r (Appends (sink.contents between) (sink.contents errors') (last_part fault)) → OnErr r (AppendsPrefix (sink.contents between) (sink.contents errors') (last_part fault))
      → sink.failed_calls errors' ≡ count_after (is_err r) (sink.failed_calls between) → Tells sink fault errors errors'
  told_in_two errors between errors' (Ok x) first calm written cut count =
      let whole = Appends-trans (sink.contents errors) (sink.contents between) (sink.contents errors') (first_part fault) (last_part fault) first written in
      inl (subst (Appends (sink.contents errors) (sink.contents errors')) (parts_join fault) whole, count ∙ calm)
  told_in_two errors between errors' (Err x) first calm written cut count =
      let whole = prefix_behind (sink.contents errors) (sink.contents between) (sink.contents errors') (first_part fault) (last_part fault) first cut in
      inr (subst (AppendsPrefix (sink.contents errors) (sink.contents errors')) (parts_join fault) whole, count ∙ ap next_count calm)
