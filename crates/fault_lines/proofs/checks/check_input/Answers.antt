use Rattle.std.proofs.Common.{inl, Err, refl, sym, ap, ◌∙◌}
use Rattle.std.proofs.lemmas.Result.{IfErr-weaker, IfOk-at_ok, IfOk-weaker}
use Rattle.counted_io.specs.Counts.{count_after}
use Rattle.fault_lines.specs.Checked.{IsSaid}
use Rattle.fault_lines.proofs.CheckLaws.{ahead_alone, no_read, one_line_at_least, refuses_nothing, untouched_but_by_writing, written_in_part_where_long, written_where_long}
use Rattle.fault_lines.proofs.checks.check_input.Goals as goal

pub returns-in-Ok : goal.returns-in-Ok
returns-in-Ok g c =
    let input = c.in-Ok.input.items in
    let whole : IsSaid (g.C.Check.said_of c.args.check.now) (g.C.Check.warned_of c.args.check.now) (g.R.Source.remaining c.args.reader.now) input (g.C.Check.said_of c.args.check.now input) (g.C.Check.warned_of c.args.check.now input) =
    record { is_input = c.in-Ok.ensures.whole; is_said = refl; is_warned = refl } in
    let counts = no_read c.write_checked.result c.write_checked.ensures.fault in
    record {
      said = IfOk-weaker c.write_checked.result _ _ (λ count is. (input, _, _, whole, is.0, is.1)) c.write_checked.ensures.said;
      ahead = λ none. ahead_alone _ _ _ _ _ (g.C.Check.lines c.args.check.now) input whole (IfOk-at_ok _ none c.write_checked.ensures.said);
      prefix = λ write. (input, _, _, whole, c.write_checked.ensures.prefix write);
      kept = untouched_but_by_writing c.write_checked.result _ _ c.write_checked.ensures.fault c.write_checked.ensures.memory;
      refuses = refuses_nothing c.write_checked.result c.write_checked.ensures.fault;
      streams = record {
        read = c.in-Ok.ensures.taken;
        end = λ none. c.in-Ok.ensures.end;
        reads = c.in-Ok.ensures.count ∙ sym (ap (λ b. count_after b (g.R.Source.failed_calls c.args.reader.now)) counts);
        writes = c.write_checked.ensures.writes;
      };
    }

pub returns-in-Err-Schedule : goal.returns-in-Err-Schedule
returns-in-Err-Schedule g c =
    let told = c.in-Err-Schedule in
    let long = (told.ensures.section told.field-0-0 (ap Err told.field-0-is)).1 in
    let too_long = g.C.Check.long c.args.check.now in
    let own = IfErr-weaker c.write_said.result _ _ (λ fault is. inl is) c.write_said.ensures.fault in
    let counts = no_read c.write_said.result own in
    record {
      said = IfOk-weaker c.write_said.result _ _ (λ answer is. written_where_long _ _ too_long _ _ _ _ answer long refl is) c.write_said.ensures.said;
      ahead = λ none. absurd (one_line_at_least (IfOk-at_ok _ none c.write_said.ensures.said).1);
      prefix = λ write. written_in_part_where_long _ _ too_long _ _ _ long (c.write_said.ensures.prefix write);
      kept = IfErr-weaker c.write_said.result _ _ (λ fault is other. absurd (other is)) c.write_said.ensures.fault;
      refuses = refuses_nothing c.write_said.result own;
      streams = record {
        read = told.ensures.taken;
        end = λ none. absurd (one_line_at_least (IfOk-at_ok _ none c.write_said.ensures.said).1);
        reads = (rw told.field-0-is at told.ensures.count) ∙ sym (ap (λ b. count_after b (g.R.Source.failed_calls c.args.reader.now)) counts);
        writes = c.write_said.ensures.writes;
      };
    }
