use Rattle.std.proofs.lemmas.Result.{IfOk-weaker}
use Rattle.sheet_changes.proofs.changes.compare_input.Goals as goal

pub returns-in-Ok : goal.returns-in-Ok
returns-in-Ok g c =
    let both = c.in-Ok.both in
    let others = c.write_changes-result.ensures.others in
    record {
      said = IfOk-weaker c.write_changes-result.result _ _ (λ stays is. (both.0, both.1, is.1, is.0, c.in-Ok.ensures.taken, is.2, is.3)) c.write_changes-result.ensures.said;
      prefix = λ write. let part = c.write_changes-result.ensures.prefix write in (both.0, both.1, part.0, c.in-Ok.ensures.taken, part.1, part.2);
      section = λ fault is. absurd (others.1 fault is);
      kept = c.write_changes-result.ensures.kept;
      others = (others.0, others.2);
      writes = c.write_changes-result.ensures.writes;
    }
