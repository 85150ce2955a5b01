use Rattle.std.proofs.lemmas.Result.{err_from_is_err_and}
use Rattle.schedule_reader.proofs.CountedEvents.{preamble_counted, preamble_short}
use Rattle.schedule_reader.proofs.ScheduleForms.{schedule_read}
use Rattle.schedule_reader.proofs.PreambleLaws.{group_above, refused_above, refused_behind, taken_behind}
use Rattle.schedule_reader.proofs.schedules.Schedule.read.Goals as goal

pub returns-in_err-above-clause-refused : goal.returns-in_err-above-clause-refused
returns-in_err-above-clause-refused c =
    let p = err_from_is_err_and c.from_residual.result c.from_residual.ensures.1 in
    rw (p.1, p.2) (λ other. refused_above c.args.text.now c.in_err-above.field-0.0 (c.in_err-above.ensures.refused other))

pub all_events-requires-clause-of : goal.all_events-requires-clause-of
all_events-requires-clause-of c = (preamble_counted c.args.text.now _ c.in_ok-above.ensures.taken).text_is

pub all_events-requires-clause-short : goal.all_events-requires-clause-short
all_events-requires-clause-short c = preamble_short c.args.text.now _ c.in_ok-above.ensures.taken

pub returns-in-Ok-clause-taken : goal.returns-in-Ok-clause-taken
returns-in-Ok-clause-taken c = taken_behind c.args.text.now _ _ c.in_ok-above.ensures.taken c.in-Ok.ensures.taken

pub returns-in-Ok-clause-form : goal.returns-in-Ok-clause-form
returns-in-Ok-clause-form c = schedule_read c.args.text.now _ (taken_behind c.args.text.now _ _ c.in_ok-above.ensures.taken c.in-Ok.ensures.taken)

pub returns-in-Err-clause-refused : goal.returns-in-Err-clause-refused
returns-in-Err-clause-refused c = λ other. refused_behind c.args.text.now _ c.in-Err.fault c.in_ok-above.ensures.taken (c.in-Err.ensures.refused other)

pub returns-in-Err-clause-want : goal.returns-in-Err-clause-want
returns-in-Err-clause-want c = λ _. group_above c.args.text.now _ c.in_ok-above.ensures.taken
