use Rattle.std.proofs.Common.{◌≡◌, ◌++◌, length, rules, sym, ap, ◌∙◌, arith}
use Rattle.schedule_reader.proofs.CountedEvents.{preamble_counted}
use Rattle.input_check.proofs.SaidLaws.{both_on_ok, events_there, no_events, no_schedule, on_ok, put_instead, taken_back}
use Rattle.input_check.proofs.WarnedLaws.{events_warned, no_events_warned, no_preamble_warned}
use Rattle.fault_lines.proofs.KeysOnLine.{still}
use Rattle.input_check.proofs.events.check_schedule.Goals as goal

pub check_read-requires-clause-text : goal.check_read-requires-clause-text
check_read-requires-clause-text c = (preamble_counted c.args.text.now _ c.in-Ok.ensures.taken).text_is ∙ c.requires

pub returns-in-Err : goal.returns-in-Err
returns-in-Err c =
    let told = c.args.told.now.items in
    let refused = c.in-Err.ensures.refused in
    record {
      said =
          both_on_ok c.put_fault.result (λ other same. same ∙ ap (λ t. told ++ t) (sym (no_schedule c.args.text.now c.in-Err.fault (refused other))))
          c.put_fault.ensures.memory c.put_fault.ensures.said;
      warned =
          on_ok c.put_fault.result (λ other. still c.args.warned.now.items _ (no_preamble_warned c.args.text.now c.in-Err.fault (refused other)))
          c.put_fault.ensures.memory;
    }

-- What was said of the events is taken back, and so is what was warned of.
pub returns-in-Some : goal.returns-in-Some
returns-in-Some c =
    let told = c.args.told.now.items in
    let warned = c.args.warned.now.items in
    let long : c.len-said_before.result ≡ length told = search (rules, arith) in
    let long_warned : c.len-warned_before.result ≡ length warned = search (rules, arith) in
    let found = sym c.in_ok-fault.ensures.fault ∙ c.in-Some.is in
    let bad = no_events c.args.text.now _ c.in-Some.fault c.in-Ok.ensures.taken found in
    let none = no_events_warned c.args.text.now _ c.in-Some.fault c.in-Ok.ensures.taken found in
    record {
      said =
          both_on_ok c.put_fault-in-Some.result
          (λ other same. put_instead told _ _ _ _ _ _ long c.in_ok-fault.ensures.said c.truncate.ensures.items same ∙ ap (λ t. told ++ t) (sym bad))
          c.put_fault-in-Some.ensures.memory c.put_fault-in-Some.ensures.said;
      warned =
          on_ok c.put_fault-in-Some.result (λ other. taken_back warned _ _ _ _ long_warned c.in_ok-fault.ensures.warned c.truncate-in-Some.ensures.items ∙ still warned _ none)
          c.put_fault-in-Some.ensures.memory;
    }

pub returns-in-None : goal.returns-in-None
returns-in-None c =
    let told = c.args.told.now.items in
    let warned = c.args.warned.now.items in
    let found = sym c.in_ok-fault.ensures.fault ∙ c.in-None.is in
    record {
      said = c.in_ok-fault.ensures.said ∙ ap (λ t. told ++ t) (sym (events_there c.args.text.now _ c.in-Ok.ensures.taken found));
      warned = c.in_ok-fault.ensures.warned ∙ ap (λ t. warned ++ t) (sym (events_warned c.args.text.now _ c.in-Ok.ensures.taken found));
    }
