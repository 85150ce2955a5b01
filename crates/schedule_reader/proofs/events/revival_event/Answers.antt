use Rattle.std.proofs.Common.{Ok, sym, ap, ◌∙◌}
use Rattle.metering_model.specs.BatchReading.{lines_in}
use Rattle.metering_model.specs.Schedule.{PlansRevival, lines_text}
use Rattle.schedule_reader.proofs.EventForms.{revival_taken, revival_whole}
use Rattle.schedule_reader.proofs.events.revival_event.Goals as goal

pub returns-clause-event : goal.returns-clause-event
returns-clause-event c =
    let node = c.in-Some.node in
    let section = c.in_ok-section.ensures.section in
    revival_taken c.args.unread.now c.in_ok-opening.below c.in_ok-opening.opening.now node c.in-Some.count c.in_ok-opening.ensures.line (sym c.in-Some.ensures.value) section.0
    ∙ ap (λ s. Ok (PlansRevival node (lines_in s.text).lines, s.rest)) section.1

pub returns-clause-lines : goal.returns-clause-lines
returns-clause-lines c =
    let text = ap (λ s. s.text) c.in_ok-section.ensures.section.1 in
    ap (λ t. lines_text (lines_in t).lines) (sym text) ∙ revival_whole c.in-Some.count c.in_ok-opening.below ∙ text
