use Rattle.std.proofs.Common.{arith, codes}
use Rattle.schedule_reader.proofs.EventForms.{section_whole}
use Rattle.schedule_reader.proofs.events.journal_event.Goals as goal

pub returns-clause-lines : goal.returns-clause-lines
returns-clause-lines c = section_whole (codes "journal ") 1_001 c.args.unread.now _ (omega arith) c.in_ok-section.ensures.section
