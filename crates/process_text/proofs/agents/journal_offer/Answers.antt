use Rattle.std.proofs.Common.{ap}
use Rattle.group_events.specs.Batches.{batch_of}
use Rattle.group_events.specs.Events.{offer_of}
use Rattle.packet_text.proofs.Pieces.{then_ok}
use Rattle.process_text.proofs.Told.{agent_journals}
use Rattle.process_text.proofs.agents.journal_offer.Goals as goal

pub returns-in-Ok-Ok : goal.returns-in-Ok-Ok
returns-in-Ok-Ok c =
    then_ok c.put_journaled.result _ _
    (λ put. agent_journals (offer_of c.args.offer.now) c.args.agent.now c.journal.new.self c.in-Ok-Ok.field-0 c.in-Ok-Ok.journaled
    (batch_of c.deref.result.now) c.args.text.now.items c.put_journaled.new.text.items
    c.in-Ok-Ok.ensures.does c.in-Ok-Ok.ensures.adds c.in-Ok-Ok.field-0-is (ap batch_of c.deref.ensures) put)
    c.put_journaled.ensures
