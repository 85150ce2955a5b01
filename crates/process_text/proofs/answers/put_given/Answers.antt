use Rattle.std.proofs.Common.{codes, ◌++◌, sym, ap, ◌∙◌}
use Rattle.std.specs.Option.{option_copied, option_map}
use Rattle.group_events.specs.Batches.{batch_of}
use Rattle.log_text.proofs.WrittenLines.{then_put}
use Rattle.packet_text.proofs.Pieces.{then_ok}
use Rattle.process_text.specs.Inner.Written.{given_text}
use Rattle.process_text.proofs.Told.{sent_put}
use Rattle.process_text.proofs.answers.put_given.Goals as goal

pub returns-in-Ok : goal.returns-in-Ok
returns-in-Ok c =
    then_put c.extend_from_slice.result c.put_batch.new.text.items c.extend_from_slice.new.self.items (codes "sent\n") _ c.extend_from_slice.ensures.items
    (sent_put c.args.group.now c.args.text.now.items c.put_batch.new.text.items _ (batch_of c.in-Some.batch.now) c.args.agent c.args.seq
    (ap (λ o. option_map batch_of (option_copied o)) c.in-Some.is) c.in-Ok.ensures)

pub returns-in-None : goal.returns-in-None
returns-in-None c =
    then_ok c.put_refusal.result _ _
    (λ put. put ∙ ap (λ o. c.args.text.now.items ++ given_text c.args.group.now (option_map batch_of (option_copied o)) c.args.agent c.args.seq) (sym c.in-None.is))
    c.put_refusal.ensures
