use Rattle.std.proofs.Common.{codes, ◌++◌, ap, ◌∙◌}
use Rattle.std.specs.Option.{option_map}
use Rattle.metering_model.specs.Transcript.{if_any, line}
use Rattle.group_node.specs.Packets.{packet_of}
use Rattle.group_process.specs.Added.{increment_after}
use Rattle.group_process.specs.Selves.{kept_of_node}
use Rattle.packet_text.proofs.Pieces.{then_ok}
use Rattle.process_text.specs.Answers.{added_text, addressee, sent_text}
use Rattle.process_text.proofs.Told.{three_put}
use Rattle.process_text.proofs.nodes.put_taken.Goals as goal

pub returns : goal.returns
returns c =
    let p = packet_of c.args.packet.now in
    let sends = option_map packet_of c.args.taken.now.sends in
    let sent = c.in-Ok-put_sends.ensures ∙ ap (λ g. c.put_added_by.new.text.items ++ sent_text g.name (addressee g.voters p) sends) c.group.ensures in
    then_ok c.put_delivered_line.result _ _
    (three_put c.args.text.now.items c.put_added_by.new.text.items c.put_sends.new.text.items c.put_delivered_line.new.text.items
    (added_text (increment_after c.args.taken.now.added (kept_of_node c.args.node.now)))
    (sent_text c.args.node.now.group.name (addressee c.args.node.now.group.voters p) sends)
    (line (codes "delivered" ++ if_any (codes " learned ") c.args.taken.now.learned)) c.in-Ok.ensures sent)
    c.put_delivered_line.ensures
