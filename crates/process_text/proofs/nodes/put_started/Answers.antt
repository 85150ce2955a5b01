use Rattle.std.proofs.Common.{[], ◌∷◌, codes, ◌++◌, refl, ap, ◌∙◌}
use Rattle.group_node.specs.Packets.{packet_of}
use Rattle.group_process.specs.Added.{increment_after}
use Rattle.group_process.specs.Selves.{kept_of_node}
use Rattle.log_text.proofs.WrittenLines.{then_put}
use Rattle.process_text.specs.Answers.{added_text}
use Rattle.process_text.proofs.Told.{answer_put, line_put}
use Rattle.process_text.proofs.nodes.put_started.Goals as goal

pub returns : goal.returns
returns c =
    let ballot = c.args.begun.now.ballot in
    then_put c.extend_from_slice.result c.put_ballot.new.line.items _ (10 ∷ []) _ c.extend_from_slice.ensures.items
    (answer_put c.args.node.now.group.name _ (increment_after c.args.begun.now.added (kept_of_node c.args.node.now)) (packet_of c.args.begun.now.sends)
    c.args.text.now.items c.put_added.new.text.items c.put_sent.new.text.items (c.put_ballot.new.line.items ++ 10 ∷ []) (codes "started ballot ") ballot ballot
    (c.in-Ok.ensures ∙ ap (λ o. c.args.text.now.items ++ added_text o) c.increment.ensures)
    c.in-Ok-put_sent.ensures (line_put c.put_sent.new.text.items c.put_ballot.new.line.items (codes "started ballot ") ballot ballot refl c.in-Ok-put_ballot.ensures)
    (c.name.ensures ∙ ap (λ g. g.name) c.group.ensures) refl)
