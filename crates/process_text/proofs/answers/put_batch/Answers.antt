use Rattle.std.proofs.Common.{◌≡◌, ◌+◌, length, ap, ◌∙◌, arith}
use Rattle.group_events.specs.Batches.{batch_of}
use Rattle.packet_text.specs.PacketText.{lines_of_batch}
use Rattle.packet_text.proofs.Pieces.{bytes_are_text}
use Rattle.log_text.proofs.WrittenLines.{then_put}
use Rattle.process_text.proofs.Told.{batch_put}
use Rattle.process_text.proofs.answers.put_batch.Goals as goal

pub returns : goal.returns
returns c =
    let b = batch_of c.args.batch.now in
    let count = c.count.ensures.value ∙ ap (λ t. length (batch_of t).records) c.view.ensures in
    let from = c.from-lines.ensures in
    let lines : 1 + c.from-lines.result ≡ lines_of_batch b = omega (arith, count, from) in
    let is_text = c.bytes.ensures.bytes ∙ bytes_are_text c.args.batch.now c.bytes.ensures.batch in
    then_put c.extend_from_slice.result c.put_batch_line.new.text.items _ c.bytes.result.now _ c.extend_from_slice.ensures.items
    (batch_put c.args.text.now.items c.args.group.now c.put_to.new.text.items c.put_batch_line.new.text.items c.bytes.result.now b
    (1 + c.from-lines.result) lines is_text c.in-Ok.ensures c.in-Ok-put_batch_line.ensures)
