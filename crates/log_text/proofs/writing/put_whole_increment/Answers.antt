use Rattle.std.proofs.Common.{◌≡◌, ◌+◌, ◌++◌, codes, length, sym, ap, ap₂, subst, ◌∙◌, arith}
use Rattle.batch_store.specs.Batches.{batch_of}
use Rattle.packet_text.specs.PacketText.{lines_of_batch}
use Rattle.packet_text.specs.Inner.Pieces.{Puts}
use Rattle.packet_text.proofs.Pieces.{bytes_are_text}
use Rattle.log_text.specs.Increments.{increment_of}
use Rattle.log_text.specs.LogText.{BeginsRound, Learns, increment_text, section_line}
use Rattle.log_text.proofs.WrittenLines.{learned_is}
use Rattle.log_text.proofs.writing.put_whole_increment.Goals as goal

pub returns-in-Round : goal.returns-in-Round
returns-in-Round c =
    subst (Puts c.put_counted.result c.args.text.now.items c.put_counted.new.text.items)
    (ap (λ n. increment_text (BeginsRound n)) c.from.ensures ∙ ap (λ i. increment_text (increment_of i)) (sym c.in-Round.is)) c.put_counted.ensures

pub returns-in-Learned : goal.returns-in-Learned
returns-in-Learned c =
    subst (Puts c.put_cut.result c.args.text.now.items c.put_cut.new.text.items)
    (learned_is c.from-in-Learned.result c.in-Learned.cut.now ∙ ap (λ n. increment_text (Learns n c.in-Learned.cut.now)) c.from-in-Learned.ensures ∙ ap (λ i. increment_text (increment_of i)) (sym c.in-Learned.is))
    c.put_cut.ensures

pub returns-in-Batch : goal.returns-in-Batch
returns-in-Batch c =
    let bytes = c.in-Batch.batch.now in
    let b = batch_of bytes in
    let count = c.count.ensures.value ∙ ap (λ t. length (batch_of t).records) c.view.ensures in
    let from = c.from-lines.ensures in
    let lines : 1 + c.from-lines.result ≡ lines_of_batch b = omega (arith, count, from) in
    let is_text = c.bytes.ensures.bytes ∙ bytes_are_text bytes c.bytes.ensures.batch in
    subst (Puts c.put_section.result c.args.text.now.items c.put_section.new.text.items)
    (ap₂ (λ n t. section_line (codes "batch ") n ++ t) lines is_text ∙ ap (λ i. increment_text (increment_of i)) (sym c.in-Batch.is)) c.put_section.ensures
