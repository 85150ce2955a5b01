use Rattle.std.proofs.Common.{◌≡◌, ◌+◌, ◌++◌, ◌∙◌, sym, ap, arith, codes, decimal, length, append-nil}
use Rattle.batch_view.specs.Batches.{batch_of}
use Rattle.packet_text.specs.PacketText.{lines_of_batch}
use Rattle.packet_text.proofs.Pieces.{puts_number}
use Rattle.packet_text.proofs.writing.put_lines.Goals as goal

pub returns : goal.returns
returns c =
    let count = c.count.ensures.value ∙ ap (λ t. length (batch_of t).records) c.view.ensures in
    let from = c.from-lines.ensures in
    let lines : 1 + c.from-lines.result ≡ lines_of_batch (batch_of c.args.batch.now) = omega (arith, count, from) in
    puts_number c.put_numbered.result _ _ (codes "|batch|") _ (1 + c.from-lines.result) c.put_numbered.ensures.put c.put_numbered.ensures.kept
    (ap (λ n. codes "|batch|" ++ decimal n) lines ∙ ap (λ t. codes "|batch|" ++ t) (sym (append-nil (decimal (lines_of_batch (batch_of c.args.batch.now))))))
