use Rattle.std.proofs.Common.{Ok, sym, ap, ◌∙◌}
use Rattle.std.specs.Arc.{arc_value}
use Rattle.std.proofs.lemmas.Result.{IfOk-weaker}
use Rattle.batch_view.specs.Batches.{batch_of}
use Rattle.batch_player.proofs.JournaledLaws.{filed}
use Rattle.batch_player.proofs.rate.file_of_journaled.Goals as goal

pub returns : goal.returns
returns c =
    let bytes = arc_value c.args.batch in
    let read = rw c.deref.ensures at c.bytes-bytes.ensures.batch in
    let stored = rw c.in_ok-store.ensures at c.in_ok-put.ensures.batches in
    let stands = filed c.args.sheet.now c.args.issuer.now bytes (batch_of bytes) read c.args.period c.requires.first c.requires.fit in
    IfOk-weaker c.file_to_front.result _ _ (λ text is. stands ∙ ap Ok (sym (rw stored at is))) c.file_to_front.ensures
