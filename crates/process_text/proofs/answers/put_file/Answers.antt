-- What stands behind the text, if anything, is the file, and its line is the last of the text.
use Rattle.std.proofs.Common.{◌∙◌}
use Rattle.packet_text.proofs.Pieces.{then_ok}
use Rattle.process_text.proofs.Told.{file_told, nothing_behind}
use Rattle.process_text.proofs.answers.put_file.Goals as goal

pub returns-then-has_bytes : goal.returns-then-has_bytes
returns-then-has_bytes c =
    file_told c.args.snapshot.now c.args.text.now.items c.put_above.new.text.items c.set_file.new.self _ c.in-Ok.lines
    c.in-Ok-put_above.ensures c.period.ensures c.in-Ok.ensures.lines c.in-Ok.ensures.file

pub returns : goal.returns
returns c =
    then_ok c.copy_to.result _ _
    (λ put. nothing_behind c.copy_to.new.text.items c.args.file.now c.requires ∙ put
    ∙ file_told c.args.snapshot.now c.args.text.now.items c.put_above.new.text.items c.set_file.new.self _ c.in-Ok.lines
    c.in-Ok-put_above.ensures c.period.ensures c.in-Ok.ensures.lines c.in-Ok.ensures.file)
    c.copy_to.ensures.put
