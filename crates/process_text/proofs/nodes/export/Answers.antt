use Rattle.std.proofs.Common.{◌∙◌}
use Rattle.packet_text.proofs.Pieces.{then_ok}
use Rattle.std.specs.Prelude.{Ok, Err}
use Rattle.process_text.proofs.Told.{node_exports, nothing_behind}
use Rattle.process_text.proofs.nodes.export.Goals as goal

pub returns-in-Ok-Ok : goal.returns-in-Ok-Ok
returns-in-Ok-Ok c =
    then_ok c.put_file-put.result _ _
    (λ put. node_exports c.args.node.now c.args.period c.in-Ok-Ok.field-0 (Ok c.in-Ok-Ok.snapshot) c.args.text.now.items _ c.in-Ok-Ok.ensures c.in-Ok-Ok.field-0-is put)
    c.put_file-put.ensures

pub returns-in-Ok-Err : goal.returns-in-Ok-Err
returns-in-Ok-Err c =
    then_ok c.put_refusal.result _ _
    (λ put. node_exports c.args.node.now c.args.period c.in-Ok-Err.field-0 (Err c.in-Ok-Err.why) c.args.text.now.items _ c.in-Ok-Err.ensures c.in-Ok-Err.field-0-is
    (nothing_behind c.put_refusal.new.text.items c.args.file.now c.requires ∙ put))
    c.put_refusal.ensures
