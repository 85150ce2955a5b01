use Rattle.std.proofs.Common.{Some, codes, ap, ◌∙◌}
use Rattle.metering_model.specs.World.{CarriesBatch}
use Rattle.group_events.specs.Batches.{batch_of}
use Rattle.log_text.specs.LogText.{Takes}
use Rattle.packet_text.proofs.Pieces.{then_ok}
use Rattle.process_text.proofs.Told.{answer_put}
use Rattle.process_text.proofs.agents.put_journaled.Goals as goal

pub returns : goal.returns
returns c =
    let b = batch_of c.args.batch.now in
    then_ok c.put_line.result _ _
    (λ put. answer_put c.args.agent.now.group.name _ (Some (Takes b)) (CarriesBatch b) c.args.text.now.items _ _ _ (codes "journaled seq ") b.seq _
    c.in-Ok.ensures c.in-Ok-put_batch.ensures put (c.name.ensures ∙ ap (λ g. g.name) c.group.ensures)
    (c.seq.ensures.value ∙ ap (λ v. (batch_of v).seq) c.view.ensures))
    c.put_line.ensures
