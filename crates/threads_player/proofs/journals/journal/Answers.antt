use Rattle.threads_player.specs.Groups.{batch_text}
use Rattle.threads_player.proofs.Ranges.{pushed_more}
use Rattle.threads_player.proofs.journals.journal.Goals as goal

pub loop-place-preserved : goal.loop-place-preserved
loop-place-preserved c =
    pushed_more _ (batch_text c.args.size c.args.agent) _ _ _ c.loop-place.place c.in_ok-push.ensures.items c.in_ok-batch.ensures c.loop-place.invariant
