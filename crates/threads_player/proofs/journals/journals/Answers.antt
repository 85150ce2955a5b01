use Rattle.std.proofs.Common.{map, arith}
use Rattle.std.specs.List.{range_with_len}
use Rattle.threads_player.specs.Groups.{batch_text}
use Rattle.threads_player.proofs.Ranges.{pushed_more}
use Rattle.threads_player.proofs.journals.journals.Goals as goal

pub loop-place-preserved : goal.loop-place-preserved
loop-place-preserved c = record {
  texts =
      pushed_more _ (λ agent. map (batch_text c.args.size agent) (range_with_len 1 c.args.size.batches)) _ _ _ c.loop-place.place c.in_ok-push.ensures.items
      c.in_ok-journal.ensures c.loop-place.invariant.texts;
  count = omega (arith, c.in_ok-push.ensures.len, c.loop-place.invariant.count);
}
