-- The texts so far are those of the first batches.
use Rattle.std.proofs.Common.{◌≡◌, map}
use Rattle.std.specs.List.{range_with_len}
use Rattle.threads_player.specs.Groups.{batch_text}
use Rattle.threads_player.proofs.journals.journal.Given as goal

abbrev pub invariant-loop-place : goal.invariant-loop-place
invariant-loop-place l = map (λ text. text.items) l.texts.items ≡ map (batch_text l.size l.agent) (range_with_len 1 l.place)
