-- The journals so far are those of the first agents.
use Rattle.std.proofs.Common.{◌≡◌, map, vec_len}
use Rattle.std.specs.List.{range_with_len}
use Rattle.threads_player.specs.Groups.{batch_text}
use Rattle.threads_player.proofs.journals.journals.Given as goal

abbrev pub invariant-loop-place : goal.invariant-loop-place
invariant-loop-place l = record {
  texts :
      map (λ texts. map (λ text. text.items) texts.items) l.journals.items
      ≡ map (λ agent. map (batch_text l.size agent) (range_with_len 1 l.size.batches)) (range_with_len 1 l.place);
  count : vec_len l.journals ≡ l.place;
}
