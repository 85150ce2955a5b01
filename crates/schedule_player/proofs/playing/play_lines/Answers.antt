use Rattle.std.proofs.Common.{rules}
use Rattle.schedule_player.proofs.Results.{on_err}
use Rattle.schedule_player.proofs.Texts.{told_prefix, told_whole}
use Rattle.schedule_player.proofs.playing.play_lines.Goals as goal

pub returns-clause-played : goal.returns-clause-played
returns-clause-played g c = told_whole _ _ _ c.args.world.now c.args.events.now.planned c.in_ok-done.done c.play_on.new.lines.text c.in_ok-done.ensures.played.told c.in_ok-write.ensures.written

pub returns-in_err-write-clause-fails : goal.returns-in_err-write-clause-fails
returns-in_err-write-clause-fails g c = record {
  prefix = on_err c.from_residual-in_err-write.result
      (told_prefix _ _ _ c.args.world.now c.args.events.now.planned c.in_ok-done.done c.play_on.new.lines.text c.in_ok-done.ensures.played.told c.in_err-write.ensures.fails.prefix);
  count = search rules;
}
