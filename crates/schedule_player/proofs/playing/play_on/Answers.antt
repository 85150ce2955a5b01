use Rattle.std.proofs.Common.{◌+◌, ◌<◌, ◌++◌, length, sym, subst, ap, ◌∙◌, rules, arith}
use Rattle.std.proofs.KnownBytes.{Appends-trans}
use Rattle.std.proofs.lemmas.Option.{slice_get_within}
use Rattle.schedule_player.specs.Inner.Held.{IsHeldOf}
use Rattle.schedule_player.specs.Inner.Playing.{IsTold}
use Rattle.schedule_player.proofs.Results.{on_err}
use Rattle.schedule_player.proofs.Texts.{still_all, text_more, told_prefix, world_left, world_more}
use Rattle.schedule_player.proofs.playing.play_on.Goals as goal

pub loop-done-preserved : goal.loop-done-preserved
loop-done-preserved g c =
    let so = c.loop-done.invariant in
    let events = c.args.events.now.planned in
    let i = c.loop-done.done in
    let at = c.at-planned.ensures.event in
    let part = c.in_ok-write_many.ensures.written in (
      (
        so.0.0 ++ part.0,
        Appends-trans _ _ _ so.0.0 part.0 so.0.1 part.2,
        still_all so.0.0 part.0 _ _ _ part.1
            (text_more c.args.world.now c.loop-done.world c.play_event.new.world events i _ at so.0.0 c.loop-done.lines.text c.play_event.new.lines.text so.1 so.0.2 c.in-Ok.ensures.text),
      ),
      world_more c.args.world.now c.loop-done.world c.play_event.new.world events i _ at so.1 c.in-Ok.ensures.after.world,
      c.in_ok-write_many.ensures.fails.count ∙ so.2,
      subst (IsHeldOf c.play_event.new.world) (sym c.write_many.ensures.held) c.in-Ok.ensures.after.held,
      c.in_ok-write_many.ensures.few,
    )

pub returns-in_default-clause-played : goal.returns-in_default-clause-played
returns-in_default-clause-played g c =
    let so = c.loop-done.invariant in
    let events = c.args.events.now.planned in
    let i = c.loop-done.done in
    let at = c.at-planned.ensures.event in
    let kept = c.in_default.ensures.kept in
    record {
      within = omega (arith, slice_get_within events i _ at);
      world = world_left c.args.world.now c.loop-done.world c.play_event.new.world events i _ at so.1 c.in_default.ensures.left;
      told = (so.0.0, so.0.1, ap (λ t. so.0.0 ++ t) kept ∙ so.0.2);
      few = subst (λ t. length t < 65_536) (sym kept) so.4;
    }

pub returns-in_err-write_many-clause-fails : goal.returns-in_err-write_many-clause-fails
returns-in_err-write_many-clause-fails g c =
    let so = c.loop-done.invariant in
    let events = c.args.events.now.planned in
    let i = c.loop-done.done in
    let at = c.at-planned.ensures.event in
    let told : IsTold (g.W.Sink.contents c.args.writer.now) (g.W.Sink.contents c.loop-done.writer) c.play_event.new.lines.text c.args.world.now events (i + 1) = (
      so.0.0,
      so.0.1,
      text_more c.args.world.now c.loop-done.world c.play_event.new.world events i _ at so.0.0 c.loop-done.lines.text c.play_event.new.lines.text so.1 so.0.2 c.in-Ok.ensures.text,
    ) in
    record {
      prefix = on_err c.from_residual.result
          (told_prefix (g.W.Sink.contents c.args.writer.now) (g.W.Sink.contents c.loop-done.writer) _ c.args.world.now events (i + 1) c.play_event.new.lines.text told c.in_err-write_many.ensures.fails.prefix);
      count = search rules;
    }
