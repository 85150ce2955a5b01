use Rattle.std.proofs.Common.{refl, sym, ap, ◌∙◌}
use Rattle.std.proofs.KnownBytes.{Keeps-refl}
use Rattle.schedule_reader.specs.Schedules.{schedule_in}
use Rattle.schedule_player.proofs.Answered.{left_still, of_same, same_fault, unwritten}
use Rattle.schedule_player.proofs.play.play_read.Goals as goal

pub returns-in-Ok-clause-writes : goal.returns-in-Ok-clause-writes
returns-in-Ok-clause-writes g c =
    of_same c.play_input.result _ c.args.input.items _ _ _ _ (c.deref-in-Ok.ensures.value ∙ ap (λ v. v.items) (c.deref.ensures ∙ c.in-Ok.ensures.ok)) c.play_input.ensures.writes

pub returns-in-Ok-clause-section : goal.returns-in-Ok-clause-section
returns-in-Ok-clause-section g c = λ fault is.
    let x = c.play_input.ensures.section fault is in
    (x.0, ap schedule_in (sym (c.deref-in-Ok.ensures.value ∙ ap (λ v. v.items) (c.deref.ensures ∙ c.in-Ok.ensures.ok))) ∙ x.1)

pub returns-in-Ok-clause-kept : goal.returns-in-Ok-clause-kept
returns-in-Ok-clause-kept g c =
    left_still c.play_input.result _ _ c.play_input.ensures.kept c.play_input.ensures.no_read c.play_input.ensures.no_refusal

pub returns-in-Ok-clause-no_read : goal.returns-in-Ok-clause-no_read
returns-in-Ok-clause-no_read g c = c.play_input.ensures.no_read

pub returns-in-Ok-clause-no_refusal : goal.returns-in-Ok-clause-no_refusal
returns-in-Ok-clause-no_refusal g c = c.play_input.ensures.no_refusal

pub returns-in-Err-clause-writes : goal.returns-in-Err-clause-writes
returns-in-Err-clause-writes g c = unwritten c.unplayed.result c.args.input.items _ _ _ c.unplayed.ensures.others.1 (Keeps-refl (g.W.Sink.contents c.args.writer.now))

pub returns-in-Err-clause-section : goal.returns-in-Err-clause-section
returns-in-Err-clause-section g c = λ fault is.
    let x = c.unplayed.ensures.section fault (same_fault _ _ is) in
    (x.0, ap schedule_in (sym (c.deref-in-Err.ensures.value ∙ ap (λ v. v.items) c.in-Err.ensures.value_returned)) ∙ x.1)

pub returns-in-Err-clause-kept : goal.returns-in-Err-clause-kept
returns-in-Err-clause-kept g c = λ a b. refl

pub returns-in-Err-clause-no_read : goal.returns-in-Err-clause-no_read
returns-in-Err-clause-no_read g c = λ is. c.unplayed.ensures.others.0 (same_fault _ _ is)

pub returns-in-Err-clause-no_refusal : goal.returns-in-Err-clause-no_refusal
returns-in-Err-clause-no_refusal g c = λ refusal is. c.unplayed.ensures.others.2 refusal (same_fault _ _ is)
