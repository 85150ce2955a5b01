use Rattle.std.proofs.Common.{◌≡◌, ◌∷◌, [], ◌++◌, codes, rules, ap, ◌∙◌}
use Rattle.metering_model.specs.Transcript.{with_number}
use Rattle.threads_player.specs.Groups.{month_of, reading_text}
use Rattle.threads_player.proofs.JournalTexts.{batch_is}
use Rattle.threads_player.proofs.journals.batch.Goals as goal

pub returns : goal.returns
returns c =
    let head = with_number (codes "B1|") c.args.agent ++ with_number (codes "|") c.args.seq in
    let reading = reading_text c.args.agent c.args.seq (month_of c.args.size c.args.seq) in
    let before : c.put_reading.new.text.items ≡ (head ++ 124 ∷ 49 ∷ 10 ∷ []) ++ reading = search rules in
    c.in_ok-push.ensures.items ∙ ap (λ t. t ++ 10 ∷ []) before ∙ batch_is head reading
