use Rattle.std.proofs.Common.{[], ◌∷◌, codes, ◌++◌, sym, ap, ◌∙◌, append_assoc}
use Rattle.metering_model.specs.Transcript.{refusal_text}
use Rattle.group_process.specs.Answers.{refusal_of}
use Rattle.log_text.proofs.WrittenLines.{then_put}
use Rattle.process_text.specs.Answers.{process_refusal_text, refused_text}
use Rattle.process_text.proofs.answers.put_refusal.Goals as goal

pub returns-in-Ok : goal.returns-in-Ok
returns-in-Ok c =
    let old = c.args.text.now.items in
    then_put c.extend_from_slice.result c.put_refused.new.line.items _ (10 ∷ []) _ c.extend_from_slice.ensures.items
    (ap (λ t. t ++ 10 ∷ []) c.in-Ok.ensures ∙ append_assoc old (codes "refused " ++ refusal_text c.in-OfModel.refusal) (10 ∷ [])
    ∙ ap (λ why. old ++ refused_text (process_refusal_text (refusal_of why))) (sym c.in-OfModel.is))

pub returns-in-Unfit : goal.returns-in-Unfit
returns-in-Unfit c =
    then_put c.extend_from_slice-in-Unfit.result c.args.text.now.items _ (codes "refused G17\n") _ c.extend_from_slice-in-Unfit.ensures.items
    (ap (λ why. c.args.text.now.items ++ refused_text (process_refusal_text (refusal_of why))) (sym c.in-Unfit.is))
