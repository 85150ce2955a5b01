use Rattle.std.proofs.Common.{◌∷◌, ◌++◌, [], ap, ap₂, codes, ◌∙◌}
use Rattle.std.proofs.lemmas.Result.{IfOk-weaker}
use Rattle.sheet_changes.specs.FieldChanges.{changed_keys, commitment_keys, commitment_lines, commitment_text}
use Rattle.sheet_changes.proofs.listings.put_commitment.Goals as goal

pub returns : goal.returns
unfolding commitment_lines
returns c =
    IfOk-weaker c.put_keys.result _ _
    (λ done is. is ∙ ap (λ t. c.args.text.now.items ++ t) (ap₂ (λ o n. changed_keys commitment_text (codes "commitment" ∷ c.args.id.now ∷ []) commitment_keys o n) c.commitment.ensures c.commitment-2.ensures))
    c.put_keys.ensures
