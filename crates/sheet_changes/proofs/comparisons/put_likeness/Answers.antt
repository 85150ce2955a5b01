use Rattle.std.proofs.Common.{[], ◌∷◌, ◌++◌, append_assoc, ap, ◌∙◌}
use Rattle.sheet_changes.proofs.ListWalks.{on_put}
use Rattle.sheet_changes.proofs.comparisons.put_likeness.Goals as goal

pub returns : goal.returns
returns c =
    let put = c.in-Ok.ensures in
    on_put c.extend_from_slice.result _ _ _ c.extend_from_slice.ensures.items
    (λ is. (put.0, put.1, is ∙ ap (λ t. t ++ 10 ∷ []) put.2 ∙ append_assoc c.args.text.now.items put.0 (10 ∷ [])))
