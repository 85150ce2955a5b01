use Rattle.std.proofs.Common.{[], ◌∷◌, ◌++◌, ap, ◌∙◌, append_assoc}
use Rattle.log_text.proofs.WrittenLines.{then_put}
use Rattle.process_text.proofs.answers.put_below.Goals as goal

pub returns : goal.returns
returns c =
    then_put c.extend_from_slice-2.result c.extend_from_slice.new.self.items _ c.args.below.now _ c.extend_from_slice-2.ensures.items
    (ap (λ t. t ++ c.args.below.now) c.in-Ok.ensures.items ∙ append_assoc c.args.text.now.items (10 ∷ []) c.args.below.now)
