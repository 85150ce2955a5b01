use Rattle.std.proofs.Common.{[], ◌∷◌, ◌++◌, List, ℕ, Bor, append_assoc, ap, ◌∙◌}
use Rattle.std.specs.List.{flat_map}
use Rattle.sheet_changes.proofs.ListWalks.{all_of, put_next}
use Rattle.sheet_changes.proofs.fields.put_named.Goals as goal

pub loop-part-preserved : goal.loop-part-preserved
loop-part-preserved c =
    put_next (λ (part : Bor (List ℕ)). part.now ++ 9 ∷ []) c.args.text.now.items c.loop-part.text.items c.extend_from_slice-in-loop-part.new.self.items c.args.named.now c.loop-part.part-index _ c.loop-part-test.true
    (c.in-Ok-extend_from_slice.ensures.items ∙ ap (λ t. t ++ 9 ∷ []) c.in-Ok.ensures.items ∙ append_assoc c.loop-part.text.items _ (9 ∷ [])) c.loop-part.invariant

pub returns : goal.returns
returns c =
    all_of (flat_map (λ (part : Bor (List ℕ)). part.now ++ 9 ∷ [])) c.args.text.now.items c.loop-part.text.items c.args.named.now c.loop-part.part-index c.loop-part-test.false c.loop-part.invariant
