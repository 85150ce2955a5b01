use Rattle.std.proofs.Common.{◌∷◌, [], ◌++◌, ap, ◌∙◌}
use Rattle.std.proofs.lemmas.Result.{on_ok_weaker}
use Rattle.focus_csv.proofs.BeginningLaws.{put_ok}
use Rattle.focus_csv.proofs.TagTexts.{plain_put}
use Rattle.focus_csv.proofs.tags.put_plain_tag.Goals as goal

pub returns : goal.returns
returns c =
    on_ok_weaker c.extend_from_slice-5.result
    (λ five. λ front is.
    let one = c.in-Ok.ensures.items in
    let two = c.in-Ok-extend_from_slice.ensures.items ∙ ap (λ t. t ++ c.args.key.now) one in
    let three = c.in-Ok-extend_from_slice-2.ensures.items ∙ ap (λ t. t ++ 34 ∷ 34 ∷ 58 ∷ 34 ∷ 34 ∷ []) two in
    let four = c.in-Ok-extend_from_slice-3.ensures.items ∙ ap (λ t. t ++ c.args.value.now) three in
    five ∙ ap (λ t. t ++ 34 ∷ 34 ∷ []) four
    ∙ plain_put c.args.piece.now.items front c.args.begin.now (record { key = c.args.key.now; value = c.args.value.now }) c.requires.key c.requires.value is)
    (put_ok c.extend_from_slice-5.result _ _ _ c.extend_from_slice-5.ensures.items)
