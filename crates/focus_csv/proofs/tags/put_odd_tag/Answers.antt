use Rattle.std.proofs.Common.{◌∷◌, [], ◌++◌, ap, ◌∙◌}
use Rattle.metering_model.specs.File.{json_string}
use Rattle.focus_csv.specs.Inner.Strings.{doubled}
use Rattle.focus_csv.proofs.TagTexts.{odd_put}
use Rattle.focus_csv.proofs.tags.put_odd_tag.Goals as goal

pub returns : goal.returns
returns c =
    let key = c.args.key.now in
    let value = c.args.value.now in
    let one = c.in_ok-extend_from_slice.ensures.items in
    let two = c.in_ok-put_string.ensures ∙ ap (λ t. t ++ doubled (json_string key)) one in
    let three = c.in_ok-push.ensures.items ∙ ap (λ t. t ++ 58 ∷ []) two in
    c.in_ok-put_string-2.ensures ∙ ap (λ t. t ++ doubled (json_string value)) three
    ∙ odd_put c.args.piece.now.items c.args.front.now (record { key = key; value = value })
