use Rattle.std.proofs.Common.{◌≡◌, ℕ, false, List, ◌∷◌, [], ◌++◌, sym, ap, ◌∙◌, append_assoc, rules}
use Rattle.focus_csv.specs.Inner.Strings.{is_odd}
use Rattle.focus_csv.proofs.TagTexts.{doubled_string, string_quoted}
use Rattle.focus_csv.proofs.tags.put_string.Goals as goal

pub put_within-requires : goal.put_within-requires
put_within-requires c = rw (c.as_slice.ensures.value, c.in_ok-json.ensures) (string_quoted c.args.text.now)

pub returns-then-is_odd : goal.returns-then-is_odd
returns-then-is_odd c = rw (c.as_slice.ensures.value, c.in_ok-json.ensures) at c.put_within.ensures

pub returns : goal.returns
returns c =
    let piece = c.args.piece.now.items in
    let text = c.args.text.now in
    let marks : List ℕ = 34 ∷ 34 ∷ [] in
    let plain : is_odd text ≡ false = search rules in
    c.in_ok-extend_from_slice-3.ensures.items
    ∙ ap (λ t. t ++ marks) (c.in_ok-extend_from_slice-2.ensures.items ∙ ap (λ t. t ++ text) c.in_ok-extend_from_slice.ensures.items)
    ∙ append_assoc (piece ++ marks) text marks
    ∙ append_assoc piece marks (text ++ marks)
    ∙ ap (λ t. piece ++ t) (sym (doubled_string text plain))
