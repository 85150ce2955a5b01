use Rattle.std.proofs.Common.{◌-◌, not, drop, length, ◌∙◌, arith, length-drop}
use Rattle.std.proofs.lemmas.List.{take_all}
use Rattle.fault_lines.specs.Inner.KeyKinds.{is_of_kind}
use Rattle.fault_lines.proofs.KeyWalks.{from_place}
use Rattle.fault_lines.proofs.key_lines.behind_those.Goals as goal

pub returns : goal.returns
returns c =
    let line = c.args.line.now in
    let count = c.count_in_front.result in
    take_all (length line - count) (drop count line) (omega (arith, length-drop count line))
    ∙ from_place (λ b. not (is_of_kind c.args.kind b)) line count c.count_in_front.ensures.first_other
