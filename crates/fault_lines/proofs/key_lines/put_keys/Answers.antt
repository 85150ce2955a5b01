use Rattle.std.proofs.Common.{◌≤◌, ◌++◌, length, sym, ap, ◌∙◌, arith, append-nil}
use Rattle.std.proofs.lemmas.Bool.Decides.{nat_tests}
use Rattle.metering_model.specs.BatchReading.{lines_in}
use Rattle.fault_lines.specs.UnknownKeys.{told_of_keys}
use Rattle.fault_lines.proofs.UnknownLaws.{is_none, none_told}
use Rattle.fault_lines.proofs.key_lines.put_keys.Goals as goal

pub returns-then-is_empty : goal.returns-then-is_empty
returns-then-is_empty c =
    let told = c.args.told.now.items in
    let lines = (lines_in c.args.text.now).lines in
    let same = ap length c.as_slice.ensures.value in
    let few : length c.args.keys.now.items ≤ 0 = grind (arith, nat_tests, same, c.is_empty.ensures, c.if-is_empty.true) in
    sym (ap (λ ks. told ++ told_of_keys c.args.opening lines ks) (is_none c.args.keys.now.items few) ∙ (ap (λ t. told ++ t) (none_told c.args.opening lines) ∙ append-nil told))
