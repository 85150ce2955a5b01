use Rattle.std.proofs.Common.{◌≡◌, ◌++◌, ℕ, List, OnOk, sym, subst}
use Rattle.input_sections.specs.declared.faults.ScheduleCode.TheVariants as code
use Rattle.fault_lines.proofs.KeysOnLine.{still, unknown_nowhere, unknown_there}
use Rattle.fault_lines.proofs.unknown_keys.put_unknown_on.Goals as goal

pub returns-in-Some : goal.returns-in-Some
returns-in-Some c =
    subst (λ (t : List ℕ). OnOk c.put_unknown_keys.result (c.put_unknown_keys.new.told.items ≡ c.args.warned.now.items ++ t))
    (sym (unknown_there c.args.line c.args.text.now _ (c.in-Some.ensures code.Sheet))) c.put_unknown_keys.ensures

pub returns-in-None : goal.returns-in-None
returns-in-None c =
    let none = c.in-None.ensures code.Sheet in
    still c.args.warned.now.items _ (unknown_nowhere c.args.line c.args.text.now none.0 none.1)
