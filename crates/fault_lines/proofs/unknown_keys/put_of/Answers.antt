use Rattle.std.proofs.Common.{◌≡◌, ◌++◌, List, ℕ, Some, OnOk, sym, ap, subst, ◌∙◌, append-nil}
use Rattle.toml.specs.View.{table_view}
use Rattle.fault_lines.specs.Inner.KeyKinds.{unknown_of}
use Rattle.fault_lines.proofs.UnknownLaws.{of_none, of_utf8}
use Rattle.fault_lines.proofs.unknown_keys.put_of.Goals as goal

pub returns-in-Ok : goal.returns-in-Ok
returns-in-Ok c =
    let is = c.in-Ok.ensures.ok in
    let said = sym (of_utf8 (unknown_of c.args.owner) c.args.opening c.args.section.now (Some (table_view c.in-Ok.table)) is.0 is.1) in
    subst (λ (t : List ℕ). OnOk c.put_of_table.result (c.put_of_table.new.told.items ≡ c.args.told.now.items ++ t)) said c.put_of_table.ensures

pub returns-else-is_memory : goal.returns-else-is_memory
returns-else-is_memory c =
    let told = c.args.told.now.items in
    let none = c.in-Err.ensures.refused (λ is. let yes = c.is_memory.ensures.1 is in let no = c.if-is_memory.false in cc) in
    sym (ap (λ t. told ++ t) (of_none (unknown_of c.args.owner) c.args.opening c.args.section.now none) ∙ append-nil told)
