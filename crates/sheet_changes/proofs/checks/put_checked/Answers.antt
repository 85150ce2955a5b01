use Rattle.std.proofs.Common.{◌++◌, Result, refl, sym, ap, subst, ◌∙◌, append-nil}
use Rattle.std.specs.Prelude.{IsOk}
use Rattle.std.proofs.lemmas.Result.{on_ok_weaker}
use Rattle.metering_model.specs.Sheet.{Sheet}
use Rattle.input_sections.specs.declared.faults.ScheduleFault.{ScheduleFault}
use Rattle.sheet_changes.proofs.CheckLaws.{fault_told, none_told, taken_says}
use Rattle.sheet_changes.proofs.checks.put_checked.Goals as goal

pub put_warnings-requires : goal.put_warnings-requires
put_warnings-requires c = subst (λ (r : Result (Sheet × Sheet) ScheduleFault). IsOk r) (sym c.in-Ok.ensures.taken) refl

pub returns-in-Ok : goal.returns-in-Ok
returns-in-Ok c =
    let told = c.args.told.now.items in
    let taken = subst (λ (r : Result (Sheet × Sheet) ScheduleFault). IsOk r) (sym c.in-Ok.ensures.taken) refl in
    let same = sym (append-nil told) ∙ ap (λ t. told ++ t) (sym (taken_says c.args.text.now taken)) in
    record { said = on_ok_weaker c.put_warnings.result (λ _. same) c.put_warnings.ensures; warned = c.put_warnings.ensures }

pub returns-in-Err : goal.returns-in-Err
returns-in-Err c =
    let refused = c.in-Err.ensures.refused in
    record {
      said = fault_told c.args.text.now c.args.told.now.items _ refused c.put_fault.result _ c.put_fault.ensures.memory c.put_fault.ensures.said;
      warned = none_told c.args.text.now c.args.warned.now.items _ refused c.put_fault.result c.put_fault.ensures.memory;
    }
