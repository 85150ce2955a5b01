use Rattle.std.proofs.Common.{◌<◌, ◌++◌, map, ap, ◌∙◌, arith, rules}
use Rattle.std.specs.List.{flat_map}
use Rattle.metering_model.specs.File.{row_text}
use Rattle.focus_row.specs.Rows.{model_row}
use Rattle.std.proofs.lemmas.Result.{IfOk-from_err}
use Rattle.focus_csv.proofs.BeginningLaws.{on_err}
use Rattle.focus_csv.proofs.RowBefore.{held_of_last, last_taken, none_held}
use Rattle.focus_csv.proofs.lines.HeldLine.put_lines.Goals as goal

pub put_lines-requires : goal.put_lines-requires
put_lines-requires c = held_of_last c.self.inside.row c.self.inside.pieces c.row_before.result.now c.self.invariant c.row_before.ensures

pub invariant_of-self : goal.invariant_of-self
invariant_of-self c = none_held _ c.put_lines.new.pieces c.in_err-put_lines.ensures.forgotten

pub returns-in_err-put_lines-clause-put : goal.returns-in_err-put_lines-clause-put
returns-in_err-put_lines-clause-put c = IfOk-from_err c.from_residual.result _ c.from_residual.ensures.0

pub returns-in_err-put_lines-clause-begins : goal.returns-in_err-put_lines-clause-begins
returns-in_err-put_lines-clause-begins c = on_err c.from_residual.result c.in_err-put_lines.ensures.begins

pub returns-clause-put : goal.returns-clause-put
returns-clause-put c =
    c.in_ok-put_lines.ensures.put ∙ ap (λ rs. c.args.text.now.items ++ flat_map row_text (map model_row rs)) c.deref-2.ensures.value

pub returns-clause-begins : goal.returns-clause-begins
returns-clause-begins c = tt

pub invariant_of-self-2 : goal.invariant_of-self-2
invariant_of-self-2 c =
    let some : 0 < c.args.rows.now.len = search rules in
    last_taken c.put_lines.new.pieces c.row_before.result.now c.deref-2.result.now c.args.rows.now.items c.args.rows.now.len c.pop-self-inside.result
    c.deref-2.ensures.value (omega (arith, c.deref-2.ensures.len)) some (c.pop-self-inside.ensures.value c.row_before.result.now some)
    c.in_ok-put_lines.ensures.held
