-- The file was put behind no byte.
use Rattle.std.proofs.Common.{◌++◌, ap, ◌∙◌, arith}
use Rattle.std.proofs.lemmas.Result.{IfOk-from_err}
use Rattle.metering_model.specs.File.{file}
use Rattle.focus_csv.specs.Rows.{joined}
use Rattle.export_file.proofs.split.file_text.Goals as goal

pub estimated_rows-requires-clause-order : goal.estimated_rows-requires-clause-order
estimated_rows-requires-clause-order c = omega arith

pub estimated_rows-requires-clause-within : goal.estimated_rows-requires-clause-within
estimated_rows-requires-clause-within c = omega (arith, c.batches.ensures)

pub returns-in_err-put_file : goal.returns-in_err-put_file
returns-in_err-put_file c = IfOk-from_err c.from_residual.result _ c.from_residual.ensures.0

pub returns : goal.returns
returns c = c.in_ok-put_file.ensures.put ∙ ap (λ t. t ++ file (joined c.args.batches.now)) c.text_for-text.ensures
