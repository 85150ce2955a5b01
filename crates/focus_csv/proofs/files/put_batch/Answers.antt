use Rattle.std.proofs.Common.{◌++◌, ap, ◌∙◌}
use Rattle.std.specs.List.{flat_map}
use Rattle.metering_model.specs.File.{row_text}
use Rattle.focus_csv.proofs.files.put_batch.Goals as goal

-- the walk has just the rows of the batch
pub returns-clause-put : goal.returns-clause-put
returns-clause-put c = c.in_ok-put_walk.ensures.put ∙ ap (λ rs. c.args.text.now.items ++ flat_map row_text rs) c.walk-walk.ensures
