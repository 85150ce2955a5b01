-- Where it was.
use Rattle.std.proofs.Common.{rules}
use Rattle.focus_row.specs.Rows.{model_row}
use Rattle.focus_csv.proofs.LineLaws.{region_fields}
use Rattle.focus_csv.proofs.texts.set_region.Goals as goal

pub returns : goal.returns
returns c = rw (region_fields (model_row c.args.row.now)) (search rules)
