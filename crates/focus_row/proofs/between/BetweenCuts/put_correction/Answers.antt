use Rattle.std.proofs.Common.{rules}
use Rattle.focus_row.proofs.RowBeginnings.{put_behind}
use Rattle.focus_row.proofs.between.BetweenCuts.put_correction.Goals as goal

pub returns-clause-put : goal.returns-clause-put
returns-clause-put c = put_behind c.in-Some.row (search rules) c.in-Some.ensures.row c.requires.named c.in-Some.ensures.named
