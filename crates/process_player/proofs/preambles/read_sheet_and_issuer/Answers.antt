-- The sheet comes first.
use Rattle.std.proofs.Common.{sym}
use Rattle.process_player.proofs.PreambleLaws.{issuer_refused, both_read}
use Rattle.process_player.proofs.preambles.read_sheet_and_issuer.Goals as goal

pub returns-in-Ok-clause-read : goal.returns-in-Ok-clause-read
returns-in-Ok-clause-read c = (
  c.in-Ok.rest,
  both_read c.args.unread.now (c.in_ok-sheet.sheet, c.in_ok-sheet.below) (c.in-Ok.issuer, c.in-Ok.rest) c.in_ok-sheet.ensures.taken c.in-Ok.ensures.taken,
  sym c.line.ensures.value,
)

pub returns-in-Err-clause-refused : goal.returns-in-Err-clause-refused
returns-in-Err-clause-refused c = λ other.
    issuer_refused c.args.unread.now (c.in_ok-sheet.sheet, c.in_ok-sheet.below) c.in-Err.fault c.in_ok-sheet.ensures.taken (c.in-Err.ensures.refused other)
