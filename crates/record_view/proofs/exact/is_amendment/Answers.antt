use Rattle.std.proofs.Common.{sym}
use Rattle.record_view.proofs.KindLaws.{long_amendment}
use Rattle.record_view.proofs.exact.is_amendment.Goals as goal

pub returns-in_default-3 : goal.returns-in_default-3
returns-in_default-3 c = sym (long_amendment c.args.letter.now c.in_default.len_at_least)
