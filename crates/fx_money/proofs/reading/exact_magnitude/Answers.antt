-- What has not the form is refused for its shape, however great it is.
use Rattle.std.proofs.Common.{rules}
use Rattle.fx_money.proofs.reading.exact_magnitude.Goals as goal

pub returns-else-is_whole_part : goal.returns-else-is_whole_part
returns-else-is_whole_part c = search rules
