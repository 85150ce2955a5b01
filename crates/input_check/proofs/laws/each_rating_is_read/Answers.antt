use Rattle.input_check.proofs.RatingForms.{rating_read, rating_written}
use Rattle.input_check.proofs.laws.each_rating_is_read.Goals as goal

pub returns : goal.returns
returns c = record { form = rating_read; taken = rating_written }
