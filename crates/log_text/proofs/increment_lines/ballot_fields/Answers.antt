use Rattle.metering_model.specs.BatchReading.{fields_in}
use Rattle.log_text.proofs.ReadFields.{are_ballots}
use Rattle.log_text.proofs.increment_lines.ballot_fields.Goals as goal

pub returns : goal.returns
returns c =
    are_ballots c.in-Some-read_period.period c.in-Some-read_whole.number c.numbered.result (fields_in c.args.fields.now) (fields_in c.in-Some.rest.now) (fields_in c.in-Some-split_at_bar.vote.now) c.in-Some.period.now
    c.in-Some-split_at_bar.promised.now c.in-Some.ensures c.in-Some-split_at_bar.ensures c.in-Some-read_period.ensures c.in-Some-read_whole.ensures.value c.in-Some-read_whole.ensures.within c.numbered.ensures
