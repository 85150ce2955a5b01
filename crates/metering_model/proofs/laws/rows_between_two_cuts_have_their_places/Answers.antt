use Rattle.metering_model.proofs.BatchRows.{rows_by_batch}
use Rattle.metering_model.proofs.NewRows.{new_between}
use Rattle.metering_model.proofs.Places.{same_row_index, has_new_row}
use Rattle.metering_model.proofs.laws.rows_between_two_cuts_have_their_places.Goals as goal

pub returns-clause-apart : goal.returns-clause-apart
returns-clause-apart c = same_row_index

pub returns-clause-new : goal.returns-clause-new
returns-clause-new c = λ sheet issuer h period from to k x is new.
    let between = new_between sheet issuer h period from to k x is new in (between.above, between.within)

pub returns-clause-each : goal.returns-clause-each
returns-clause-each c = λ sheet issuer h period from to at r reading above within.
    let has = has_new_row sheet issuer h period from to at r reading above within in (has.index, has.placed_row, has.is, has.new, has.place)

pub returns-clause-batches : goal.returns-clause-batches
returns-clause-batches c = rows_by_batch
