-- Each of the two that were read is that of its text.
use Rattle.metering_model.specs.Dates.{stamp_in}
use Rattle.record_view.proofs.StampLaws.{zipped}
use Rattle.record_view.proofs.stamps.StampReader.read_anew.Goals as goal

pub invariant_of-self : goal.invariant_of-self
invariant_of-self c =
    let both = zipped (stamp_in c.args.first.now) (stamp_in c.args.second.now) (c.in_ok-start.start, c.in_ok-start.end) c.in_ok-start.ensures in
    record { start_is = both.0; end_is = both.1 }
