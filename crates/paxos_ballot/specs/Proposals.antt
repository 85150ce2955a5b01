-- What a proposer sends.
use Rattle.std.specs.Prelude.{Option, Some, None}
use Rattle.std.specs.Option.{option_copied}
use Rattle.metering_model.specs.Ballot.{Vote}
use Rattle.paxos_ballot.specs.declared.attempt.PromiseStep.{PromiseStep}
use Rattle.paxos_ballot.specs.declared.attempt.PromiseStep.TheVariants.{Waiting, Propose}

-- the proposal of a step: none while it waits, and else the vote told, if any
abbrev pub proposal_in : PromiseStep → Option (Option Vote)
proposal_in Waiting = None
proposal_in (Propose told) = Some (option_copied told)
