-- An attempt that lends a vote.
use Rattle.std.specs.Prelude.{◌≡◌, ⊤}
use Rattle.std.specs.Borrow.{follows_so, Fml, MutBor}
use mathlib.Core.Option.{none}
use Rattle.metering_model.specs.Ballot.{Attempt}
use Rattle.paxos_ballot.specs.contracts.attempt.Attempt.{the_row}

-- the attempt behind the reference is `after` from when the vote that it lends has come back
abbrev pub ends_as : MutBor Attempt → Attempt → Fml
ends_as lender after = follows_so the_row the_row lender.ghost_name none (λ _ _. ⊤) (λ attempt. attempt ≡ after)
