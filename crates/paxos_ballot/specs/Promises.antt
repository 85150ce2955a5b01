-- What a promise does to an attempt.
use Rattle.std.specs.Prelude.{ℕ, Bool, not, ◌&&◌, length, Option, if◌then◌else◌}
use Rattle.metering_model.specs.Ballot.{Vote, Attempt, with_node, has_majority, with_promise}

-- whether the promise of that node makes the proposal go out: it was not sent, and with the node they are a majority
abbrev pub proposes : ℕ → Attempt → Bool
proposes from a = not a.sent && has_majority (length a.promising) (with_node from a.promising)

-- an attempt after the promise of a node: once it has sent its proposal it stays as it is
abbrev pub after_promise : ℕ → Option Vote → Attempt → Attempt
after_promise from vote a = if a.sent then a else record (with_promise from vote a) { sent = proposes from a }
