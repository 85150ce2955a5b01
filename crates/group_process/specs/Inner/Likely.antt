-- What taking a packet adds: what is likely by the packet and by what is kept, and what is left of that by what the node then did.
use Rattle.std.specs.Prelude.{◌≡◌, ℕ, ◌≤◌, if◌then◌else◌, All, Option, Some, None}
use Rattle.std.specs.Option.{is_some}
use Rattle.metering_model.specs.Limits.{last_sequence}
use Rattle.metering_model.specs.Batch.{IsWellFormed}
use Rattle.metering_model.specs.Ballot.{Acceptor, Vote, after_accept}
use Rattle.metering_model.specs.Cut.{Cut}
use Rattle.metering_model.specs.Holding.{held}
use Rattle.metering_model.specs.World.{Node, Packet, CarriesBatch, Prepare, Promise, Accept, Accepted, Decided}
use Rattle.group_process.specs.declared.added.Added.{Added}
use Rattle.group_process.specs.declared.added.Added.TheVariants.{Nothing, Round, Ballots, Learned, Batch}

-- whether the vote would change the acceptor
abbrev pub IsLikelyVote : Acceptor → Vote → Added → Type 0
IsLikelyVote a v Nothing = a ≡ after_accept v a
IsLikelyVote a v Round = ⊥
IsLikelyVote a v Ballots = a ≡ after_accept v a → ⊥
IsLikelyVote a v Learned = ⊥
IsLikelyVote a v (Batch agent seq) = ⊥

-- what is added where the node does what the packet asks for
abbrev pub IsLikely : Node → Packet → Added → Type 0
IsLikely n (CarriesBatch b) x = x ≡ (if is_some (held n.kept.holding b.agent b.seq) then Nothing else Batch b.agent b.seq)
IsLikely n (Prepare period ballot) x = x ≡ Ballots
IsLikely n (Promise from period ballot vote) x = x ≡ Nothing
IsLikely n (Accept period ballot cut) x = IsLikelyVote n.kept.acceptor (record { ballot = ballot; cut = cut }) x
IsLikely n (Accepted from period ballot cut) x = x ≡ Nothing
IsLikely n (Decided period cut) x = x ≡ Nothing

-- a node that sends nothing may have taken a batch
abbrev pub if_batch : Added → Added
if_batch Nothing = Nothing
if_batch Round = Nothing
if_batch Ballots = Nothing
if_batch Learned = Nothing
if_batch (Batch agent seq) = Batch agent seq

-- a node that proposes, or tells a cut that it learned before, keeps what it kept
abbrev pub unless_told : Added → Packet → Added
unless_told likely (CarriesBatch b) = likely
unless_told likely (Prepare period ballot) = likely
unless_told likely (Promise from period ballot vote) = likely
unless_told likely (Accept period ballot cut) = Nothing
unless_told likely (Accepted from period ballot cut) = likely
unless_told likely (Decided period cut) = Nothing

abbrev pub added_for : Added → (sends : Option Packet) (learns : Option ℕ) → Added
added_for likely sends (Some period) = Learned
added_for likely (Some p) None = unless_told likely p
added_for likely None None = if_batch likely

-- no entry is above the last sequence
abbrev pub IsLow : Cut → Type 0
IsLow cut = All (λ seq. seq ≤ last_sequence) cut

-- what a packet's batch and its cut keep by their types
abbrev pub HasLowParts : Packet → Type 0
HasLowParts (CarriesBatch b) = IsWellFormed b
HasLowParts (Prepare period ballot) = Unit {0}
HasLowParts (Promise from period ballot vote) = Unit {0}
HasLowParts (Accept period ballot cut) = IsLow cut
HasLowParts (Accepted from period ballot cut) = IsLow cut
HasLowParts (Decided period cut) = IsLow cut

abbrev pub HasLowVote : Acceptor → Type 0
HasLowVote a = (v : Vote) → a.vote ≡ Some v → IsLow v.cut
