-- What a node does with a packet that is delivered to it.
use Rattle.std.specs.Prelude.{ℕ, true, not, ◌&&◌, ◌==◌, if◌then◌else◌, [], ◌∷◌, ◌++◌, Option, Some, None, slice_get}
use Rattle.metering_model.specs.Cut.{Cut}
use Rattle.metering_model.specs.Holding.{put}
use Rattle.metering_model.specs.Front.{front}
use Rattle.metering_model.specs.Ballot.{Vote, Acceptor, Attempt, Tally, new_acceptor, is_above, is_not_below, after_prepare, after_accept, with_promise, has_majority, accepting_at, with_accepted}
use Rattle.metering_model.specs.World.{Packet, CarriesBatch, Prepare, Promise, Accept, Accepted, Decided, Kept, Node, World, voter_count, votes, current_period, last_cut, wake, with_kept}

-- the node afterwards, the packet that it sends, and the period that it learns
pub record Handled : Type 0 where
  pub node : Node
  pub sends : Option Packet
  pub learns : Option ℕ

abbrev pub silent : Node → Handled
silent n = record { node = n; sends = None; learns = None }

abbrev pub sending : Packet → Node → Handled
sending p n = record { node = n; sends = Some p; learns = None }

-- To learn a cut is to keep it, and to forget promise, vote, attempt and tally, which were of its period.
abbrev pub learned_kept : Cut → Kept → Kept
learned_kept cut k = record k { learned = k.learned ++ cut ∷ []; acceptor = new_acceptor }

abbrev pub learning : Cut → Node → Handled
learning cut n = record { node = wake (learned_kept cut n.kept); sends = None; learns = Some (current_period n) }

abbrev pub with_acceptor : Acceptor → Node → Node
with_acceptor a n = with_kept (record n.kept { acceptor = a }) n

-- Where the packet is of a period that the node has learned, it sends the cut: so one that is behind learns it too. It
-- neither promises nor accepts there any more, since what it had promised and accepted is forgotten.
abbrev pub unless_learned : ℕ → Node → Handled → Handled
unless_learned period n goes_on = elim (slice_get n.kept.learned period) [ Some cut ↦ sending (Decided period cut) n | None ↦ goes_on ]

-- An observer answers nothing that a voter is asked: it never promises, proposes or accepts, so no majority rests on it.
abbrev pub if_votes : World → ℕ → Node → Handled → Handled
if_votes w i n goes_on = if votes w i then goes_on else silent n

-- The promise tells the node's vote, and shuts out each ballot up to this one: what it tells stays all there is to tell. So
-- a ballot that is not above the promised one gets no answer.
abbrev pub on_prepare : ℕ → Node → ℕ → ℕ → Handled
on_prepare i n period ballot =
    if (period == current_period n) && is_above ballot n.kept.acceptor.promised
    then sending (Promise i period ballot n.kept.acceptor.vote) (with_acceptor (after_prepare ballot n.kept.acceptor) n)
    else silent n

-- What a proposer with a majority sends. The vote told may be of a cut that is chosen already, so its cut is sent again.
-- Where none was told nothing is chosen below this ballot, and it sends how far its own holding can be closed.
abbrev pub proposal : World → Node → Option Vote → Cut
proposal w n (Some v) = v.cut
proposal w n None = front w.sheet.base n.kept.holding (last_cut w.agents n.kept.learned) (current_period n)

-- with a majority the cut is sent, once
abbrev pub after_promise : World → Node → ℕ → ℕ → Attempt → Handled
after_promise w n period ballot a =
    if has_majority (voter_count w) a.promising
    then sending (Accept period ballot (proposal w n a.told)) (record n { attempt = Some (record a { sent = true }) })
    else silent (record n { attempt = Some a })

-- Promises count for their own ballot and period alone. After the cut was sent nothing is marked: one more promise could
-- tell a greater vote, and a ballot has one cut.
abbrev pub on_promise : World → Node → ℕ → ℕ → ℕ → Option Vote → Handled
on_promise w n from period ballot vote = elim n.attempt [
  | None ↦ silent n
  | Some a ↦
      if (period == current_period n) && (a.ballot == ballot) && not a.sent then after_promise w n period ballot (with_promise from vote a) else silent n
]

-- At the ballot promised a node still accepts. To accept raises the promise, since the node may never have seen this
-- ballot's Prepare: else a lower ballot could come later and put its vote in this one's place.
abbrev pub on_accept : ℕ → Node → ℕ → ℕ → Cut → Handled
on_accept i n period ballot cut =
    if (period == current_period n) && is_not_below ballot n.kept.acceptor.promised
    then sending (Accepted i period ballot cut) (with_acceptor (after_accept (record { ballot = ballot; cut = cut }) n.kept.acceptor) n)
    else silent n

-- a majority that accepted at one ballot has chosen the cut
abbrev pub after_accepted : World → Node → ℕ → Cut → Tally → Handled
after_accepted w n ballot cut tally =
    if has_majority (voter_count w) (accepting_at (voter_count w) ballot tally) then learning cut n else silent (record n { tally = tally })

-- node i handles a packet
abbrev pub handled : World → ℕ → Node → Packet → Handled
-- a batch is kept at any period, and one that is there already stays
handled w i n (CarriesBatch b) = silent (with_kept (record n.kept { holding = put n.kept.holding b }) n)
handled w i n (Prepare period ballot) = unless_learned period n (if_votes w i n (on_prepare i n period ballot))
handled w i n (Promise from period ballot vote) = if_votes w i n (on_promise w n from period ballot vote)
handled w i n (Accept period ballot cut) = unless_learned period n (if_votes w i n (on_accept i n period ballot cut))
-- The tally is of the current period, and counts nodes and not packets: a repeated one counts once. A learned period needs
-- no votes, and for one that is not reached yet the packet may come again. An observer counts too, and so learns.
handled w i n (Accepted from period ballot cut) =
    if period == current_period n then after_accepted w n ballot cut (with_accepted (voter_count w) from ballot n.tally) else silent n
-- cuts are learned in the order of their periods
handled w i n (Decided period cut) = if period == current_period n then learning cut n else silent n
