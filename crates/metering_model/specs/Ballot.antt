-- Promise, accept and choose for one billing period, after Lamport's Paxos Made Simple.
use Rattle.std.specs.Prelude.{ℕ, ◌+◌, ◌*◌, ◌/◌, Bool, true, false, ◌==◌, nat_lt, nat_le, if◌then◌else◌, List, replicate, Option, Some, None, unwrap_or, count_by, slice_set}
use Rattle.std.specs.Ordering.{nat_cmp}
use Rattle.std.specs.Map.{lookup}
use Rattle.std.specs.BTreeMap.{insert_entry}
use Rattle.metering_model.specs.Cut.{Cut}

abbrev pub ballot_of : ℕ → ℕ → ℕ → ℕ
ballot_of round node voters = round * voters + node

abbrev pub majority : ℕ → ℕ
majority voters = voters / 2 + 1

-- a set of nodes that vote: a mark for each
abbrev pub Nodes : Type 0
Nodes = List Bool

abbrev pub nobody : ℕ → Nodes
nobody voters = replicate voters false

abbrev pub with_node : ℕ → Nodes → Nodes
with_node i set = slice_set set i true

abbrev pub has_majority : ℕ → Nodes → Bool
has_majority voters set = nat_le (majority voters) (count_by (λ marked. marked) set)

pub record Vote : Type 0 where
  pub ballot : ℕ
  pub cut : Cut

-- what an acceptor keeps of one period
pub record Acceptor : Type 0 where
  pub promised : Option ℕ
  pub vote : Option Vote

abbrev pub new_acceptor : Acceptor
new_acceptor = record { promised = None; vote = None }

abbrev pub is_above : ℕ → Option ℕ → Bool
is_above ballot None = true
is_above ballot (Some promised) = nat_lt promised ballot

abbrev pub is_not_below : ℕ → Option ℕ → Bool
is_not_below ballot None = true
is_not_below ballot (Some promised) = nat_le promised ballot

abbrev pub after_prepare : ℕ → Acceptor → Acceptor
after_prepare ballot a = record a { promised = Some ballot }

-- an acceptor that accepts promises the ballot too
abbrev pub after_accept : Vote → Acceptor → Acceptor
after_accept v a = record { promised = Some v.ballot; vote = Some v }

-- what a proposer knows at one ballot: who promised, the best vote told, whether its cut has gone out
pub record Attempt : Type 0 where
  pub ballot : ℕ
  pub promising : Nodes
  pub told : Option Vote
  pub sent : Bool

abbrev pub new_attempt : ℕ → ℕ → Attempt
new_attempt voters ballot = record { ballot = ballot; promising = nobody voters; told = None; sent = false }

abbrev pub greater_vote : Option Vote → Option Vote → Option Vote
greater_vote None w = w
greater_vote (Some v) None = Some v
greater_vote (Some v) (Some w) = if nat_lt v.ballot w.ballot then Some w else Some v

-- the attempt with one more promise
abbrev pub with_promise : ℕ → Option Vote → Attempt → Attempt
with_promise from vote a = record a { promising = with_node from a.promising; told = greater_vote a.told vote }

-- for each ballot the nodes that accepted at it, by rising ballot; a ballot that is absent has nobody
abbrev pub Tally : Type 0
Tally = List (ℕ × Nodes)

abbrev pub accepting_at : ℕ → ℕ → Tally → Nodes
accepting_at voters ballot tally = unwrap_or (lookup (λ b. b == ballot) tally) (nobody voters)

abbrev pub with_accepted : ℕ → ℕ → ℕ → Tally → Tally
with_accepted voters from ballot tally = insert_entry nat_cmp tally ballot (with_node from (accepting_at voters ballot tally))
