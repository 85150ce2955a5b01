-- Members stay members, and what failed left what was there.
use Rattle.std.proofs.Common.{◌≡◌, ℕ, ◌<◌, List, ◌++◌, ◌∷◌, [], length, get_or, ap, ◌∙◌, arith, Result, Ok, Err}
use Rattle.std.specs.Prelude.{slice_set, OnErr}
use Rattle.std.proofs.lemmas.List.{length-map, length-set, set-get_or}
use Rattle.std.proofs.lemmas.List.Elements.{All-set}
use Rattle.metering_model.specs.Batch.{Batch}
use Rattle.metering_model.specs.Holding.{Holding, put}
use Rattle.metering_model.specs.World.{World, Node, Packet, CarriesBatch, Journaled}
use Rattle.metering_model.specs.Step.{on_batch}
use Rattle.group_node.specs.Nodes.{NodeAmong}
use Rattle.group_state.specs.Inner.Allowed.{MayJournal}
use Rattle.group_state.specs.Inner.Members.{IsMember, AreMembers}
use Rattle.group_state.proofs.Changes.{member_at, nodes_in}

pub on_any_err : {T E P : Type 0} (r : Result T E) → P → OnErr r P
on_any_err (Ok x) p = tt
on_any_err (Err e) p = p

-- a node of the world is in the list
pub is_listed : (w : World) (ns : List NodeAmong) (i : ℕ) → nodes_in ns ≡ w.nodes → i < length w.nodes → i < length ns
is_listed w ns i same low = omega (arith, low, ap length same, length-map ns (λ (n : NodeAmong). n.node))

-- a node that keeps its voters and agents may take its place again
pub members_with : (voters agents at : ℕ) (ns : List NodeAmong) (n m : NodeAmong) → AreMembers voters agents ns → at < length ns → n ≡ get_or ns at n → m.voters ≡ n.voters → m.agents ≡ n.agents
    → AreMembers voters agents (slice_set ns at m)
members_with voters agents at ns n m are low e votes stores =
    let is : IsMember voters agents n = member_at voters agents at ns n are.each low e in
    let size = length-set ns at m in
    record {
      few = omega (arith, size, are.few);
      one_votes = are.one_votes;
      are_nodes = omega (arith, size, are.are_nodes);
      each = All-set (IsMember voters agents) ns at m (record { votes = votes ∙ is.votes; stores = stores ∙ is.stores }) are.each;
    }

pub put_back : (ns : List NodeAmong) (at : ℕ) (n m : NodeAmong) → m ≡ n → n ≡ get_or ns at n → slice_set ns at m ≡ ns
put_back ns at n m same e = ap (slice_set ns at) (same ∙ e) ∙ set-get_or ns at n

-- the world with a batch that was taken is what the step makes
pub taken : (v w : World) (b : Batch) (number agents : ℕ) (h : Holding) (after : List Packet) → v ≡ w → MayJournal w b → number ≡ length v.packets → agents ≡ v.agents → h ≡ put v.journals b
    → after ≡ v.packets ++ CarriesBatch b ∷ [] → on_batch w b ≡ Ok (Journaled number, record v { agents = agents; journals = h; packets = after })
taken v w b number agents h after same may count stores held sent = rw (count, stores, held, sent, same) may.outcome

-- a world of parts that are what they were
pub kept_world : (v w : World) (agents : ℕ) (h : Holding) (ps : List Packet) (ns : List Node) → v ≡ w → agents ≡ v.agents → h ≡ v.journals → ps ≡ v.packets → ns ≡ v.nodes
    → record v { agents = agents; journals = h; packets = ps; nodes = ns } ≡ w
kept_world v w agents h ps ns same stores held sent standing = rw (stores, held, sent, standing) same
