-- The set that is put has a mark for each node.
use Rattle.std.proofs.Common.{◌≡◌, length, rules}
use Rattle.std.specs.Ordering.{nat_cmp}
use Rattle.std.proofs.lemmas.Map.Views.{All-values-insert_entry}
use Rattle.paxos_ballot.proofs.Tallies.{length-one_of_nobody}
use Rattle.paxos_ballot.proofs.votes.Tally.put_first.Goals as goal

size : (c : goal.In_ok-insert) → length c.with-accepting.result ≡ c.self.inside.nodes
size c = rw (c.with-accepting.ensures, c.nobody.ensures) (length-one_of_nobody c.self.inside.nodes c.args.from)

pub invariant_of-self-2 : goal.invariant_of-self-2
invariant_of-self-2 c =
    let whole = All-values-insert_entry nat_cmp _ _ (λ set. length set ≡ c.self.inside.nodes) _ c.self.invariant.whole (size c) in
    rw c.in_ok-insert.ensures.entries (record { few = c.self.invariant.few; whole = whole })

pub returns-clause-chosen : goal.returns-clause-chosen
returns-clause-chosen c = rw (c.has_majority-is_chosen.ensures, size c, c.with-accepting.ensures, c.nobody.ensures) (search rules)
