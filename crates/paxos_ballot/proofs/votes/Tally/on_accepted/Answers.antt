-- The set that is then at the ballot is the one that was found there, or nobody's, with the node.
use Rattle.std.proofs.Common.{◌≡◌, length, Some, None, subst, rules}
use mathlib.Core.Path.{ap, ap₂, sym, ◌∙◌}
use Rattle.std.specs.BTreeMap.{get_by, insert_entry}
use Rattle.std.specs.Ordering.{nat_cmp}
use Rattle.metering_model.specs.Ballot.{with_node, accepting_at, with_accepted, has_majority}
use Rattle.paxos_ballot.specs.Inner.Tallies.{IsTally}
use Rattle.paxos_ballot.proofs.Tallies.{accepting_at-found, accepting_at-none, accepting_at-marked, length-marked, IsTally-marked, set-marked}
use Rattle.paxos_ballot.proofs.votes.Tally.on_accepted.Goals.{in-Some, in-None+in_ok-is_chosen-in-None}
use Rattle.paxos_ballot.proofs.votes.Tally.on_accepted.Goals as goal

pub invariant_of-self : goal.invariant_of-self
invariant_of-self c =
    let nodes = c.self.inside.nodes in
    let sets = c.self.inside.sets in
    let ballot = c.number-ballot.result in
    let was = c.in-Some.accepting.now in
    let found : get_by (nat_cmp ballot) sets ≡ Some was = search rules in
    let marked = set-marked nodes c.args.from ballot sets.entries was c.with.result c.get_mut.ensures.ordered found c.with.ensures in
    let is = (c.get_mut.follows.holds c.with.result).0 ∙ marked in
    subst (IsTally nodes) (sym is) (IsTally-marked nodes c.args.from ballot sets.entries c.self.invariant)

-- the sets, whether one was there or not
accepting : (c : goal.After-then_some)
    → c.match-get_mut.self.accepting ≡ with_accepted c.self.inside.nodes c.args.from c.number-ballot.result c.self.inside.sets.entries
accepting c =
    let nodes = c.self.inside.nodes in
    let sets = c.self.inside.sets in
    let ballot = c.number-ballot.result in
    elim c.match-get_mut.branch [
      | in-Some w ↦
          let was = w.in-Some.accepting.now in
          let found : get_by (nat_cmp ballot) sets ≡ Some was = search rules in
          let marked = set-marked nodes c.args.from ballot sets.entries was w.with.result c.get_mut.ensures.ordered found w.with.ensures in
          ap (λ tally. tally.accepting) w.self-is ∙ (c.get_mut.follows.holds w.with.result).0 ∙ marked
      | in-None+in_ok-is_chosen-in-None w ↦
          let found : get_by (nat_cmp ballot) sets ≡ None = search rules in
          let nobody_is = sym (accepting_at-none nodes ballot sets.entries found) in
          let same : c.get_mut.follows.lender-at-none ≡ sets = search (rules, c.get_mut.follows.holds-at-none) in
          ap (λ tally. tally.accepting) w.self-is ∙ w.in_ok-is_chosen-in-None.ensures.accepting
          ∙ ap₂ (λ map set. insert_entry nat_cmp map.entries ballot (with_node c.args.from set)) same nobody_is
    ]

-- what is returned is asked of the set with the node
chosen : (c : goal.After-then_some)
    → c.match-get_mut.is_chosen
    ≡ has_majority c.self.inside.nodes (with_node c.args.from (accepting_at c.self.inside.nodes c.number-ballot.result c.self.inside.sets.entries))
chosen c =
    let nodes = c.self.inside.nodes in
    let sets = c.self.inside.sets in
    let ballot = c.number-ballot.result in
    elim c.match-get_mut.branch [
      | in-Some w ↦
          let was = w.in-Some.accepting.now in
          let found : get_by (nat_cmp ballot) sets ≡ Some was = search rules in
          let set_is = w.with.ensures ∙ ap (with_node c.args.from) (sym (accepting_at-found nodes ballot was sets.entries found)) in
          let size = ap length set_is ∙ length-marked nodes c.args.from ballot sets.entries c.self.invariant in
          w.is_chosen-is ∙ w.has_majority-is_chosen.ensures ∙ ap₂ has_majority size set_is
      | in-None+in_ok-is_chosen-in-None w ↦
          let found : get_by (nat_cmp ballot) sets ≡ None = search rules in
          let nobody_is = sym (accepting_at-none nodes ballot sets.entries found) in
          w.is_chosen-is ∙ w.in_ok-is_chosen-in-None.ensures.chosen ∙ ap (λ set. has_majority nodes (with_node c.args.from set)) nobody_is
    ]

ballot_is : (c : goal.After-then_some) → c.number-ballot.result ≡ c.args.vote.ballot
ballot_is c = c.number-ballot.ensures ∙ ap (λ vote. vote.ballot) c.vote.view_is

pub returns-clause-accepting : goal.returns-clause-accepting
returns-clause-accepting c =
    accepting c ∙ ap₂ (λ tally ballot. with_accepted tally.nodes c.args.from ballot tally.accepting) c.self.view_is (ballot_is c)

-- and that is what the clause asks of the set that is then there
asked : (c : goal.After-then_some)
    → has_majority c.args.self.now.nodes (accepting_at c.args.self.now.nodes c.args.vote.ballot c.match-get_mut.self.accepting)
    ≡ c.match-get_mut.is_chosen
asked c =
    let nodes = c.self.inside.nodes in
    let ballot = c.number-ballot.result in
    let sets = c.match-get_mut.self.accepting in
    sym (ap₂ (λ tally b. has_majority tally.nodes (accepting_at tally.nodes b sets)) c.self.view_is (ballot_is c))
    ∙ ap (λ tally. has_majority nodes (accepting_at nodes ballot tally)) (accepting c)
    ∙ ap (has_majority nodes) (accepting_at-marked nodes c.args.from ballot c.self.inside.sets.entries) ∙ sym (chosen c)

pub returns-clause-cut : goal.returns-clause-cut
returns-clause-cut c = rw (asked c) (search rules)
