-- The sets of a tally.
use Rattle.std.proofs.Common.{◌≡◌, ℕ, Bool, true, false, cond, ◌==◌, [], ◌∷◌, length, refl, Some, None, All, Ordering, Less, Equal, Greater, arith}
use mathlib.Core.Path.{ap, ap₂, sym, ◌∙◌}
use Rattle.std.specs.Ordering.{nat_cmp, is_eq, match_ordering}
use Rattle.std.specs.Option.{unwrap_or}
use Rattle.std.specs.Map.{lookup, keys_of, values_of, set_value}
use Rattle.std.specs.BTreeMap.{is_at, insert_entry}
use Rattle.std.specs.List.Sorted.{IsStrictlySortedBy}
use Rattle.std.proofs.lemmas.Cmp.{nat_cmp_total}
use Rattle.std.proofs.lemmas.List.{length-set, length-replicate}
use Rattle.std.proofs.lemmas.List.Elements.{All-head, All-tail}
use Rattle.std.proofs.lemmas.Map.{lookup-none}
use Rattle.std.proofs.lemmas.Map.Entries.{none_below_head}
use Rattle.std.proofs.lemmas.Map.Keys.{sorted_tail}
use Rattle.std.proofs.lemmas.Map.Views.{All-values-insert_entry}
use Rattle.metering_model.specs.Ballot.{Nodes, Tally, nobody, with_node, accepting_at, with_accepted}
use Rattle.paxos_ballot.specs.Inner.Tallies.{IsTally}

same_key : (k other : ℕ) → is_eq (nat_cmp k other) ≡ (other == k)
same_key k other = grind arith

lookup_by_key : (ballot : ℕ) (tally : Tally) → lookup (is_at (nat_cmp ballot)) tally ≡ lookup (λ b. b == ballot) tally
lookup_by_key ballot [] = refl
lookup_by_key ballot (e ∷ es) = ap₂ (λ test rest. cond test (Some e.1) rest) (same_key ballot e.0) (lookup_by_key ballot es)

-- what a look-up finds at a ballot is who accepted at it
pub accepting_at-found : (nodes ballot : ℕ) (set : Nodes) (tally : Tally) → lookup (is_at (nat_cmp ballot)) tally ≡ Some set → accepting_at nodes ballot tally ≡ set
accepting_at-found nodes ballot set tally found = ap (λ found. unwrap_or found (nobody nodes)) (sym (lookup_by_key ballot tally) ∙ found)

-- and nobody, where it finds nothing
pub accepting_at-none : (nodes ballot : ℕ) (tally : Tally) → lookup (is_at (nat_cmp ballot)) tally ≡ None
    → accepting_at nodes ballot tally ≡ nobody nodes
accepting_at-none nodes ballot tally found = ap (λ found. unwrap_or found (nobody nodes)) (sym (lookup_by_key ballot tally) ∙ found)

length-accepting_at : (nodes ballot : ℕ) (tally : Tally) → All (λ set. length set ≡ nodes) (values_of tally) → length (accepting_at nodes ballot tally) ≡ nodes
length-accepting_at nodes ballot [] whole = length-replicate nodes false
length-accepting_at nodes ballot (e ∷ es) whole =
    by (e.0 == ballot) (All-head (λ set. length set ≡ nodes) e.1 (values_of es) whole) (length-accepting_at nodes ballot es (All-tail (λ set. length set ≡ nodes) e.1 (values_of es) whole))
  where
    by : (is_here : Bool) → length e.1 ≡ nodes → length (unwrap_or (lookup (λ b. b == ballot) es) (nobody nodes)) ≡ nodes → length (unwrap_or (cond is_here (Some e.1) (lookup (λ b. b == ballot) es)) (nobody nodes)) ≡ nodes
    by true here later = here
    by false here later = later

-- a set that is put is found
lookup-put : (ballot : ℕ) (set : Nodes) (tally : Tally) → lookup (is_at (nat_cmp ballot)) (insert_entry nat_cmp tally ballot set) ≡ Some set
lookup-put ballot set [] = grind arith
lookup-put ballot set (e ∷ es) = by (nat_cmp ballot e.0) refl (lookup-put ballot set es)
  where
    test : ℕ → Bool
    test = is_at (nat_cmp ballot)

    by : (order : Ordering) → nat_cmp ballot e.0 ≡ order → lookup test (insert_entry nat_cmp es ballot set) ≡ Some set
        → lookup test (match_ordering order ((ballot, set) ∷ e ∷ es) ((e.0, set) ∷ es) (e ∷ insert_entry nat_cmp es ballot set)) ≡ Some set
    by Less below later = grind arith
    by Equal same later = ap (λ order. cond (is_eq order) (Some set) (lookup test es)) same
    by Greater above later = ap (λ order. cond (is_eq order) (Some e.1) (lookup test (insert_entry nat_cmp es ballot set))) above ∙ later

-- a set that is written over the one found stands where one that is put does
set-put : (ballot : ℕ) (was set : Nodes) (tally : Tally) → IsStrictlySortedBy nat_cmp (keys_of tally)
    → lookup (is_at (nat_cmp ballot)) tally ≡ Some was → set_value (is_at (nat_cmp ballot)) tally set ≡ insert_entry nat_cmp tally ballot set
set-put ballot was set [] sorted found = absurd (cc)
set-put ballot was set (e ∷ es) sorted found =
    by (nat_cmp ballot e.0) refl found (set-put ballot was set es (sorted_tail nat_cmp e.0 (keys_of es) sorted))
  where
    test : ℕ → Bool
    test = is_at (nat_cmp ballot)

    by : (order : Ordering) → nat_cmp ballot e.0 ≡ order → cond (is_eq order) (Some e.1) (lookup test es) ≡ Some was
        → (lookup test es ≡ Some was → set_value test es set ≡ insert_entry nat_cmp es ballot set)
        → cond (is_eq order) ((e.0, set) ∷ es) (e ∷ set_value test es set)
        ≡ match_ordering order ((ballot, set) ∷ e ∷ es) ((e.0, set) ∷ es) (e ∷ insert_entry nat_cmp es ballot set)
    by Less below later more = let none = lookup-none test (e ∷ es) (none_below_head nat_cmp_total ballot e es sorted below) in absurd (cc)
    by Equal same here more = refl
    by Greater above later more = ap (λ rest. e ∷ rest) (more later)

module _ (nodes from ballot : ℕ) (tally : Tally) where
  -- who is marked is found
  pub accepting_at-marked : accepting_at nodes ballot (with_accepted nodes from ballot tally) ≡ with_node from (accepting_at nodes ballot tally)
  accepting_at-marked = accepting_at-found nodes ballot _ _ (lookup-put ballot (with_node from (accepting_at nodes ballot tally)) tally)

  pub length-marked : IsTally nodes tally → length (with_node from (accepting_at nodes ballot tally)) ≡ nodes
  length-marked kept = length-set (accepting_at nodes ballot tally) from true ∙ length-accepting_at nodes ballot tally kept.whole

  -- a set with one more node has a mark for each node too
  pub IsTally-marked : IsTally nodes tally → IsTally nodes (with_accepted nodes from ballot tally)
  IsTally-marked kept =
      let whole = All-values-insert_entry nat_cmp ballot _ (λ set. length set ≡ nodes) tally kept.whole (length-marked kept) in
      record { few = kept.few; whole = whole }

  -- the set that was found, with one more node, is written where it stands
  pub set-marked : (was set : Nodes) → IsStrictlySortedBy nat_cmp (keys_of tally) → lookup (is_at (nat_cmp ballot)) tally ≡ Some was
      → set ≡ with_node from was → set_value (is_at (nat_cmp ballot)) tally set ≡ with_accepted nodes from ballot tally
  set-marked was set sorted found is =
      let marked = is ∙ ap (with_node from) (sym (accepting_at-found nodes ballot was tally found)) in
      set-put ballot was set tally sorted found ∙ ap (insert_entry nat_cmp tally ballot) marked

pub length-one_of_nobody : (nodes from : ℕ) → length (with_node from (nobody nodes)) ≡ nodes
length-one_of_nobody nodes from = length-set (nobody nodes) from true ∙ length-replicate nodes false
