-- What the voters of a group do, done by a group that has no observers.
use Rattle.std.specs.Prelude.{◌≡◌, ◌↔◌, ◌⊎◌, ℕ, Bool, true, false, not, ◌&&◌, List, [], ◌∷◌, None, All}
use Rattle.std.specs.List.{filter, zip}
use Rattle.std.specs.Option.{option_map}
use Rattle.metering_model.specs.Cut.{Cut}
use Rattle.metering_model.specs.Chosen.{IsChosen}
use Rattle.metering_model.specs.declared.Refusal.TheVariants.{WorldFull}
use Rattle.metering_model.specs.World.{World, Event, Deliver, Reply, Journaled, Delivered, Started, Refused}
use Rattle.metering_model.specs.Step.{play}
use Rattle.group_laws.specs.Observers.{is_beyond, IsFollowed}

-- an event with its answer
abbrev pub Answered : Type 0
Answered = Event × Reply

abbrev pub is_full : Reply → Bool
is_full (Refused WorldFull) = true
is_full _ = false

-- It is at a voter, or a batch of an agent, and was not refused for a full world.
abbrev pub is_of_voters : ℕ → Answered → Bool
is_of_voters voters a = not (is_beyond voters a.0) && not (is_full a.1)

-- an event and an answer without the numbers of packets, which are other ones where observers sent none
abbrev pub unnumbered_event : Event → Event
unnumbered_event (Deliver packet node) = Deliver 0 node
unnumbered_event e = e

abbrev pub unnumbered : Reply → Reply
unnumbered (Journaled packet) = Journaled 0
unnumbered (Delivered sent learned) = Delivered (option_map (λ _. 0) sent) learned
unnumbered (Started ballot packet) = Started ballot 0
unnumbered r = r

-- the same event with the same answer, but for packets' numbers
abbrev pub IsLike : Answered → Answered → Type 0
IsLike a b = (unnumbered_event a.0 ≡ unnumbered_event b.0) × (unnumbered a.1 ≡ unnumbered b.1)

-- The second list has the like of each entry of the first, in order. What it has besides are deliveries by which nothing is
-- sent and nothing learned.
abbrev pub AreAmong : List Answered → List Answered → Type 0
AreAmong [] [] = Unit {0}
AreAmong (a ∷ xs) [] = ⊥
AreAmong [] (b ∷ ys) = (b.1 ≡ Delivered None None) × AreAmong [] ys
AreAmong (a ∷ xs) (b ∷ ys) = (IsLike a b × AreAmong xs ys) ⊎ ((b.1 ≡ Delivered None None) × AreAmong (a ∷ xs) ys)

-- There are other events, none at an observer, that lead from the second world to where the first one's voters are led: with
-- the same chosen cuts and, but for what a full world refused, the same answers.
pub record CanBeDoneAlone (voters : ℕ) (events : List Event) (begun alone : World) : Type 0 where
  pub others : List Event
  pub at_voters : All (λ e. is_beyond voters e ≡ false) others
  pub follows : IsFollowed voters (play begun events).1 (play alone others).1
  pub chosen : (period : ℕ) (cut : Cut) → IsChosen (play begun events).1 period cut ↔ IsChosen (play alone others).1 period cut
  pub answers : AreAmong (filter (is_of_voters voters) (zip events (play begun events).0)) (zip others (play alone others).0)
