-- A shelf, which has the batches of one agent, and the shelves of a store.
use Rattle.std.specs.Prelude.{◌≡◌, ℕ, ◌+◌, ◌≤◌, ◌==◌, nat_le, List, [], ◌∷◌, ◌++◌, length, map, find, filter, Option}
use Rattle.std.specs.List.{flat_map, AllByRecursion}
use Rattle.std.specs.declared.sync.Arc.{Arc}
use Rattle.std.specs.declared.alloc.Global.{Global}
use Rattle.std.specs.Arc.{arc_value}
use Rattle.metering_model.specs.Batch.{Batch}
use Rattle.metering_model.specs.Holding.{Holding}
use Rattle.metering_model.specs.Limits.{last_sequence}
use Rattle.batch_view.specs.Batches.{batch_of}
use Rattle.batch_store.specs.Stores.{Stored, IsStored}

-- a shared batch, by its bytes
abbrev pub Shared : Type 0
Shared = Arc (List ℕ) Global

abbrev pub batch_shared : Shared → Batch
batch_shared a = batch_of (arc_value a)

abbrev pub batches_shared : List Shared → Holding
batches_shared bs = map batch_shared bs

-- a batch under its sequence
abbrev pub Filed : Type 0
Filed = ℕ × Shared

abbrev pub batches_filed : List Filed → Holding
batches_filed es = map (λ e. batch_shared e.1) es

-- what is filed, by the bytes of the batches
abbrev pub contents : List Filed → List (ℕ × List ℕ)
contents es = map (λ e. (e.0, arc_value e.1)) es

-- what is filed up to a sequence
abbrev pub filed_up_to : ℕ → List Filed → List Filed
filed_up_to last es = filter (λ e. nat_le e.0 last) es

-- the batch of one agent at a sequence
abbrev pub at_seq : Holding → ℕ → Option Batch
at_seq h seq = find (λ b. b.seq == seq) h

-- the batches of one agent from a sequence on
abbrev pub from_seq : ℕ → Holding → Holding
from_seq first h = filter (λ b. nat_le first b.seq) h

-- the batches of one agent up to a sequence
abbrev pub up_to_seq : ℕ → Holding → Holding
up_to_seq last h = filter (λ b. nat_le b.seq last) h

-- the sequences count from n on, without a gap
abbrev pub AreCounted : ℕ → Holding → Type 0
AreCounted n [] = Unit {0}
AreCounted n (b ∷ h) = (b.seq ≡ n) × AreCounted (n + 1) h

-- the sequences rise from n on
abbrev pub Rises : ℕ → Holding → Type 0
Rises n [] = Unit {0}
Rises n (b ∷ h) = (n ≤ b.seq) × Rises (b.seq + 1) h

-- each is filed under its sequence, and these rise from n on, up to 1,000,000
abbrev pub AreFiled : ℕ → List Filed → Type 0
AreFiled n [] = Unit {0}
AreFiled n (e ∷ es) = (n ≤ e.0) × (e.0 ≤ last_sequence) × ((batch_shared e.1).seq ≡ e.0) × AreFiled (e.0 + 1) es

-- those without a gap, and then those ahead of it
abbrev pub on_shelf : List Shared → List Filed → Holding
on_shelf whole ahead = batches_shared whole ++ batches_filed ahead

-- first the batches from sequence 1 on without a gap, and then later ones under their sequences
pub record IsShelf (whole : List Shared) (ahead : List Filed) : Type 0 where
  pub counted : AreCounted 1 (batches_shared whole)
  pub short : length whole ≤ last_sequence
  pub filed : AreFiled (length whole + 1) ahead

-- all batches are of one agent
abbrev pub AreOf : ℕ → Holding → Type 0
AreOf agent h = AllByRecursion (λ b. b.agent ≡ agent) h

-- each shelf has batches of its own agent, the first those of agent k
abbrev pub AreShelves : ℕ → List Holding → Type 0
AreShelves k [] = Unit {0}
AreShelves k (x ∷ xs) = AreOf k x × AreShelves (k + 1) xs

-- what is on all the shelves
abbrev pub on_shelves : List Holding → Holding
on_shelves xs = flat_map (λ x. x) xs

-- the store that shelves make
abbrev pub stored_on : List Holding → Stored
stored_on xs = record { agents = length xs; batches = on_shelves xs }

-- the shelves of 1 to 64 agents, which have a holding together
pub record IsStore (xs : List Holding) : Type 0 where
  pub of_agents : AreShelves 1 xs
  pub is_stored : IsStored (stored_on xs)

-- what is on the shelves, of the first of them from a sequence on
abbrev pub left_from : ℕ → List Holding → Holding
left_from seq [] = []
left_from seq (x ∷ xs) = from_seq seq x ++ on_shelves xs
