-- Holdings: which batches a node or the journals have, and the order of their records.
use Rattle.std.specs.Prelude.{◌≡◌, ◌≤◌, ℕ, Bool, true, ◌&&◌, ◌||◌, ◌==◌, nat_lt, nat_le, if◌then◌else◌, List, [], ◌∷◌, map, find, filter, All, IsTrue, Option, Some, None, slice_get}
use Rattle.std.specs.List.{flat_map, enumerate_from}
use Rattle.std.specs.Option.{option_and_then}
use Rattle.metering_model.specs.Batch.{Batch, IsWellFormed, Record, Reading, Reads, Amends}
use Rattle.metering_model.specs.Cut.{Cut, last_of}

-- A map from agent and sequence to batches, as the list of the batches that it has.
abbrev pub Holding : Type 0
Holding = List Batch

-- by agent, then by sequence
abbrev pub comes_before : Batch → Batch → Bool
comes_before b c = nat_lt b.agent c.agent || ((b.agent == c.agent) && nat_lt b.seq c.seq)

abbrev pub is_in_order : Holding → Bool
is_in_order [] = true
is_in_order (b ∷ []) = true
is_in_order (b ∷ c ∷ h) = comes_before b c && is_in_order (c ∷ h)

-- Each batch comes before the next, so no agent has two of one sequence; and each is one that a text may be.
pub record IsHolding (h : Holding) : Type 0 where
  pub in_order : IsTrue (is_in_order h)
  pub batches : All IsWellFormed h

abbrev pub is_batch_at : ℕ → ℕ → Batch → Bool
is_batch_at agent seq b = (b.agent == agent) && (b.seq == seq)

abbrev pub held : Holding → ℕ → ℕ → Option Batch
held h agent seq = find (is_batch_at agent seq) h

abbrev pub sequences_of : ℕ → Holding → List ℕ
sequences_of agent h = map (λ b. b.seq) (filter (λ b. b.agent == agent) h)

-- the holding with the batch too, or as it is where it has one of that agent and sequence
abbrev pub put : Holding → Batch → Holding
put [] b = b ∷ []
put (c ∷ h) b = if comes_before b c then b ∷ c ∷ h else (if comes_before c b then c ∷ put h b else c ∷ h)

-- the batches up to a cut
abbrev pub up_to : Cut → Holding → Holding
up_to cut h = filter (λ b. nat_le b.seq (last_of cut b.agent)) h

-- The two have the same batches up to a cut.
pub record AgreeUpTo (cut : Cut) (h k : Holding) : Type 0 where
  pub same : (agent seq : ℕ) → seq ≤ last_of cut agent → held h agent seq ≡ held k agent seq

-- The one has no batch that the other lacks.
pub record IsPartOf (part whole : Holding) : Type 0 where
  pub had : (agent seq : ℕ) (b : Batch) → held part agent seq ≡ Some b → held whole agent seq ≡ Some b

-- The one has each batch of the other up to a cut.
pub record LacksNothingUpTo (cut : Cut) (part whole : Holding) : Type 0 where
  pub had : (agent seq : ℕ) (b : Batch) → seq ≤ last_of cut agent → held whole agent seq ≡ Some b → held part agent seq ≡ Some b

-- where a record stands; indexes count from 0, amendments too
pub record Position : Type 0 where
  pub agent : ℕ
  pub seq : ℕ
  pub index : ℕ

pub record Placed : Type 0 where
  pub place : Position
  pub what : Record

abbrev pub placed : Batch → List Placed
placed b = map (λ e. record { place = record { agent = b.agent; seq = b.seq; index = e.0 }; what = e.1 }) (enumerate_from 0 b.records)

-- the records by agent, then by sequence, then by index
abbrev pub records_in_order : Holding → List Placed
records_in_order h = flat_map placed h

abbrev pub is_same_place : Position → Position → Bool
is_same_place p q = (p.agent == q.agent) && (p.seq == q.seq) && (p.index == q.index)

abbrev pub reading_of : Record → Option Reading
reading_of (Reads r) = Some r
reading_of (Amends seq index value) = None

abbrev pub reading_at : Holding → Position → Option Reading
reading_at h p = option_and_then (λ b. option_and_then reading_of (slice_get b.records p.index)) (held h p.agent p.seq)
