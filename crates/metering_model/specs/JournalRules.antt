-- What the journals accept.
use Rattle.std.specs.Prelude.{◌≡◌, ℕ, ◌+◌, Bool, false, not, ◌&&◌, ◌||◌, ◌==◌, nat_lt, if◌then◌else◌, List, [], ◌∷◌, length, Option, Some, None, ℤ, pos, int_le}
use Rattle.std.specs.List.{range_with_len}
use Rattle.std.specs.Option.{is_some}
pub use Rattle.metering_model.specs.declared.BrokenRule.{BrokenRule}
pub use Rattle.metering_model.specs.declared.BrokenRule.TheVariants.{BadTarget, Unpriced}
use Rattle.metering_model.specs.Batch.{Record, Reading, Reads, Amends, is_priced, is_empty}
use Rattle.metering_model.specs.BatchReading.{is_same}
use Rattle.metering_model.specs.Sheet.{Sheet, Commitment}
use Rattle.metering_model.specs.Holding.{Holding, IsHolding, sequences_of, Position, Placed, records_in_order, reading_at}
use Rattle.metering_model.specs.Row.{price_of, commitment_of, by_kind}

-- the sequence of an agent's next batch
abbrev pub next_seq : Holding → ℕ → ℕ
next_seq journals agent = length (sequences_of agent journals) + 1

abbrev pub comes_earlier : Position → ℕ → ℕ → Bool
comes_earlier at seq index = nat_lt seq at.seq || ((seq == at.seq) && nat_lt index at.index)

-- an amendment names a reading, and gives one of a priced kind no negative value
abbrev pub is_fit_target : ℤ → Option Reading → Bool
is_fit_target value None = false
is_fit_target value (Some r) = not (is_priced r.kind) || int_le (pos 0) value

-- The commitment that a reading names is on the sheet. Usage is of its SKU, and a purchase of the SKU that buys it.
abbrev pub is_fit_commitment : Reading → Option Commitment → Bool
is_fit_commitment r None = is_empty r.commitment
is_fit_commitment r (Some c) = is_same r.key (by_kind r.kind c.sku c.buy [])

-- a reading of a priced kind has a price in force, and a fit commitment
abbrev pub is_fit_reading : Sheet → Reading → Bool
is_fit_reading sheet r = not (is_priced r.kind) || (is_some (price_of sheet r) && is_fit_commitment r (commitment_of sheet r))

-- the rule that a record at a place breaks, in the journals that have it
abbrev pub broken_by : Sheet → Holding → Position → Record → Option BrokenRule
broken_by sheet h at (Reads r) = if is_fit_reading sheet r then None else Some Unpriced
broken_by sheet h at (Amends seq index value) =
    if comes_earlier at seq index && is_fit_target value (reading_at h (record { agent = at.agent; seq = seq; index = index }))
    then None
    else Some BadTarget

-- the rule that the first of these records breaks, if one does
abbrev pub first_broken : Sheet → Holding → List Placed → Option BrokenRule
first_broken sheet h [] = None
first_broken sheet h (x ∷ xs) = elim (broken_by sheet h x.place x.what) [ Some rule ↦ Some rule | None ↦ first_broken sheet h xs ]

-- An agent's sequences count from 1 without a gap, and no record breaks a rule.
pub record MeetsJournalRules (sheet : Sheet) (h : Holding) : Type 0 where
  pub is_holding : IsHolding h
  pub no_gap : (agent : ℕ) → sequences_of agent h ≡ range_with_len 1 (length (sequences_of agent h))
  pub none_broken : first_broken sheet h (records_in_order h) ≡ None
