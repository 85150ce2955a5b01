-- What a reading is worth as of a sequence of its agent.
use Rattle.std.specs.Prelude.{ℕ, ◌&&◌, ◌==◌, nat_lt, nat_le, if◌then◌else◌, List, filter, Option, Some, None, ℤ, pos, unwrap_or}
use Rattle.std.specs.List.{filter_map, last_or}
use Rattle.metering_model.specs.Batch.{Record, Reads, Amends}
use Rattle.metering_model.specs.Holding.{Holding, Position, Placed, records_in_order, is_same_place}

-- the value that a record gives to the reading at a place, where it is that reading or amends it
abbrev pub value_given : Position → Position → Record → Option ℤ
value_given p at (Reads r) = if is_same_place p at then Some r.value else None
value_given p at (Amends seq index v) = if is_same_place p (record { agent = at.agent; seq = seq; index = index }) then Some v else None

abbrev pub value_given_by : Position → Placed → Option ℤ
value_given_by p x = value_given p x.place x.what

-- the records of one agent up to a sequence
abbrev pub journal_until : Holding → ℕ → ℕ → List Placed
journal_until h agent upto = filter (λ x. (x.place.agent == agent) && nat_le x.place.seq upto) (records_in_order h)

-- the value that the last record up to the sequence gives it; 0 before the reading's own sequence
abbrev pub value_at : Holding → Position → ℕ → ℤ
value_at h p upto =
    if nat_lt upto p.seq then pos 0
    else unwrap_or (last_or None (filter_map (value_given_by p) (journal_until h p.agent upto))) (pos 0)
