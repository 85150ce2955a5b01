-- What an agent's records up to a sequence give a reading.
use Rattle.std.specs.Prelude.{ℕ, Option, None, ℤ}
use Rattle.std.specs.List.{filter_map, last_or}
use Rattle.metering_model.specs.Holding.{Holding, Position}
use Rattle.metering_model.specs.ValueAtSequence.{value_given_by, journal_until}

-- the value that an agent's last record up to the sequence gives the reading, where one does
abbrev pub last_given : Holding → Position → ℕ → Option ℤ
last_given h p upto = last_or None (filter_map (value_given_by p) (journal_until h p.agent upto))

-- the place of the record at an index of an agent's batch
abbrev pub at_index : ℕ → ℕ → ℕ → Position
at_index agent seq k = record { agent = agent; seq = seq; index = k }
