-- Sheets that are not longer, each in one way, and events of which one sheet refuses one for a price.
use Rattle.std.proofs.Common.{◌≡◌, ℕ, List, [], ◌∷◌, Option, Some, option_map, codes, Bool, true, false}
use Rattle.std.specs.Prelude.{slice_get}
use Rattle.std.proofs.lemmas.Option.{same_Some}
use Rattle.metering_model.specs.Sheet.{Sheet, Issuer}
use Rattle.metering_model.specs.World.{Event, Journal, Deliver, Start, Export, Reply, offer_of, opening}
use Rattle.metering_model.specs.Step.{play}
use Rattle.metering_model.specs.Schedule.{TextLines, lines_text}
use Rattle.metering_model.proofs.Samples.{cpu, ops, cpu_plan, cm_1, europe}
use Rattle.sheet_laws.specs.Runs.{is_unpriced}
use Rattle.sheet_laws.proofs.TwoSheets.{old_sheet, new_sheet}

abbrev pub replies : ℕ → Sheet → Issuer → List Event → List Reply
replies agents sheet issuer events = (play (opening 1 0 agents sheet issuer) events).0

-- ---- sheets that are not longer, each in one way

-- of December: January is its second month
abbrev pub of_another_base : Sheet
of_another_base = record old_sheet { base = 24_299 }

abbrev pub with_another_price : Sheet
with_another_price = record old_sheet { prices = record cpu { contracted = 90_000 } ∷ ops ∷ cpu_plan ∷ [] }

abbrev pub with_another_rate : Sheet
with_another_rate = record old_sheet { commitments = record cm_1 { rate = 60_000 } ∷ [] }

abbrev pub with_another_name : Sheet
with_another_name = record old_sheet { regions = record europe { name = codes "Europe One" } ∷ [] }

-- this one is longer, and names no other regions
abbrev pub longer_sheet : Sheet
longer_sheet = record new_sheet { regions = europe ∷ [] }

-- ---- refusals

-- usage of a commitment that only the new sheet has, and the same batch again, without it
abbrev pub of_cm_2 : TextLines
of_cm_2 = codes "B1|1|1|1" ∷ codes "U|2025-01-11T01:00:00Z|2025-01-11T02:00:00Z|acc-7|vm-1|cpu|3600|cm-2|" ∷ []

abbrev pub of_none : TextLines
of_none = codes "B1|1|1|1" ∷ codes "U|2025-01-11T01:00:00Z|2025-01-11T02:00:00Z|acc-7|vm-1|cpu|3600||" ∷ []

abbrev pub journaled_again : List Event
journaled_again =
    Journal (offer_of (lines_text of_cm_2)) ∷ Journal (offer_of (lines_text of_none)) ∷ Deliver 0 0 ∷ Start 0 ∷ Deliver 1 0 ∷ Deliver 2 0 ∷
    Deliver 3 0 ∷ Deliver 4 0 ∷ Export 0 0 ∷ []

-- usage of May, of what only the old sheet prices: where it is refused, each later packet has another number
abbrev pub of_may : TextLines
of_may = codes "B1|2|1|1" ∷ codes "U|2025-05-02T00:00:00Z|2025-05-02T01:00:00Z|acc-7|vm-2|gpu|3600||" ∷ []

abbrev pub numbered_anew : List Event
numbered_anew =
    Journal (offer_of (lines_text of_may)) ∷ Journal (offer_of (lines_text of_none)) ∷ Deliver 1 0 ∷ Start 0 ∷ Deliver 1 0 ∷ Deliver 2 0 ∷
    Deliver 3 0 ∷ Deliver 4 0 ∷ Deliver 5 0 ∷ Export 0 0 ∷ []

abbrev pub first_is_unpriced : List Reply → Option Bool
first_is_unpriced rs = option_map is_unpriced (slice_get rs 0)

pub differ : Some true ≡ Some false → ⊥
differ e = let same = same_Some true false e in absurd (cc)
