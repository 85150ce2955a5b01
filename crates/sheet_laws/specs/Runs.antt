-- A run under another sheet: replies and worlds that differ in the sheet alone.
use Rattle.std.specs.Prelude.{◌≡◌, ◌≢◌, Bool, true, false, not, if◌then◌else◌, List, [], ◌∷◌, All, filter}
use Rattle.metering_model.specs.Batch.{Reading}
use Rattle.metering_model.specs.Sheet.{Sheet}
use Rattle.metering_model.specs.JournalRules.{is_fit_reading}
use Rattle.metering_model.specs.declared.Refusal.TheVariants.{Unpriced}
use Rattle.metering_model.specs.World.{World, Event, Reply, Exported, Refused}

-- A reply with that sheet in place of its own. Only an export has one.
abbrev pub under_sheet : Sheet → Reply → Reply
under_sheet sheet (Exported s) = Exported (record s { sheet = sheet })
under_sheet sheet r = r

abbrev pub world_under : Sheet → World → World
world_under sheet w = record w { sheet = sheet }

-- no batch was refused because a reading had no price or no fit commitment
abbrev pub AreAllPriced : List Reply → Type 0
AreAllPriced replies = All (λ r. r ≢ Refused Unpriced) replies

-- whatever reading the old sheet has a price and a fit commitment for, the new one has them for
abbrev pub PricesAllOf : Sheet → Sheet → Type 0
PricesAllOf old new = (r : Reading) → is_fit_reading old r ≡ true → is_fit_reading new r ≡ true

-- ---- the run again, without what was refused so

abbrev pub is_unpriced : Reply → Bool
is_unpriced (Refused Unpriced) = true
is_unpriced _ = false

abbrev pub replies_kept : List Reply → List Reply
replies_kept replies = filter (λ r. not (is_unpriced r)) replies

-- the events but for those that were answered so, where each reply is that to the event at its place
abbrev pub events_kept : List Event → List Reply → List Event
events_kept (e ∷ es) (r ∷ rs) = if is_unpriced r then events_kept es rs else e ∷ events_kept es rs
events_kept (e ∷ es) [] = []
events_kept [] rs = []
