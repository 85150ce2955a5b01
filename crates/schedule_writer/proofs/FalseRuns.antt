-- Events that are not what is planned.
use Rattle.std.proofs.Common.{◌≡◌, [], ◌∷◌, None, Some, refl, codes}
use Rattle.metering_model.specs.Schedule.{PlansDelivery, PlansExport, PlansJournal, PlansKeep, PlansRestart, PlansStart}
use Rattle.metering_model.specs.World.{Delivered, Exported, Journaled, KeptText, Refused, Restarted, Snapshot, Started}
use Rattle.metering_model.specs.declared.Refusal.TheVariants.{NoPacket}
use Rattle.schedule_writer.specs.declared.plans.Seen.{Seen}
use Rattle.schedule_writer.specs.Inner.Plans.{Plan, behind, nothing_seen}

-- two nodes show the files of periods 0 and 1; one batch stands above the line that closes period 0, and one below it
abbrev plan : Plan
plan = record { nodes = 2; last = 1; base = 24_300; batches = codes "a" ∷ codes "b" ∷ []; closes = 1 ∷ [] }

abbrev first_journaled : Seen
first_journaled = record { journaled = 1; ballots = 1; node = 0; period = 0 }

module _ (s : Snapshot) where
  -- a file is shown before the batch that stands above
  too_early : behind plan nothing_seen [] (Exported s) (PlansExport 0 0) ≡ None
  too_early = refl

  -- it is shown behind a batch that stands below
  too_late : behind plan (record first_journaled { journaled = 2 }) [] (Exported s) (PlansExport 0 0) ≡ None
  too_late = refl

  -- the other node comes first
  not_its_turn : behind plan first_journaled [] (Exported s) (PlansExport 1 0) ≡ None
  not_its_turn = refl

  -- a period is left out
  next_period : behind plan first_journaled [] (Exported s) (PlansExport 0 1) ≡ None
  next_period = refl

  -- a node shows its file again
  shown_again : behind plan (record first_journaled { node = 1 }) [] (Exported s) (PlansExport 0 0) ≡ None
  shown_again = refl

  -- a month too many is shown
  one_too_many : behind plan (record { journaled = 2; ballots = 2; node = 0; period = 2 }) [] (Exported s) (PlansExport 0 2) ≡ None
  one_too_many = refl

-- a batch is journaled again, or before its turn
again : behind plan first_journaled [] (Journaled 1) (PlansJournal (codes "a" ∷ [])) ≡ None
again = refl

before_its_turn : behind plan nothing_seen [] (Journaled 0) (PlansJournal (codes "b" ∷ [])) ≡ None
before_its_turn = refl

-- an event is refused
refused : behind plan first_journaled [] (Refused NoPacket) (PlansExport 0 0) ≡ None
refused = refl

-- a month is closed before the batch that stands above, or behind one that stands below
learned_too_early : behind plan nothing_seen [] (Delivered None (Some 0)) (PlansDelivery 9 0) ≡ None
learned_too_early = refl

learned_too_late : behind plan (record first_journaled { journaled = 2 }) [] (Delivered None (Some 0)) (PlansDelivery 9 0) ≡ None
learned_too_late = refl

-- a month too many is learned, or a ballot begins for it
learned_too_many : behind plan first_journaled [] (Delivered None (Some 2)) (PlansDelivery 9 0) ≡ None
learned_too_many = refl

begins_too_many : behind plan (record first_journaled { ballots = 2 }) [] (Started 3 9) (PlansStart 0) ≡ None
begins_too_many = refl

-- a node restarts, or is asked for what it keeps
restarts : behind plan first_journaled [] Restarted (PlansRestart 0) ≡ None
restarts = refl

keeps : behind plan first_journaled [] (KeptText []) (PlansKeep 0) ≡ None
keeps = refl
