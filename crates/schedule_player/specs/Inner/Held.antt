-- What waits to be written, and the reply whose text is at hand.
use Rattle.std.specs.Prelude.{◌≡◌, ◌==◌, ℕ, if◌then◌else◌, Bool, true, false, List, [], ◌++◌, Option, Some, None, IfSome}
use Rattle.std.specs.Option.{option_map}
use Rattle.metering_model.specs.World.{World, Event, Snapshot, Reply, Journaled, Delivered, Started, Restarted, Exported, KeptText, Refused}
use Rattle.metering_model.specs.Step.{step}
use Rattle.metering_model.specs.Transcript.{reply_text}
use Rattle.group_core.specs.Headline.{IsExportOf}

-- an export's period, and what was told of the export
pub record ToldExport : Type 0 where
  pub period : ℕ
  pub text : List ℕ

-- what is at hand of an export's line and file, by its period
abbrev pub told : Option ℕ → List ℕ → List ℕ → Option ToldExport
told period line file = option_map (λ p. record { period = p; text = line ++ file }) period

-- the text that waits, and the export that is at hand
pub record Waiting : Type 0 where
  pub text : List ℕ
  pub held : Option ToldExport

-- what waits of a file: all, or nothing
abbrev pub waiting : Bool → List ℕ → List ℕ
waiting waits file = if waits then file else []

-- What is at hand was told of an export of this world.
abbrev pub IsHeldOf : World → Option ToldExport → Type 0
IsHeldOf w held = IfSome held (λ h. (s : Snapshot) × IsExportOf w s × (s.period ≡ h.period) × (reply_text (Exported s) ≡ h.text))

-- The world is that after an event, and what is at hand is of it.
pub record IsAfter (w : World) (event : Event) (v : World) (at_hand : Option ToldExport) : Type 0 where
  pub world : v ≡ (step w event).1
  pub held : IsHeldOf v at_hand

-- Where a reply is an export of the period that is at hand, what is at hand is its text.
abbrev pub FitsReply : Option ToldExport → Reply → Type 0
FitsReply held reply = (s : Snapshot) → reply ≡ Exported s → IfSome held (λ h. h.period ≡ s.period → h.text ≡ reply_text reply)

-- the period of an export, if a reply is one
abbrev pub exported_period : Reply → Option ℕ
exported_period (Journaled packet) = None
exported_period (Delivered sent learned) = None
exported_period (Started ballot packet) = None
exported_period Restarted = None
exported_period (Exported s) = Some s.period
exported_period (KeptText text) = None
exported_period (Refused why) = None

-- whether both are the same period
abbrev pub is_same_period : Option ℕ → Option ℕ → Bool
is_same_period None q = false
is_same_period (Some p) None = false
is_same_period (Some p) (Some q) = p == q

-- what is told of a reply, if it is an export
abbrev pub told_of : Reply → Option ToldExport
told_of reply = option_map (λ p. record { period = p; text = reply_text reply }) (exported_period reply)

-- whether a file or a kept text stands after the line of a reply
abbrev pub has_file : Reply → Bool
has_file (Journaled packet) = false
has_file (Delivered sent learned) = false
has_file (Started ballot packet) = false
has_file Restarted = false
has_file (Exported s) = true
has_file (KeptText text) = true
has_file (Refused why) = false

-- What is at hand after a reply: a file takes the place of the last one, and what has none leaves it.
abbrev pub held_with : Option ToldExport → Reply → Option ToldExport
held_with held reply = if has_file reply then told_of reply else held
