-- What is written of a schedule, as its readers know it.
use Rattle.std.specs.Prelude.{◌≡◌, ℕ, ◌<◌, ◌⊎◌, List, [], length, map, take, Option, Ok, IfSome}
use Rattle.metering_model.specs.World.{Reply, opening}
use Rattle.metering_model.specs.Step.{play}
use Rattle.metering_model.specs.Schedule.{Planned, event_of}
use Rattle.metering_model.specs.Transcript.{transcript}
use Rattle.schedule_reader.specs.Schedules.{ReadSchedule, schedule_in}
use Rattle.schedule_reader.specs.Forms.{IsRead}
use Rattle.transcript_laws.specs.Shown.{HoldsOfBytes}

-- what the group of a schedule replies to these of its events
abbrev pub replies_to : ReadSchedule → List Planned → List Reply
replies_to s events = (play (opening s.voters s.observers s.agents s.sheet s.issuer) (map event_of events)).0

-- The text is the transcript of so many first events of a schedule, perhaps none and not all, and nothing else, and what the
-- headline says of its bytes holds.
pub record IsTranscriptOfFirst (s : ReadSchedule) (done : ℕ) (text : List ℕ) : Type 0 where
  pub within : done < length s.events
  pub is_transcript : text ≡ transcript (replies_to s (take done s.events))
  pub headline : HoldsOfBytes s.voters s.observers s.agents s.sheet s.issuer (map event_of (take done s.events)) text

-- The text is the transcript of an input, which is all that a reader gives where its bytes are known. The input is the text of
-- a schedule in its form.
pub record IsTranscriptOf (known : Option (List ℕ)) (input text : List ℕ) : Type 0 where
  pub is_input : IfSome known (λ bytes. input ≡ bytes)
  pub schedule : ReadSchedule
  pub is_read : schedule_in input ≡ Ok schedule
  pub form : IsRead input schedule
  pub is_transcript : text ≡ transcript (replies_to schedule schedule.events)
  pub headline : HoldsOfBytes schedule.voters schedule.observers schedule.agents schedule.sheet schedule.issuer (map event_of schedule.events) text

-- The input is a schedule, and the text is the transcript of some first events of it, perhaps none and not all.
pub record IsTranscriptOfSome (input text : List ℕ) : Type 0 where
  pub schedule : ReadSchedule
  pub is_read : schedule_in input ≡ Ok schedule
  pub form : IsRead input schedule
  pub done : ℕ
  pub is_first : IsTranscriptOfFirst schedule done text

-- It is that, or empty: then the input need not be a schedule.
pub record IsPrefixOfTranscript (known : Option (List ℕ)) (input text : List ℕ) : Type 0 where
  pub is_input : IfSome known (λ bytes. input ≡ bytes)
  pub is_prefix : (text ≡ []) ⊎ IsTranscriptOfSome input text
