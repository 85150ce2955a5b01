-- What is said of an input: a line for each thing that is wrong with it, which names the line of the input; nothing where nothing is.
use Rattle.std.specs.Prelude.{ℕ, zero, suc, ◌+◌, ◌-◌, ◌<◌, ◌≤◌, if◌then◌else◌, List, [], ◌∷◌, ◌++◌, length, take, Some, Result, Ok, Err, true, ◌≡◌, slice_get}
use Rattle.std.specs.List.{list_all}
use Rattle.metering_model.specs.Batch.{Batch, batch_text, is_empty, lacks}
use Rattle.metering_model.specs.Limits.{most_input_bytes}
use Rattle.metering_model.specs.declared.BrokenRule.{BrokenRule}
use Rattle.metering_model.specs.declared.BrokenRule.TheVariants as rule
use Rattle.metering_model.specs.declared.Refusal.{Refusal}
use Rattle.metering_model.specs.declared.Refusal.TheVariants as refusal
use Rattle.metering_model.specs.Schedule.{AreLines, Planned, PlansDelivery, PlansExport, PlansJournal, PlansKeep, PlansRestart, PlansRevival, PlansStart, Schedule, TextLines, event_of, lines_text, schedule_text, section_text}
use Rattle.metering_model.specs.Sheet as model
use Rattle.metering_model.specs.Step.{step}
use Rattle.metering_model.specs.Transcript.{line_count}
use Rattle.metering_model.specs.World.{World, Journal, Reply, Journaled, Refused as IsRefused, next_packet, offer_of, opening}
use Rattle.input_sections.specs.declared.faults.ScheduleCode.{ScheduleCode}
use Rattle.input_sections.specs.declared.faults.ScheduleFault.{ScheduleFault}
use Rattle.input_sections.specs.declared.faults.ScheduleFault.TheVariants as section
use Rattle.input_sections.specs.Sections.{Unread, left}
use Rattle.input_sections.specs.RateInput.{rate_input_in}
use Rattle.schedule_reader.specs.Schedules.{Preamble, ReadSchedule, event_in, events_in, preamble_in}
use Rattle.schedule_player.specs.Transcripts.{replies_to}
use Rattle.schedule_player.specs.declared.PlayFault.{PlayFault}
use Rattle.schedule_player.specs.declared.PlayFault.TheVariants as play
use Rattle.metering_model.specs.RatedAlone.{journaled_in}
use Rattle.answer_words.specs.Words.{section_code_text}
use Rattle.fault_lines.specs.Told.{bad_index, reason, said_of_fault, said_of_text, told_at, told_of_text, words_of}
use Rattle.input_check.specs.declared.kinds.InputKind.{InputKind}
use Rattle.input_check.specs.declared.kinds.InputKind.TheVariants as kind

-- ---- the events of a schedule

-- the line of a revival's text that it tells; none where it is not told of that text
abbrev pub line_of_kept : Refusal → ℕ
line_of_kept (refusal.BadKept fault) = fault.line
line_of_kept other = 0

-- of an event of a world that is refused, and begins on a line
abbrev pub said_of_refused : ℕ → World → Planned → Refusal → List ℕ
said_of_refused n w (PlansJournal ls) why = told_of_text n w.sheet (lines_text ls) (bad_index w.sheet w.journals (lines_text ls)) why
said_of_refused n w (PlansRevival i ls) why = told_at (n + line_of_kept why) (words_of why)
said_of_refused n w (PlansDelivery k i) why = told_at n (words_of why)
said_of_refused n w (PlansStart i) why = told_at n (words_of why)
said_of_refused n w (PlansRestart i) why = told_at n (words_of why)
said_of_refused n w (PlansExport i p) why = told_at n (words_of why)
said_of_refused n w (PlansKeep i) why = told_at n (words_of why)

-- of a reply: why its event is refused, where it is
abbrev pub said_of_reply : ℕ → World → Planned → Reply → List ℕ
said_of_reply n w e (IsRefused why) = said_of_refused n w e why
said_of_reply n w e reply = []

-- of the events that are left, played from a world on
unfoldable pub said_of_events : ℕ → World → Unread → List ℕ
said_of_events zero w u = []
said_of_events (suc most) w u =
    if is_empty (left u) then []
    else elim (event_in u) [ Ok e ↦ said_of_reply u.line w e.0 (step w (event_of e.0)).0 ++ said_of_events most (step w (event_of e.0)).1 e.1 | Err fault ↦ [] ]

-- Where the events are some, each that is refused; else the first fault.
abbrev pub said_behind : List ℕ → Preamble → Result (List Planned) ScheduleFault → List ℕ
said_behind text p (Ok events) = said_of_events (length text) (opening p.voters p.observers p.agents p.sheet p.issuer) p.rest
said_behind text p (Err fault) = said_of_fault text fault

abbrev pub said_below : List ℕ → Result Preamble ScheduleFault → List ℕ
said_below text (Ok p) = said_behind text p (events_in (length text) p.rest)
said_below text (Err fault) = said_of_fault text fault

unfoldable pub said_of_schedule : List ℕ → List ℕ
said_of_schedule text = said_below text (preamble_in text)

-- ---- the batch that is to be rated

-- what a batch that breaks a rule of the journals is refused for
abbrev pub refused_by : BrokenRule → Refusal
refused_by rule.BadTarget = refusal.BadTarget
refused_by rule.Unpriced = refusal.Unpriced

-- the batch with so many of its records, the others behind them being none of it
abbrev pub first_records : ℕ → Batch → Batch
first_records n b = record b { records = take n b.records }

-- The batch is refused for the record on that line, counted in its text: of the records above it alone it is taken, and with
-- that one below them refused so.
pub record IsFirstRefused (sheet : model.Sheet) (issuer : model.Issuer) (b : Batch) (why : Refusal) (line : ℕ) : Type 0 where
  pub index : ℕ
  pub within : index < length b.records
  pub counted : line ≡ 1 + line_count (batch_text (first_records index b))
  pub taken : journaled_in sheet issuer (batch_text (first_records index b)) ≡ Ok (first_records index b)
  pub refused : journaled_in sheet issuer (batch_text (first_records (index + 1) b)) ≡ Err why

-- What a world replies to a batch of which all is well, by whether it has room for one more packet.
abbrev pub reply_with_room : Result ℕ Refusal → Reply
reply_with_room (Ok k) = Journaled k
reply_with_room (Err why) = IsRefused why

-- In that world the batch is refused for the record on that line, counted in its text: of the records above it alone it is
-- journaled, unless the world is full, and with that one below them it is refused so.
pub record IsFirstRefusedIn (w : World) (b : Batch) (why : Refusal) (line : ℕ) : Type 0 where
  pub index : ℕ
  pub within : index < length b.records
  pub counted : line ≡ 1 + line_count (batch_text (first_records index b))
  pub taken : (step w (Journal (offer_of (batch_text (first_records index b))))).0 ≡ reply_with_room (next_packet w)
  pub refused : (step w (Journal (offer_of (batch_text (first_records (index + 1) b))))).0 ≡ IsRefused why

-- of a batch behind so many lines
abbrev pub said_of_journaled : {A : Type 0} → model.Sheet → ℕ → List ℕ → Result A Refusal → List ℕ
said_of_journaled sheet lines text (Ok b) = []
said_of_journaled sheet lines text (Err why) = told_of_text lines sheet text (bad_index sheet [] text) why

unfoldable pub said_of_batch : model.Sheet → model.Issuer → ℕ → List ℕ → List ℕ
said_of_batch sheet issuer lines text = said_of_journaled sheet lines text (journaled_in sheet issuer text)

unfoldable pub said_of_rating : List ℕ → List ℕ
said_of_rating text =
    elim (rate_input_in text) [
      | Ok given ↦ said_of_batch given.sheet given.issuer (line_count (take (length text - length given.batch) text)) given.batch
      | Err fault ↦ said_of_fault text fault
    ]

-- ---- beside what is refused

-- of replies to events of a world that begin on these lines, each that refuses
abbrev pub said_of_replies : List ℕ → World → List Planned → List Reply → List ℕ
said_of_replies [] w events replies = []
said_of_replies (n ∷ ns) w [] replies = []
said_of_replies (n ∷ ns) w (e ∷ es) [] = []
said_of_replies (n ∷ ns) w (e ∷ es) (r ∷ rs) = said_of_reply n w e r ++ said_of_replies ns (step w (event_of e)).1 es rs

-- why the batch of a text that is to be rated is refused, with its line of the text
unfoldable pub said_of_refusal : List ℕ → Refusal → List ℕ
said_of_refusal text why =
    elim (rate_input_in text) [
      | Ok given ↦ told_of_text (line_count (take (length text - length given.batch) text)) given.sheet given.batch (bad_index given.sheet [] given.batch) why
      | Err fault ↦ []
    ]

-- on which line each of the events that are left begins
unfoldable pub lines_of_events : ℕ → Unread → List ℕ
lines_of_events zero u = []
lines_of_events (suc most) u =
    if is_empty (left u) then []
    else elim (event_in u) [ Ok e ↦ u.line ∷ lines_of_events most e.1 | Err fault ↦ [] ]

unfoldable pub event_lines : List ℕ → List ℕ
event_lines text = elim (preamble_in text) [ Ok p ↦ lines_of_events (length text) p.rest | Err fault ↦ [] ]

-- Each event of the schedule begins on its line: one more than the line feeds of what stands above it, which is the text of the
-- schedule with the events before it alone.
abbrev pub BeginsWhereCounted : Schedule → List ℕ → Type 0
BeginsWhereCounted s lines = (k : ℕ) → k < length s.events → slice_get lines k ≡ Some (1 + line_count (schedule_text (record s { events = take k s.events })))

-- Where `rate` gives a file nothing is said, else just why it refuses, with its line of the input.
abbrev pub SaysWhatIsRated : List ℕ → Result (List ℕ) PlayFault → List ℕ → Type 0
SaysWhatIsRated text (Ok file) said = said ≡ []
SaysWhatIsRated text (Err (play.Refused why)) said = said ≡ said_of_refusal text why
SaysWhatIsRated text (Err (play.Schedule (section.Refused code n))) said = said ≡ told_at n (section_code_text code ++ reason text code n)
SaysWhatIsRated text (Err (play.Schedule section.OutOfMemory)) said = ⊥
SaysWhatIsRated text (Err play.Read) said = ⊥
SaysWhatIsRated text (Err play.Write) said = ⊥
SaysWhatIsRated text (Err play.OutOfMemory) said = ⊥

-- Where the text is a schedule, just which of its group's replies refuse is said, each by the line of its event, or by one below it
-- where the fault is of a line of the text that the event hands in; else its first fault.
abbrev pub SaysWhatIsPlayed : List ℕ → Result ReadSchedule ScheduleFault → List ℕ → Type 0
SaysWhatIsPlayed text (Ok s) said =
    (length (event_lines text) ≡ length s.events)
    × (said ≡ said_of_replies (event_lines text) (opening s.voters s.observers s.agents s.sheet s.issuer) s.events (replies_to s s.events))
SaysWhatIsPlayed text (Err (section.Refused code n)) said = said ≡ told_at n (section_code_text code ++ reason text code n)
SaysWhatIsPlayed text (Err section.OutOfMemory) said = ⊥

-- Of a section below any lines, whatever stands behind it, just what its reader says of the text of its lines is told behind its
-- code: why that text is none such, or nothing. The words may look at the line on which it opens, and at its text.
abbrev pub IsSaidOfSection : {A E : Type 0} → ScheduleCode → List ℕ → ℕ → (ℕ → List ℕ → E → List ℕ) → (List ℕ → Result A E) → Type 0
IsSaidOfSection code word most words reader =
    (above ls : TextLines) (rest : List ℕ) → list_all (lacks 10) above ≡ true → AreLines most ls
    → length (lines_text above ++ (section_text word ls ++ rest)) ≤ most_input_bytes
    → reason (lines_text above ++ (section_text word ls ++ rest)) code (1 + length above) ≡ said_of_text (words (1 + length above) (lines_text ls)) reader (lines_text ls)

-- ---- any input

-- what `play` would read, or what `rate` would
abbrev pub said_of_input_as : InputKind → List ℕ → List ℕ
said_of_input_as kind.Play text = said_of_schedule text
said_of_input_as kind.Rate text = said_of_rating text
