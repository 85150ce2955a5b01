-- What is warned of, case by case.
use Rattle.std.proofs.Common.{◌≡◌, ℕ, ◌≤◌, List, [], ◌++◌, length, map, drop, take, Some, None, Result, Ok, Err, refl, sym, ap, ◌∙◌}
use Rattle.metering_model.specs.Batch.{Batch}
use Rattle.metering_model.specs.RatedAlone.{journaled_in}
use Rattle.metering_model.specs.Schedule.{Planned, event_of}
use Rattle.metering_model.specs.Step.{play}
use Rattle.metering_model.specs.Sheet as model
use Rattle.metering_model.specs.Transcript.{line_count}
use Rattle.metering_model.specs.World.{opening}
use Rattle.metering_model.specs.declared.Refusal.{Refusal}
use Rattle.input_sections.specs.RateInput.{RateInput, rate_input_in}
use Rattle.input_sections.specs.declared.faults.ScheduleFault.{ScheduleFault}
use Rattle.schedule_reader.specs.Schedules.{Preamble, ReadSchedule, events_in, preamble_in, schedule_in}
use Rattle.schedule_reader.proofs.PreambleLaws.{behind, by_preamble, refused_behind, taken_behind}
use Rattle.metering_model.specs.FirstFailure.{◌>>=◌}
use Rattle.fault_lines.specs.Ahead.{ahead_of, ahead_of_all}
use Rattle.fault_lines.specs.UnknownKeys.{unknown_on}
use Rattle.input_check.specs.Checks.{event_lines, lines_of_events}
use Rattle.input_check.specs.Inner.Counted.{counted_of_events}
use Rattle.input_check.specs.Inner.Faults.{fault_of}
use Rattle.input_check.specs.Warnings.{if_taken, journaled_among, journaled_in_rating, journaled_in_schedule, warned_of_rating, warned_of_schedule}
use Rattle.input_check.proofs.CountedBatches.{ahead_of_none, ahead_of_one, all_counted}
use Rattle.input_check.proofs.SaidLaws.{above}

-- ---- a schedule

module _ (text : List ℕ) where
  abbrev warned : Result ReadSchedule ScheduleFault → List ℕ
  warned r = elim r [ Ok s ↦ unknown_on 4 text ++ ahead_of_all [] (journaled_in_schedule text s) | Err fault ↦ [] ]

  pub no_schedule_warned : (fault : ScheduleFault) → schedule_in text ≡ Err fault → warned_of_schedule text ≡ []
  unfolding warned_of_schedule
  no_schedule_warned fault is = ap warned is

  pub schedule_warned : (s : ReadSchedule) → schedule_in text ≡ Ok s → warned_of_schedule text ≡ unknown_on 4 text ++ ahead_of_all [] (journaled_in_schedule text s)
  unfolding warned_of_schedule
  schedule_warned s is = ap warned is

  pub no_preamble_warned : (fault : ScheduleFault) → preamble_in text ≡ Err fault → warned_of_schedule text ≡ []
  no_preamble_warned fault is = no_schedule_warned fault (by_preamble text ∙ ap (λ r. r >>= behind text) is)

  by_fault : (r : Result (List Planned) ScheduleFault) (fault : ScheduleFault) → fault_of r ≡ Some fault → r ≡ Err fault
  by_fault (Ok events) fault is = absurd (cc)
  by_fault (Err other) fault is = let same : other ≡ fault = cc in ap Err same

  by_none : (r : Result (List Planned) ScheduleFault) → fault_of r ≡ None → (es : List Planned) × (r ≡ Ok es)
  by_none (Ok events) is = (events, refl)
  by_none (Err other) is = absurd (cc)

  pub no_events_warned : (p : Preamble) (fault : ScheduleFault) → preamble_in text ≡ Ok p → fault_of (events_in (length text) p.rest) ≡ Some fault → warned_of_schedule text ≡ []
  no_events_warned p fault above_is bad = no_schedule_warned fault (refused_behind text p fault above_is (by_fault (events_in (length text) p.rest) fault bad))

  pub events_warned : (p : Preamble) → preamble_in text ≡ Ok p → fault_of (events_in (length text) p.rest) ≡ None
      → warned_of_schedule text ≡ unknown_on 4 text ++ ahead_of_all [] (counted_of_events (length text) (opening p.voters p.observers p.agents p.sheet p.issuer) p.rest)
  unfolding warned_of_schedule event_lines
  events_warned p above_is well =
      let found = by_none (events_in (length text) p.rest) well in
      let w = opening p.voters p.observers p.agents p.sheet p.issuer in
      let lines : lines_of_events (length text) p.rest ≡ event_lines text = sym (ap (λ r. elim r [ Ok q ↦ lines_of_events (length text) q.rest | Err fault ↦ [] ]) above_is) in
      ap warned (taken_behind text p found.0 above_is found.1)
      ∙ ap (λ xs. unknown_on 4 text ++ ahead_of_all [] xs)
      (ap (λ ls. journaled_among ls found.0 (play w (map event_of found.0)).0) (sym lines) ∙ sym (all_counted (length text) w p.rest found.0 found.1))

-- ---- a batch

pub refused_batch_warned : (sheet : model.Sheet) (issuer : model.Issuer) (lines : ℕ) (text : List ℕ) (why : Refusal) → journaled_in sheet issuer text ≡ Err why
    → ahead_of_all [] (if_taken lines (journaled_in sheet issuer text)) ≡ []
refused_batch_warned sheet issuer lines text why is = ap (λ r. ahead_of_all [] (if_taken lines r)) is ∙ ahead_of_none []

pub taken_batch_warned : (sheet : model.Sheet) (issuer : model.Issuer) (lines : ℕ) (text : List ℕ) (b : Batch) → journaled_in sheet issuer text ≡ Ok b
    → ahead_of_all [] (if_taken lines (journaled_in sheet issuer text)) ≡ ahead_of [] lines b
taken_batch_warned sheet issuer lines text b is = ap (λ r. ahead_of_all [] (if_taken lines r)) is ∙ ahead_of_one [] lines b

-- ---- what is to be rated

module _ (text : List ℕ) where
  abbrev warned_as : Result RateInput ScheduleFault → List ℕ
  warned_as r = elim r [ Ok given ↦ unknown_on 1 text ++ ahead_of_all [] (journaled_in_rating text given) | Err fault ↦ [] ]

  pub no_rating_warned : (fault : ScheduleFault) → rate_input_in text ≡ Err fault → warned_of_rating text ≡ []
  unfolding warned_of_rating
  no_rating_warned fault is = ap warned_as is

  pub rating_warned : (sheet : model.Sheet) (issuer : model.Issuer) (from : ℕ) → from ≤ length text
      → rate_input_in text ≡ Ok (record { sheet = sheet; issuer = issuer; batch = drop from text })
      → warned_of_rating text ≡ unknown_on 1 text ++ ahead_of_all [] (if_taken (line_count (take from text)) (journaled_in sheet issuer (drop from text)))
  unfolding warned_of_rating
  rating_warned sheet issuer from within is =
      ap warned_as is
      ∙ ap (λ k. unknown_on 1 text ++ ahead_of_all [] (if_taken (line_count (take k text)) (journaled_in sheet issuer (drop from text)))) (above text from within)
