-- Where nothing is said nothing is refused, whatever is warned of.
use Rattle.std.proofs.Common.{◌≡◌, ℕ, ◌+◌, ◌-◌, ◌≤◌, false, ◌||◌, List, [], ◌∷◌, ◌++◌, length, map, take, Result, Ok, Err, refl, sym, ap, ap₂, ◌∙◌, subst, arith}
use Rattle.std.specs.List.{list_any}
use Rattle.metering_model.specs.Batch.{Batch}
use Rattle.metering_model.specs.File.{file}
use Rattle.metering_model.specs.FirstFailure.{◌>>=◌}
use Rattle.metering_model.specs.RatedAlone.{journaled_in, rows_alone}
use Rattle.metering_model.specs.Schedule.{Planned, event_of}
use Rattle.metering_model.specs.Step.{play, step}
use Rattle.metering_model.specs.Transcript.{line_count}
use Rattle.metering_model.specs.World.{Delivered, Exported, Journaled, KeptText, Refused, Reply, Restarted, Started, World, opening}
use Rattle.metering_model.specs.declared.Refusal.{Refusal}
use Rattle.input_sections.specs.RateInput.{RateInput, rate_input_in}
use Rattle.input_sections.specs.declared.faults.ScheduleFault.{ScheduleFault}
use Rattle.input_sections.specs.declared.faults.ScheduleFault.TheVariants as section
use Rattle.schedule_reader.specs.Schedules.{ReadSchedule, schedule_in}
use Rattle.schedule_player.specs.Transcripts.{replies_to}
use Rattle.batch_player.specs.RateInput.{or_refused, or_schedule, rated_file}
use Rattle.group_events.specs.Replies.{is_refused}
use Rattle.answer_words.specs.Words.{section_code_text}
use Rattle.fault_lines.specs.Told.{bad_index, line_within, more_words, reason, said_of_fault, words_of}
use Rattle.input_check.specs.Checks.{SaysWhatIsPlayed, event_lines, said_of_batch, said_of_journaled, said_of_rating, said_of_replies, said_of_reply, said_of_schedule}
use Rattle.input_check.specs.Inner.SaidLines.{some_told, some_refused}
use Rattle.input_sections.proofs.NeverWants.{NeverWants, a_rating}
use Rattle.input_check.proofs.RefusedLaws.{played}

no_line : (t : List ℕ) → 1 ≤ line_count t → t ≡ [] → ⊥
no_line t some none = let zero_lines : line_count t ≡ 0 = ap line_count none in omega (arith, some, zero_lines)

both_none : (a b : List ℕ) → a ++ b ≡ [] → (a ≡ []) × (b ≡ [])
both_none [] b none = (refl, none)
both_none (x ∷ xs) b none = absurd (cc)

-- ---- what is to be rated

pub rates : (period : ℕ) (text : List ℕ) → said_of_rating text ≡ [] → (given : List ℕ) × (rated_file period text ≡ Ok given)
unfolding rated_file said_of_rating said_of_batch
rates period text none = by_input (rate_input_in text) refl none
  where
    lines_above : RateInput → ℕ
    lines_above given = line_count (take (length text - length given.batch) text)

    by_batch : (given : RateInput) (r : Result Batch Refusal) → said_of_journaled given.sheet (lines_above given) given.batch r ≡ []
        → (bytes : List ℕ) × (or_refused (r >>= λ (b : Batch). Ok (file (rows_alone given.sheet given.issuer b period))) ≡ Ok bytes)
    by_batch given (Ok b) said = (_, refl)
    by_batch given (Err why) said =
        let bad = bad_index given.sheet [] given.batch in
        absurd (no_line _ (some_told (lines_above given + line_within bad why) (words_of why ++ more_words given.sheet given.batch bad why)) said)

    by_input : (r : Result RateInput ScheduleFault) → rate_input_in text ≡ r
        → ◌≡◌ {A = List ℕ} (elim r [
          | Ok given ↦ said_of_batch given.sheet given.issuer (line_count (take (length text - length given.batch) text)) given.batch
          | Err fault ↦ said_of_fault text fault
        ]) []
        → (bytes : List ℕ)
        × ((or_schedule r >>= λ (given : RateInput). or_refused (journaled_in given.sheet given.issuer given.batch >>= λ (b : Batch). Ok (file (rows_alone given.sheet given.issuer b period)))) ≡ Ok bytes)
    by_input (Ok given) is said = by_batch given (journaled_in given.sheet given.issuer given.batch) said
    by_input (Err (section.Refused code n)) is said = absurd (no_line _ (some_told n (section_code_text code ++ reason text code n)) said)
    by_input (Err section.OutOfMemory) is said = absurd (subst NeverWants is (a_rating text))

-- ---- what is to be played

not_refused : (n : ℕ) (w : World) (e : Planned) (r : Reply) → said_of_reply n w e r ≡ [] → is_refused r ≡ false
not_refused n w e (Journaled k) none = refl
not_refused n w e (Delivered sent learned) none = refl
not_refused n w e (Started b k) none = refl
not_refused n w e Restarted none = refl
not_refused n w e (Exported s) none = refl
not_refused n w e (KeptText text) none = refl
not_refused n w e (Refused why) none = absurd (no_line _ (some_refused n w e why) none)

none_refused : (lines : List ℕ) (w : World) (es : List Planned) → length lines ≡ length es → said_of_replies lines w es (play w (map event_of es)).0 ≡ []
    → list_any is_refused (play w (map event_of es)).0 ≡ false
none_refused lines w [] long none = refl
none_refused [] w (e ∷ es) long none = absurd (omega (arith, long))
none_refused (n ∷ ns) w (e ∷ es) long none =
    let now = step w (event_of e) in
    let parts = both_none (said_of_reply n w e now.0) (said_of_replies ns now.1 es (play now.1 (map event_of es)).0) none in
    ap₂ (λ a b. a || b) (not_refused n w e now.0 parts.0) (none_refused ns now.1 es (omega (arith, long)) parts.1)

pub plays : (text : List ℕ) → said_of_schedule text ≡ [] → (s : ReadSchedule) × (schedule_in text ≡ Ok s) × (list_any is_refused (replies_to s s.events) ≡ false)
plays text none = by_schedule (schedule_in text) refl (played text)
  where
    by_schedule : (r : Result ReadSchedule ScheduleFault) → schedule_in text ≡ r → SaysWhatIsPlayed text r (said_of_schedule text)
        → (s : ReadSchedule) × (schedule_in text ≡ Ok s) × (list_any is_refused (replies_to s s.events) ≡ false)
    by_schedule (Ok s) is says = (
      s,
      is,
      none_refused (event_lines text) (opening s.voters s.observers s.agents s.sheet s.issuer) s.events says.0 (sym says.1 ∙ none),
    )
    by_schedule (Err (section.Refused code n)) is says =
        absurd (no_line _ (some_told n (section_code_text code ++ reason text code n)) (sym says ∙ none))
    by_schedule (Err section.OutOfMemory) is says = absurd says
