-- What is said is what is refused.
use Rattle.std.proofs.Common.{◌≡◌, ℕ, zero, suc, ◌-◌, Bool, true, false, cond, List, [], ◌∷◌, ◌++◌, length, map, take, Result, Ok, Err, refl, sym, ap, subst}
use Rattle.metering_model.specs.Batch.{Batch, is_empty}
use Rattle.metering_model.specs.File.{file}
use Rattle.metering_model.specs.FirstFailure.{◌>>=◌}
use Rattle.metering_model.specs.Schedule.{Planned, event_of}
use Rattle.metering_model.specs.Step.{play, step}
use Rattle.metering_model.specs.Transcript.{line_count}
use Rattle.metering_model.specs.World.{World, opening}
use Rattle.metering_model.specs.declared.Refusal.{Refusal}
use Rattle.metering_model.proofs.StepLaws.{ok_same, step_ok}
use Rattle.input_sections.specs.RateInput.{RateInput, rate_input_in}
use Rattle.input_sections.specs.Sections.{Unread, left}
use Rattle.input_sections.specs.declared.faults.ScheduleFault.{ScheduleFault}
use Rattle.input_sections.specs.declared.faults.ScheduleFault.TheVariants as section
use Rattle.schedule_reader.specs.Schedules.{Preamble, event_in, events_in, preamble_in, schedule_in}
use Rattle.schedule_reader.proofs.PreambleLaws.{behind, by_preamble}
use Rattle.metering_model.specs.RatedAlone.{journaled_in, rows_alone}
use Rattle.batch_player.specs.RateInput.{or_refused, or_schedule, rated_file}
use Rattle.input_check.specs.Checks.{SaysWhatIsPlayed, SaysWhatIsRated, event_lines, lines_of_events, said_below, said_behind, said_of_batch, said_of_events, said_of_journaled, said_of_rating, said_of_refusal, said_of_replies, said_of_reply, said_of_schedule}
use Rattle.fault_lines.specs.Told.{bad_index, said_of_fault, told_of_text}
use Rattle.input_sections.proofs.NeverWants.{NeverWants, a_rating}
use Rattle.input_check.proofs.NeverWants.{a_preamble, some_events}

-- ---- what is to be rated

pub rated : (period : ℕ) (text : List ℕ) → SaysWhatIsRated text (rated_file period text) (said_of_rating text)
unfolding rated_file said_of_rating said_of_batch said_of_refusal
rated period text = by_input (rate_input_in text) refl
  where
    lines_above : RateInput → ℕ
    lines_above given = line_count (take (length text - length given.batch) text)

    by_batch : (given : RateInput) → rate_input_in text ≡ Ok given → (r : Result Batch Refusal)
        → SaysWhatIsRated text (or_refused (r >>= λ (b : Batch). Ok (file (rows_alone given.sheet given.issuer b period)))) (said_of_journaled given.sheet (lines_above given) given.batch r)
    by_batch given is (Ok b) = refl
    by_batch given is (Err why) = sym (ap (λ r. elim r [
      | Ok has ↦ told_of_text (lines_above has) has.sheet has.batch (bad_index has.sheet [] has.batch) why
      | Err fault ↦ []
    ]) is)

    by_input : (r : Result RateInput ScheduleFault) → rate_input_in text ≡ r
        → SaysWhatIsRated text (or_schedule r >>= λ (given : RateInput). or_refused (journaled_in given.sheet given.issuer given.batch >>= λ (b : Batch). Ok (file (rows_alone given.sheet given.issuer b period))))
        (elim r [
          | Ok given ↦ said_of_batch given.sheet given.issuer (line_count (take (length text - length given.batch) text)) given.batch
          | Err fault ↦ said_of_fault text fault
        ])
    by_input (Ok given) is = by_batch given is (journaled_in given.sheet given.issuer given.batch)
    by_input (Err (section.Refused code n)) is = refl
    by_input (Err section.OutOfMemory) is = absurd (subst NeverWants is (a_rating text))

-- ---- what is to be played

-- just which replies to these events refuse is said, each by its line
record IsSaidOfAll (w : World) (es : List Planned) (lines said : List ℕ) : Type 0 where
  pub each : length lines ≡ length es
  pub is : said ≡ said_of_replies lines w es (play w (map event_of es)).0

all_said : (most : ℕ) (w : World) (u : Unread) (es : List Planned) → events_in most u ≡ Ok es → IsSaidOfAll w es (lines_of_events most u) (said_of_events most w u)
unfolding events_in said_of_events lines_of_events
all_said zero w u es h = subst (λ xs. IsSaidOfAll w xs [] []) (ok_same _ _ h) (record { each = refl; is = refl })
all_said (suc most) w u es h = by_test (λ v x xs is. all_said most v x xs is) (is_empty (left u)) (event_in u) h
  where
    by_test : ((v : World) (x : Unread) (xs : List Planned) → events_in most x ≡ Ok xs → IsSaidOfAll v xs (lines_of_events most x) (said_of_events most v x)) → (b : Bool) (r : Result (Planned × Unread) ScheduleFault)
        → cond b (Ok []) (r >>= λ (e : Planned × Unread). events_in most e.1 >>= λ (rest : List Planned). Ok (e.0 ∷ rest)) ≡ Ok es
        → IsSaidOfAll w es (cond b [] (elim r [ Ok e ↦ u.line ∷ lines_of_events most e.1 | Err fault ↦ [] ]))
        (cond b [] (elim r [ Ok e ↦ said_of_reply u.line w e.0 (step w (event_of e.0)).0 ++ said_of_events most (step w (event_of e.0)).1 e.1 | Err fault ↦ [] ]))
    by_test behind_it true r k = subst (λ xs. IsSaidOfAll w xs [] []) (ok_same _ _ k) (record { each = refl; is = refl })
    by_test behind_it false (Err fault) k = absurd (cc)
    by_test behind_it false (Ok e) k =
        let rest = step_ok (events_in most e.1) (λ (more : List Planned). Ok (e.0 ∷ more)) es k in
        let next = (step w (event_of e.0)).1 in
        let said = said_of_reply u.line w e.0 (step w (event_of e.0)).0 ++ said_of_events most next e.1 in
        let more = behind_it next e.1 rest.0 rest.1 in
        let all : IsSaidOfAll w (e.0 ∷ rest.0) (u.line ∷ lines_of_events most e.1) said = record {
          each = ap suc more.each;
          is = ap (λ t. said_of_reply u.line w e.0 (step w (event_of e.0)).0 ++ t) more.is;
        } in
        subst (λ xs. IsSaidOfAll w xs (u.line ∷ lines_of_events most e.1) said) (ok_same _ _ rest.2) all

pub played : (text : List ℕ) → SaysWhatIsPlayed text (schedule_in text) (said_of_schedule text)
unfolding said_of_schedule event_lines
played text = subst (λ r. SaysWhatIsPlayed text r (said_below text (preamble_in text))) (sym (by_preamble text)) (below (preamble_in text) refl)
  where
    by_events : (p : Preamble) → preamble_in text ≡ Ok p → (r : Result (List Planned) ScheduleFault) → events_in (length text) p.rest ≡ r
        → SaysWhatIsPlayed text (r >>= λ (events : List Planned). Ok (record { voters = p.voters; observers = p.observers; agents = p.agents; sheet = p.sheet; issuer = p.issuer; events = events })) (said_behind text p r)
    by_events p above (Ok events) is =
        let all = all_said (length text) (opening p.voters p.observers p.agents p.sheet p.issuer) p.rest events is in
        let lines : lines_of_events (length text) p.rest ≡ event_lines text = sym (ap (λ r. elim r [ Ok q ↦ lines_of_events (length text) q.rest | Err fault ↦ [] ]) above) in
        subst (λ ls. (length ls ≡ length events) × (said_behind text p (Ok events) ≡ said_of_replies ls (opening p.voters p.observers p.agents p.sheet p.issuer) events (play (opening p.voters p.observers p.agents p.sheet p.issuer) (map event_of events)).0)) lines (all.each, all.is)
    by_events p above (Err (section.Refused code n)) is = refl
    by_events p above (Err section.OutOfMemory) is = absurd (subst NeverWants is (some_events (length text) p.rest))

    below : (r : Result Preamble ScheduleFault) → preamble_in text ≡ r → SaysWhatIsPlayed text (r >>= behind text) (said_below text r)
    below (Ok p) above = by_events p above (events_in (length text) p.rest) refl
    below (Err (section.Refused code n)) above = refl
    below (Err section.OutOfMemory) above = absurd (subst NeverWants above (a_preamble text))
