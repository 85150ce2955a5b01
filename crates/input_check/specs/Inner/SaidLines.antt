-- Whatever is said of an input has a line feed at least. The proofs stand here and not among the others, since an `impl` of this
-- crate hands them on.
use Rattle.std.proofs.Common.{◌≡◌, ◌⊎◌, ℕ, zero, suc, ◌+◌, ◌-◌, ◌≤◌, ◌==◌, Bool, true, false, cond, List, [], ◌∷◌, ◌++◌, length, take, Option, Result, Ok, Err, codes, refl, sym, subst, inl, inr, arith}
use Rattle.std.proofs.lemmas.List.Sums.{sum_by-append}
use Rattle.metering_model.specs.Batch.{Batch, is_empty}
use Rattle.metering_model.specs.Schedule.{Planned, PlansDelivery, PlansExport, PlansJournal, PlansKeep, PlansRestart, PlansRevival, PlansStart, event_of, lines_text}
use Rattle.metering_model.specs.Sheet as model
use Rattle.metering_model.specs.Step.{step}
use Rattle.metering_model.specs.Transcript.{line, line_count, with_number}
use Rattle.metering_model.specs.World.{World, Reply, Journaled, Delivered, Started, Restarted, Exported, KeptText, Refused as IsRefused, opening}
use Rattle.metering_model.specs.declared.Refusal.{Refusal}
use Rattle.input_sections.specs.declared.faults.ScheduleFault.{ScheduleFault}
use Rattle.input_sections.specs.declared.faults.ScheduleFault.TheVariants as section
use Rattle.input_sections.specs.RateInput.{RateInput, rate_input_in}
use Rattle.input_sections.specs.Sections.{Unread, left}
use Rattle.schedule_reader.specs.Schedules.{Preamble, event_in, events_in, preamble_in}
use Rattle.metering_model.specs.RatedAlone.{journaled_in}
use Rattle.answer_words.specs.Words.{section_code_text}
use Rattle.input_check.specs.declared.kinds.InputKind.{InputKind}
use Rattle.fault_lines.specs.Checked.{SaysLines}
use Rattle.input_check.specs.Checks.{line_of_kept, said_behind, said_below, said_of_batch, said_of_events, said_of_input_as, said_of_journaled, said_of_rating, said_of_refused, said_of_reply, said_of_schedule}
use Rattle.fault_lines.specs.Told.{bad_index, line_within, more_words, reason, said_of_fault, told_at, words_of}
use Rattle.input_check.specs.Inner.Kinds.{kind_by, said_by}
use Rattle.input_check.specs.declared.kinds.InputKind.TheVariants as kind

abbrev IsNoneOrLines : List ℕ → Type 0
IsNoneOrLines t = (t ≡ []) ⊎ (1 ≤ line_count t)

behind : (a b : List ℕ) → 1 ≤ line_count b → 1 ≤ line_count (a ++ b)
behind a b some = omega (arith, some, sum_by-append (λ x. cond (x == 10) 1 0) a b)

joined : (a b : List ℕ) → IsNoneOrLines a → IsNoneOrLines b → IsNoneOrLines (a ++ b)
joined a b (inl none) other = subst (λ (t : List ℕ). IsNoneOrLines (t ++ b)) (sym none) other
joined a b (inr some) other = inr (omega (arith, some, sum_by-append (λ x. cond (x == 10) 1 0) a b))

one_line : (t : List ℕ) → 1 ≤ line_count (line t)
one_line t = behind t (10 ∷ []) (omega arith)

of_fault : (text : List ℕ) (fault : ScheduleFault) → IsNoneOrLines (said_of_fault text fault)
of_fault text (section.Refused code n) = inr (one_line (with_number (codes "line ") n ++ codes ": " ++ (section_code_text code ++ reason text code n)))
of_fault text section.OutOfMemory = inl refl

pub some_told : (n : ℕ) (words : List ℕ) → 1 ≤ line_count (told_at n words)
some_told n words = one_line (with_number (codes "line ") n ++ codes ": " ++ words)

pub some_refused : (n : ℕ) (w : World) (e : Planned) (why : Refusal) → 1 ≤ line_count (said_of_refused n w e why)
some_refused n w (PlansJournal ls) why =
    let bad = bad_index w.sheet w.journals (lines_text ls) in
    some_told (n + line_within bad why) (words_of why ++ more_words w.sheet (lines_text ls) bad why)
some_refused n w (PlansRevival i ls) why = some_told (n + line_of_kept why) (words_of why)
some_refused n w (PlansDelivery k i) why = some_told n (words_of why)
some_refused n w (PlansStart i) why = some_told n (words_of why)
some_refused n w (PlansRestart i) why = some_told n (words_of why)
some_refused n w (PlansExport i p) why = some_told n (words_of why)
some_refused n w (PlansKeep i) why = some_told n (words_of why)

of_told : (n : ℕ) (words : List ℕ) → IsNoneOrLines (told_at n words)
of_told n words = inr (some_told n words)

of_reply : (n : ℕ) (w : World) (e : Planned) (reply : Reply) → IsNoneOrLines (said_of_reply n w e reply)
of_reply n w e (Journaled k) = inl refl
of_reply n w e (Delivered sent learned) = inl refl
of_reply n w e (Started b k) = inl refl
of_reply n w e Restarted = inl refl
of_reply n w e (Exported s) = inl refl
of_reply n w e (KeptText text) = inl refl
of_reply n w e (IsRefused why) = inr (some_refused n w e why)

of_events : (most : ℕ) (w : World) (u : Unread) → IsNoneOrLines (said_of_events most w u)
unfolding said_of_events
of_events zero w u = inl refl
of_events (suc most) w u = by_test (λ v x. of_events most v x) (is_empty (left u))
  where
    by_event : ((v : World) (x : Unread) → IsNoneOrLines (said_of_events most v x)) → (r : Result (Planned × Unread) ScheduleFault)
        → IsNoneOrLines (elim r [ Ok e ↦ said_of_reply u.line w e.0 (step w (event_of e.0)).0 ++ said_of_events most (step w (event_of e.0)).1 e.1 | Err fault ↦ [] ])
    by_event rest (Ok e) = joined (said_of_reply u.line w e.0 (step w (event_of e.0)).0) (said_of_events most (step w (event_of e.0)).1 e.1) (of_reply u.line w e.0 (step w (event_of e.0)).0) (rest (step w (event_of e.0)).1 e.1)
    by_event rest (Err fault) = inl refl

    by_test : ((v : World) (x : Unread) → IsNoneOrLines (said_of_events most v x)) → (b : Bool) → IsNoneOrLines (cond b [] (elim (event_in u) [ Ok e ↦ said_of_reply u.line w e.0 (step w (event_of e.0)).0 ++ said_of_events most (step w (event_of e.0)).1 e.1 | Err fault ↦ [] ]))
    by_test rest true = inl refl
    by_test rest false = by_event rest (event_in u)

of_schedule : (text : List ℕ) → IsNoneOrLines (said_of_schedule text)
unfolding said_of_schedule
of_schedule text = below (preamble_in text)
  where
    above : (p : Preamble) (r : Result (List Planned) ScheduleFault) → IsNoneOrLines (said_behind text p r)
    above p (Ok events) = of_events (length text) (opening p.voters p.observers p.agents p.sheet p.issuer) p.rest
    above p (Err fault) = of_fault text fault

    below : (r : Result Preamble ScheduleFault) → IsNoneOrLines (said_below text r)
    below (Ok p) = above p (events_in (length text) p.rest)
    below (Err fault) = of_fault text fault

of_batch : (sheet : model.Sheet) (issuer : model.Issuer) (lines : ℕ) (text : List ℕ) → IsNoneOrLines (said_of_batch sheet issuer lines text)
unfolding said_of_batch
of_batch sheet issuer lines text = by_answer (journaled_in sheet issuer text)
  where
    by_answer : (r : Result Batch Refusal) → IsNoneOrLines (said_of_journaled sheet lines text r)
    by_answer (Ok b) = inl refl
    by_answer (Err why) =
        let bad = bad_index sheet [] text in
        of_told (lines + line_within bad why) (words_of why ++ more_words sheet text bad why)

of_rating : (text : List ℕ) → IsNoneOrLines (said_of_rating text)
unfolding said_of_rating
of_rating text = by_input (rate_input_in text)
  where
    by_input : (r : Result RateInput ScheduleFault) → IsNoneOrLines (elim r [
      | Ok given ↦ said_of_batch given.sheet given.issuer (line_count (take (length text - length given.batch) text)) given.batch
      | Err fault ↦ said_of_fault text fault
    ])
    by_input (Ok given) = of_batch given.sheet given.issuer (line_count (take (length text - length given.batch) text)) given.batch
    by_input (Err fault) = of_fault text fault

of_input : (k : InputKind) (text : List ℕ) → IsNoneOrLines (said_of_input_as k text)
of_input kind.Play text = of_schedule text
of_input kind.Rate text = of_rating text

none_of : (t : List ℕ) → IsNoneOrLines t → line_count t ≡ 0 → t ≡ []
none_of t (inl none) no_line = none
none_of t (inr some) no_line = absurd (omega (arith, some, no_line))

lines_said_as : (k : InputKind) → SaysLines (said_of_input_as k)
lines_said_as k text no_line = none_of (said_of_input_as k text) (of_input k text) no_line

pub lines_said_by : (given : Option InputKind) → SaysLines (said_by given)
lines_said_by given text no_line = lines_said_as (kind_by given text) text no_line
