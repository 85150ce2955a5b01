-- Each event of a schedule begins on the line that is counted in the text above it.
use Rattle.std.proofs.Common.{◌≡◌, ℕ, zero, suc, ◌+◌, ◌<◌, ◌≤◌, Bool, true, false, cond, List, [], ◌∷◌, ◌++◌, length, take, Some, Result, Ok, Err, codes, refl, sym, ap, ◌∙◌, subst, arith, length-drop}
use Rattle.std.specs.List.{flat_map, slice_get}
use Rattle.metering_model.specs.Batch.{is_empty}
use Rattle.metering_model.specs.FirstFailure.{◌>>=◌}
use Rattle.metering_model.specs.Schedule.{Planned, Schedule, planned_text, nodes_text, schedule_text, section_text}
use Rattle.metering_model.specs.Transcript.{line, line_count, with_number}
use Rattle.metering_model.proofs.StepLaws.{ok_same, step_ok}
use Rattle.byte_text.proofs.LineFeeds.{in_parts}
use Rattle.input_sections.specs.declared.faults.ScheduleFault.{ScheduleFault}
use Rattle.input_sections.specs.Sections.{IsCounted, Unread, left}
use Rattle.input_sections.proofs.CountedLines.{GoesOn, IsLeftOf, both_count}
use Rattle.schedule_reader.specs.Forms.{IsReadOf}
use Rattle.schedule_reader.specs.Schedules.{Preamble, ReadSchedule, event_in, events_in, preamble_in}
use Rattle.schedule_reader.proofs.CountedEvents.{event_counted, preamble_counted}
use Rattle.schedule_reader.proofs.EventForms.{event_read, events_read}
use Rattle.schedule_reader.proofs.PreambleLaws.{behind, by_preamble, with_events}
use Rattle.schedule_reader.proofs.WrittenSchedules.{schedule_written}
use Rattle.input_check.specs.Checks.{BeginsWhereCounted, event_lines, lines_of_events}

-- the line behind a text that was read: as many more as it has line feeds
behind_text : (u v : Unread) (t : List ℕ) → IsCounted u → GoesOn u v → left u ≡ t ++ left v → v.line ≡ u.line + line_count t
behind_text u v t is next front =
    omega (
      arith,
      is,
      next.counted,
      in_parts u.from u.text,
      in_parts v.from v.text,
      ap line_count next.text,
      ap line_count front,
      both_count t (left v),
    )

-- ---- the events that are left

-- each begins behind the texts of those before it
abbrev Begin : Unread → List Planned → List ℕ → Type 0
Begin u es lines = (k : ℕ) → k < length es → slice_get lines k ≡ Some (u.line + line_count (flat_map planned_text (take k es)))

one_more : (u v : Unread) (e : Planned) (es : List Planned) (lines : List ℕ) → v.line ≡ u.line + line_count (planned_text e) → Begin v es lines → Begin u (e ∷ es) (u.line ∷ lines)
one_more u v e es lines next behind_it zero low = ap Some (omega arith)
one_more u v e es lines next behind_it (suc k) low =
    behind_it k (omega (arith, low)) ∙ ap Some (omega (arith, next, both_count (planned_text e) (flat_map planned_text (take k es))))

all_begin : (most : ℕ) (u : Unread) (es : List Planned) → IsCounted u → events_in most u ≡ Ok es → Begin u es (lines_of_events most u)
unfolding events_in lines_of_events
all_begin zero u es is h = subst (λ xs. Begin u xs []) (ok_same _ _ h) (λ k low. absurd (omega (arith, low)))
all_begin (suc most) u es is h = by_test (λ x xs counted so. all_begin most x xs counted so) (is_empty (left u)) (event_in u) refl h
  where
    by_test : ((x : Unread) (xs : List Planned) → IsCounted x → events_in most x ≡ Ok xs → Begin x xs (lines_of_events most x)) → (b : Bool) (r : Result (Planned × Unread) ScheduleFault) → event_in u ≡ r
        → cond b (Ok []) (r >>= λ (e : Planned × Unread). events_in most e.1 >>= λ (rest : List Planned). Ok (e.0 ∷ rest)) ≡ Ok es
        → Begin u es (cond b [] (elim r [ Ok e ↦ u.line ∷ lines_of_events most e.1 | Err fault ↦ [] ]))
    by_test behind_it true r so k = subst (λ xs. Begin u xs []) (ok_same _ _ k) (λ i low. absurd (omega (arith, low)))
    by_test behind_it false (Err fault) so k = absurd (cc)
    by_test behind_it false (Ok e) so k =
        let rest = step_ok (events_in most e.1) (λ (more : List Planned). Ok (e.0 ∷ more)) es k in
        let next = event_counted u e is so in
        let line_there = behind_text u e.1 (planned_text e.0) is next (event_read u e so).0 in
        let more = behind_it e.1 rest.0 next.counted rest.1 in
        subst (λ xs. Begin u xs (u.line ∷ lines_of_events most e.1)) (ok_same _ _ rest.2) (one_more u e.1 e.0 rest.0 (lines_of_events most e.1) line_there more)

-- ---- those of a schedule

-- the text that stands above the events
abbrev above : Schedule → List ℕ
above s =
    line (codes "SCHEDULE 1") ++ line (nodes_text s.voters s.observers) ++ line (with_number (codes "agents ") s.agents)
    ++ section_text (codes "sheet ") s.sheet ++ section_text (codes "issuer ") s.issuer

counted_above : (text front events : List ℕ) (u : Unread) → IsLeftOf text u → text ≡ front ++ events → left u ≡ events → u.line ≡ 1 + line_count front
counted_above text front events u is joined rest =
    omega (
      arith,
      is.counted,
      in_parts u.from u.text,
      ap line_count is.text_is,
      ap line_count joined,
      both_count front events,
      ap line_count rest,
    )

each_begins : (text : List ℕ) (s : Schedule) (p : Preamble) → text ≡ schedule_text s → IsLeftOf text p.rest → events_in (length text) p.rest ≡ Ok s.events
    → BeginsWhereCounted s (lines_of_events (length text) p.rest)
each_begins text s p joined is are k low =
    let u = p.rest in
    let short : length (left u) ≤ length text = omega (arith, length-drop u.from u.text, ap length is.text_is) in
    let front = counted_above text (above s) (flat_map planned_text s.events) u is joined (events_read (length text) u s.events short are).0 in
    let begins = all_begin (length text) u s.events is.counted are k low in
    begins ∙ ap Some (omega (arith, front, both_count (above s) (flat_map planned_text (take k s.events))))

-- what stands above the events was read, and they
read_apart : (text : List ℕ) (r : ReadSchedule) (x : Result Preamble ScheduleFault) → preamble_in text ≡ x → (x >>= behind text) ≡ Ok r
    → (p : Preamble) × (preamble_in text ≡ Ok p) × (events_in (length text) p.rest ≡ Ok r.events)
read_apart text r (Err fault) is h = absurd (cc)
read_apart text r (Ok p) is h =
    let events = step_ok (events_in (length text) p.rest) (λ (es : List Planned). Ok (with_events p es)) r h in
    (p, is, events.1 ∙ ap (λ (x : ReadSchedule). Ok x.events) (ok_same _ _ events.2))

pub begins_where_counted : (text : List ℕ) (r : ReadSchedule) (s : Schedule) → IsReadOf text r s → BeginsWhereCounted s (event_lines text)
unfolding event_lines
begins_where_counted text r s is =
    let apart = read_apart text r (preamble_in text) refl (sym (by_preamble text) ∙ schedule_written text r (s, is)) in
    let p = apart.0 in
    let lines : lines_of_events (length text) p.rest ≡ event_lines text = sym (ap (λ x. elim x [ Ok q ↦ lines_of_events (length text) q.rest | Err fault ↦ [] ]) apart.1) in
    subst (BeginsWhereCounted s) lines (each_begins text s p is.form.joined (preamble_counted text p apart.1) (apart.2 ∙ ap Ok (sym is.events)))
