-- Events are read where they stand at the front of what is left.
use Rattle.std.proofs.Common.{◌≡◌, ℕ, zero, suc, ◌+◌, ◌<◌, ◌≤◌, ◌^◌, ◌==◌, true, false, not, cond, List, [], ◌∷◌, ◌++◌, length, Option, Some, None, Ok, decimal, codes, refl, sym, ap, ap₂, ◌∙◌, arith, append_assoc, lt-ltb, le-leb, All}
use Rattle.std.specs.Prelude.{nat_le}
use Rattle.std.specs.List.{position, position_or_len, flat_map}
use Rattle.std.specs.Option.{option_map}
use Rattle.std.proofs.lemmas.Bool.{and_parts, cond-true, cond-false}
use Rattle.std.proofs.lemmas.Bool.Decides.{nat_tests}
use Rattle.std.proofs.lemmas.List.{length-append}
use Rattle.std.proofs.lemmas.List.Elements.{All-head, All-tail}
use Rattle.std.proofs.Math.Seq.{take-append_seam, drop-append_seam, drop-append-add}
use Rattle.metering_model.specs.NumberText.{is_digit}
use Rattle.metering_model.specs.Batch.{lacks, is_empty}
use Rattle.metering_model.specs.BatchReading.{lines_in, whole_in}
use Rattle.metering_model.specs.FirstFailure.{◌>>=◌}
use Rattle.metering_model.specs.Schedule.{Planned, PlansJournal, PlansDelivery, PlansStart, PlansRestart, PlansExport, PlansKeep, PlansRevival, IsPlanned, AreLines, TextLines, lines_text, planned_text, section_text}
use Rattle.metering_model.specs.Transcript.{line, with_number}
use Rattle.metering_model.proofs.FieldLaws.{whole_written}
use Rattle.metering_model.proofs.NumberLaws.{decimal_bytes}
use Rattle.metering_model.proofs.Splitting.{lines_of_text, list_all_weaker, list_all_both}
use Rattle.metering_model.proofs.StepLaws.{ok_step_from, some_step_from}
use Rattle.input_sections.specs.declared.faults.ScheduleCode.TheVariants.{Event}
use Rattle.input_sections.specs.Sections.{Unread, left, begins_with, first_line, section_of, section_in}
use Rattle.schedule_reader.specs.Schedules.{one_behind, both, two_at, two_in, two_behind, or_else, event_of_line, line_event, journal_event, if_lines, revival_of_line, revival_event, event_in, events_in}
use Rattle.schedule_reader.proofs.WrittenLines.{line_written, begins_written, number_written, number_lacks_feed, lines_written, section_written}
use Rattle.schedule_reader.proofs.EventForms.{event_long, revival_word, revival_taken}
use Rattle.schedule_reader.proofs.EventLoop.{nonempty}

-- ---- two numbers

digit_no_space : (c : ℕ) → is_digit c ≡ true → not (c == 32) ≡ true
digit_no_space c h = grind (arith, nat_tests)

pub number_lacks_space : (n : ℕ) → n < 10 ^ 64 → lacks 32 (decimal n) ≡ true
number_lacks_space n small = list_all_weaker is_digit (λ c. not (c == 32)) digit_no_space (decimal n) (decimal_bytes n small)

space_place : (s t : List ℕ) → lacks 32 s ≡ true → position_or_len (λ (c : ℕ). c == 32) (s ++ 32 ∷ t) ≡ length s
space_place [] t h = refl
space_place (c ∷ cs) t h =
    let parts = and_parts (not (c == 32)) (lacks 32 cs) h in
    let later = space_place cs t parts.1 in
    cond-true (not (c == 32)) _ 0 parts.0 ∙ omega (arith, later)

pub space_found : (s t : List ℕ) → lacks 32 s ≡ true → position (λ (c : ℕ). c == 32) (s ++ 32 ∷ t) ≡ Some (length s)
space_found s t h =
    let place = space_place s t h in
    let within : position_or_len (λ (c : ℕ). c == 32) (s ++ 32 ∷ t) < length (s ++ 32 ∷ t) = omega (arith, place, length-append s (32 ∷ t)) in
    cond-true _ _ None (lt-ltb _ _ within) ∙ ap Some place

two_written : (first second m n : ℕ) → first < 10 ^ 64 → second < 10 ^ 64 → m ≤ first → n ≤ second
    → two_in first second (decimal m ++ with_number (codes " ") n) ≡ Some (m, n)
two_written first second m n small small_too m_below n_below =
    let text = decimal m ++ with_number (codes " ") n in
    ap (two_at first second text) (space_found (decimal m) (decimal n) (number_lacks_space m (omega arith)))
    ∙ ap₂ both
    (ap (whole_in 0 first) (take-append_seam (decimal m) (with_number (codes " ") n)) ∙ whole_written 0 first m small (omega arith) m_below)
    (ap (whole_in 0 second) (drop-append-add (decimal m) (with_number (codes " ") n) 1) ∙ whole_written 0 second n small_too (omega arith) n_below)

two_behind_written : (word : List ℕ) (first second m n : ℕ) → first < 10 ^ 64 → second < 10 ^ 64 → m ≤ first → n ≤ second
    → two_behind word first second (with_number word m ++ with_number (codes " ") n) ≡ Some (m, n)
two_behind_written word first second m n small small_too m_below n_below =
    let numbers = decimal m ++ with_number (codes " ") n in
    ap (two_behind word first second) (append_assoc word (decimal m) (with_number (codes " ") n))
    ∙ cond-true (begins_with word (word ++ numbers)) _ None (begins_written word numbers)
    ∙ ap (two_in first second) (drop-append_seam word numbers)
    ∙ two_written first second m n small small_too m_below n_below

two_lack_feed : (word : List ℕ) (m n : ℕ) → lacks 10 word ≡ true → m < 10 ^ 64 → n < 10 ^ 64 → lacks 10 (with_number word m ++ with_number (codes " ") n) ≡ true
two_lack_feed word m n h small small_too =
    list_all_both (λ c. not (c == 10)) (with_number word m) (with_number (codes " ") n) (number_lacks_feed word m h small) (number_lacks_feed (codes " ") n refl small_too)

-- ---- an event of one line

-- what a line is that none of the events before is
abbrev export_or_keep : List ℕ → Option Planned
export_or_keep l = or_else (option_map (λ n. PlansExport n.0 n.1) (two_behind (codes "export ") 98 1_199 l)) (option_map PlansKeep (one_behind (codes "keep ") 98 l))

abbrev restart_or_later : List ℕ → Option Planned
restart_or_later l = or_else (option_map PlansRestart (one_behind (codes "restart ") 98 l)) (export_or_keep l)

abbrev start_or_later : List ℕ → Option Planned
start_or_later l = or_else (option_map PlansStart (one_behind (codes "start ") 98 l)) (restart_or_later l)

delivery_written : (k i : ℕ) → k ≤ 999_999 → i ≤ 98 → event_of_line (with_number (codes "deliver ") k ++ with_number (codes " ") i) ≡ Some (PlansDelivery k i)
delivery_written k i k_below i_below =
    ap (λ o. or_else (option_map (λ n. PlansDelivery n.0 n.1) o) (start_or_later (with_number (codes "deliver ") k ++ with_number (codes " ") i)))
    (two_behind_written (codes "deliver ") 999_999 98 k i (omega arith) (omega arith) k_below i_below)

start_written : (i : ℕ) → i ≤ 98 → event_of_line (with_number (codes "start ") i) ≡ Some (PlansStart i)
start_written i below =
    ap (λ o. or_else (option_map PlansStart o) (restart_or_later (with_number (codes "start ") i))) (number_written (codes "start ") 0 98 i (omega arith) (omega arith) below)

restart_written : (i : ℕ) → i ≤ 98 → event_of_line (with_number (codes "restart ") i) ≡ Some (PlansRestart i)
restart_written i below =
    ap (λ o. or_else (option_map PlansRestart o) (export_or_keep (with_number (codes "restart ") i)))
    (number_written (codes "restart ") 0 98 i (omega arith) (omega arith) below)

export_written : (i p : ℕ) → i ≤ 98 → p ≤ 1_199 → event_of_line (with_number (codes "export ") i ++ with_number (codes " ") p) ≡ Some (PlansExport i p)
export_written i p i_below p_below =
    ap (λ o. or_else (option_map (λ n. PlansExport n.0 n.1) o) (option_map PlansKeep (one_behind (codes "keep ") 98 (with_number (codes "export ") i ++ with_number (codes " ") p))))
    (two_behind_written (codes "export ") 98 1_199 i p (omega arith) (omega arith) i_below p_below)

keep_written : (i : ℕ) → i ≤ 98 → event_of_line (with_number (codes "keep ") i) ≡ Some (PlansKeep i)
keep_written i below = ap (option_map PlansKeep) (number_written (codes "keep ") 0 98 i (omega arith) (omega arith) below)

-- a line that is an event is read as it, and what stands behind it is left
event_line_written : (u : Unread) (l rest : List ℕ) (e : Planned) → lacks 10 l ≡ true → event_of_line l ≡ Some e → left u ≡ line l ++ rest
    → (v : Unread) × (line_event u ≡ Ok (e, v)) × (left v ≡ rest)
unfolding line_event
event_line_written u l rest e h is stands =
    let next = line_written Event u l rest h stands in (
      next.0,
      ok_step_from (first_line Event u) _ (l, next.0) _ next.1 (some_step_from (event_of_line l) _ _ e _ is refl),
      next.2,
    )

-- ---- a journal

journal_written : (u : Unread) (ls : TextLines) (rest : List ℕ) → AreLines 1_001 ls → left u ≡ section_text (codes "journal ") ls ++ rest
    → (v : Unread) × (journal_event u ≡ Ok (PlansJournal ls, v)) × (left v ≡ rest)
unfolding journal_event
journal_written u ls rest are stands =
    let s = section_written Event (codes "journal ") 1_001 u ls rest (omega arith) refl are stands in
    let lines : (lines_in s.0.text).lines ≡ ls = ap (λ t. (lines_in t).lines) s.2 ∙ ap (λ x. x.lines) (lines_of_text ls are.whole) in
    (s.0.rest, ok_step_from (section_in Event (codes "journal ") 1_001 u) _ s.0 _ s.1 (ap (λ x. Ok (PlansJournal x, s.0.rest)) lines), s.3)

-- ---- a revival

revival_line_written : (i n : ℕ) → i ≤ 98 → 1 ≤ n → n ≤ 200_000 → revival_of_line (with_number (codes "revive ") i ++ with_number (codes " ") n) ≡ Some (i, n)
revival_line_written i n below some most =
    ap if_lines (two_behind_written (codes "revive ") 98 200_000 i n (omega arith) (omega arith) below most) ∙ cond-true (nat_le 1 n) _ None (le-leb _ _ some)

revival_written : (u : Unread) (i : ℕ) (ls : TextLines) (rest : List ℕ) → i ≤ 98 → AreLines 200_000 ls → left u ≡ section_text (revival_word i) ls ++ rest
    → (v : Unread) × (revival_event u ≡ Ok (PlansRevival i ls, v)) × (left v ≡ rest)
revival_written u i ls rest below are stands =
    let n = length ls in
    let l = with_number (codes "revive ") i ++ with_number (codes " ") n in
    let is_line : with_number (revival_word i) n ≡ l = append_assoc (with_number (codes "revive ") i) (codes " ") (decimal n) in
    let apart : left u ≡ line l ++ (lines_text ls ++ rest) =
    stands ∙ append_assoc (line (with_number (revival_word i) n)) (lines_text ls) rest ∙ ap (λ t. line t ++ (lines_text ls ++ rest)) is_line in
    let opening = line_written Event u l (lines_text ls ++ rest) (two_lack_feed (codes "revive ") i n refl (omega (arith, below)) (omega (arith, are.at_most))) apart in
    let lines = lines_written opening.0 ls rest are.whole opening.2 in
    let text : (lines_in (section_of n opening.0).text).lines ≡ ls = ap (λ t. (lines_in t).lines) lines.1 ∙ ap (λ x. x.lines) (lines_of_text ls are.whole) in (
      (section_of n opening.0).rest,
      revival_taken u opening.0 l i n opening.1 (revival_line_written i n below are.some are.at_most) lines.0
          ∙ ap (λ x. Ok (PlansRevival i x, (section_of n opening.0).rest)) text,
      lines.2,
    )

-- ---- an event

abbrev IsReadAs : Unread → Planned → List ℕ → Type 0
IsReadAs u e rest = (v : Unread) × (event_in u ≡ Ok (e, v)) × (left v ≡ rest)

is_journal : (u : Unread) (ls : TextLines) (rest : List ℕ) → AreLines 1_001 ls → left u ≡ section_text (codes "journal ") ls ++ rest → IsReadAs u (PlansJournal ls) rest
unfolding event_in
is_journal u ls rest are stands =
    let read = journal_written u ls rest are stands in
    let begins : begins_with (codes "journal ") (left u) ≡ true = ap (begins_with (codes "journal ")) stands in
    (read.0, cond-true _ _ _ begins ∙ read.1, read.2)

is_line : (u : Unread) (l rest : List ℕ) (e : Planned) → lacks 10 l ≡ true → event_of_line l ≡ Some e → begins_with (codes "journal ") (line l ++ rest) ≡ false
    → begins_with (codes "revive ") (line l ++ rest) ≡ false → left u ≡ line l ++ rest → IsReadAs u e rest
unfolding event_in
is_line u l rest e h is no_journal no_revival stands =
    let read = event_line_written u l rest e h is stands in
    let journals : begins_with (codes "journal ") (left u) ≡ false = ap (begins_with (codes "journal ")) stands ∙ no_journal in
    let revives : begins_with (codes "revive ") (left u) ≡ false = ap (begins_with (codes "revive ")) stands ∙ no_revival in
    (read.0, cond-false _ _ _ journals ∙ cond-false _ _ _ revives ∙ read.1, read.2)

is_revival : (u : Unread) (i : ℕ) (ls : TextLines) (rest : List ℕ) → i ≤ 98 → AreLines 200_000 ls → left u ≡ section_text (revival_word i) ls ++ rest → IsReadAs u (PlansRevival i ls) rest
unfolding event_in
is_revival u i ls rest below are stands =
    let read = revival_written u i ls rest below are stands in
    let journals : begins_with (codes "journal ") (left u) ≡ false = ap (begins_with (codes "journal ")) stands in
    let revives : begins_with (codes "revive ") (left u) ≡ true = ap (begins_with (codes "revive ")) stands in
    (read.0, cond-false _ _ _ journals ∙ cond-true _ _ _ revives ∙ read.1, read.2)

-- an event at the front is read, and what stands behind it is left
pub event_written : (u : Unread) (e : Planned) (rest : List ℕ) → IsPlanned e → left u ≡ planned_text e ++ rest
    → (v : Unread) × (event_in u ≡ Ok (e, v)) × (left v ≡ rest)
event_written u (PlansJournal ls) rest is stands = is_journal u ls rest is stands
event_written u (PlansDelivery k i) rest is stands =
    is_line u (with_number (codes "deliver ") k ++ with_number (codes " ") i) rest (PlansDelivery k i)
    (two_lack_feed (codes "deliver ") k i refl (omega (arith, is.0)) (omega (arith, is.1))) (delivery_written k i is.0 is.1) refl refl stands
event_written u (PlansStart i) rest is stands =
    is_line u (with_number (codes "start ") i) rest (PlansStart i) (number_lacks_feed (codes "start ") i refl (omega arith)) (start_written i is) refl refl stands
event_written u (PlansRestart i) rest is stands =
    is_line u (with_number (codes "restart ") i) rest (PlansRestart i) (number_lacks_feed (codes "restart ") i refl (omega arith)) (restart_written i is) refl refl stands
event_written u (PlansExport i p) rest is stands =
    is_line u (with_number (codes "export ") i ++ with_number (codes " ") p) rest (PlansExport i p)
    (two_lack_feed (codes "export ") i p refl (omega (arith, is.0)) (omega (arith, is.1))) (export_written i p is.0 is.1) refl refl stands
event_written u (PlansKeep i) rest is stands =
    is_line u (with_number (codes "keep ") i) rest (PlansKeep i) (number_lacks_feed (codes "keep ") i refl (omega arith)) (keep_written i is) refl refl stands
event_written u (PlansRevival i ls) rest is stands = is_revival u i ls rest is.0 is.1 stands

-- ---- all events

events_end : (most : ℕ) (u : Unread) → left u ≡ [] → events_in most u ≡ Ok []
unfolding events_in
events_end zero u none = refl
events_end (suc most) u none = ap (λ t. cond (is_empty t) (Ok []) (event_in u >>= λ (e : Planned × Unread). events_in most e.1 >>= λ (es : List Planned). Ok (e.0 ∷ es))) none

events_next : (most : ℕ) (u v : Unread) (e : Planned) (es : List Planned) → 0 < length (left u) → event_in u ≡ Ok (e, v) → events_in most v ≡ Ok es
    → events_in (suc most) u ≡ Ok (e ∷ es)
unfolding events_in
events_next most u v e es some first others =
    nonempty (left u) _ _ some
    ∙ ok_step_from (event_in u) _ (e, v) _ first (ok_step_from (events_in most v) _ es _ others refl)

-- events of which nothing is left are read, where no more are asked for than bytes are left
pub events_written : (most : ℕ) (u : Unread) (es : List Planned) → All IsPlanned es → length (left u) ≤ most → left u ≡ flat_map planned_text es
    → events_in most u ≡ Ok es
events_written most u [] are short stands = events_end most u stands
events_written zero u (e ∷ es) are short stands =
    absurd (omega (arith, event_long e, length-append (planned_text e) (flat_map planned_text es), ap length stands, short))
events_written (suc most) u (e ∷ es) are short stands =
    let first = event_written u e (flat_map planned_text es) (All-head IsPlanned e es are) stands in
    let long : length (left u) ≡ length (planned_text e) + length (left first.0) =
    ap length stands ∙ length-append (planned_text e) (flat_map planned_text es) ∙ ap (λ t. length (planned_text e) + length t) (sym first.2) in
    let others = events_written most first.0 es (All-tail IsPlanned e es are) (omega (arith, long, event_long e, short)) first.2 in
    events_next most u first.0 e es (omega (arith, long, event_long e)) first.1 others
