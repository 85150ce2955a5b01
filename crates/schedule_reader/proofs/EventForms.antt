-- Events that were read stand at the front of what was left.
use Rattle.std.proofs.Common.{◌≡◌, ℕ, zero, suc, ◌+◌, ◌<◌, ◌≤◌, ◌^◌, ◌==◌, leb-true, le-leb, Bool, true, false, cond, List, [], ◌∷◌, ◌++◌, length, take, drop, Option, Some, None, Result, Ok, decimal, codes, refl, sym, ap, ap₂, ◌∙◌, subst, arith, append_assoc, get_or, eqb-true, All}
use Rattle.std.specs.Prelude.{nat_le}
use Rattle.std.specs.List.{position, flat_map}
use Rattle.std.specs.Option.{option_map}
use Rattle.std.proofs.lemmas.List.{length-append, take-append-drop}
use Rattle.std.proofs.lemmas.List.Elements.{All-nil, All-cons}
use Rattle.std.proofs.lemmas.List.Quantifiers.{position-Some}
use Rattle.std.proofs.lemmas.Option.{none-some, same_Some}
use Rattle.metering_model.specs.Batch.{is_empty}
use Rattle.metering_model.specs.BatchReading.{lines_in, whole_in}
use Rattle.metering_model.specs.FirstFailure.{◌>>=◌}
use Rattle.metering_model.specs.Schedule.{Planned, PlansJournal, PlansDelivery, PlansStart, PlansRestart, PlansExport, PlansKeep, PlansRevival, IsPlanned, TextLines, planned_text, lines_text}
use Rattle.metering_model.specs.Transcript.{line, with_number}
use Rattle.metering_model.proofs.FieldLaws.{same_read, whole_read}
use Rattle.metering_model.proofs.Splitting.{lines_of_text}
use Rattle.metering_model.proofs.StepLaws.{step_ok, some_step, test_step, ok_same, ok_step_from, some_step_from, test_step_from}
use Rattle.input_sections.specs.declared.faults.ScheduleCode.TheVariants.{Event}
use Rattle.input_sections.specs.declared.faults.ScheduleFault.{ScheduleFault}
use Rattle.input_sections.specs.Sections.{Unread, Section, left, lines_left, begins_with, first_line, section_of, section_in}
use Rattle.schedule_reader.specs.Schedules.{one_behind, both, two_at, two_in, two_behind, or_else, event_of_line, line_event, journal_event, if_lines, revival_of_line, revival_event, event_in, events_in}
use Rattle.schedule_reader.proofs.LineForms.{line_read, number_read, section_front, section_read, front_lines, front_whole}

-- ---- two numbers

pub parted : (t : List ℕ) (i : ℕ) → i < length t → get_or t i 0 ≡ 32 → t ≡ take i t ++ 32 ∷ drop (i + 1) t
parted [] i less is = absurd (omega arith)
parted (c ∷ cs) zero less is = ap (λ x. x ∷ cs) is
parted (c ∷ cs) (suc i) less is =
    let next : suc i + 1 ≡ suc (i + 1) = omega arith in
    ap (λ t. c ∷ t) (parted cs i (omega arith) is) ∙ ap (λ n. c ∷ (take i cs ++ 32 ∷ drop n (c ∷ cs))) (sym next)

pub both_read : (o p : Option ℕ) (m n : ℕ) → both o p ≡ Some (m, n) → (o ≡ Some m) × (p ≡ Some n)
both_read (Some a) (Some b) m n h = (ap (λ x. Some x.0) (same_Some _ _ h), ap (λ x. Some x.1) (same_Some _ _ h))
both_read (Some a) None m n h = absurd (none-some _ h)
both_read None p m n h = absurd (none-some _ h)

two_read : (first second : ℕ) (t : List ℕ) (m n : ℕ) → first < 10 ^ 64 → second < 10 ^ 64 → two_in first second t ≡ Some (m, n)
    → (t ≡ decimal m ++ with_number (codes " ") n) × (m ≤ first) × (n ≤ second)
two_read first second t m n small small_too h = cases (position (λ c. c == 32) t) refl h
  where
    cases : (o : Option ℕ) → position (λ c. c == 32) t ≡ o → two_at first second t o ≡ Some (m, n)
        → (t ≡ decimal m ++ with_number (codes " ") n) × (m ≤ first) × (n ≤ second)
    cases (Some i) e k =
        let numbers = both_read (whole_in 0 first (take i t)) (whole_in 0 second (drop (i + 1) t)) m n k in
        let one = whole_read 0 first (take i t) m small numbers.0 in
        let other = whole_read 0 second (drop (i + 1) t) n small_too numbers.1 in
        let at = position-Some (λ c. c == 32) t i 0 e in
        (parted t i at.0 (eqb-true _ _ at.1) ∙ ap₂ (λ a b. a ++ 32 ∷ b) one.0 other.0, one.2, other.2)
    cases None e k = absurd (none-some _ k)

two_behind_read : (word : List ℕ) (first second : ℕ) (l : List ℕ) (m n : ℕ) → first < 10 ^ 64 → second < 10 ^ 64 → two_behind word first second l ≡ Some (m, n)
    → (l ≡ with_number word m ++ with_number (codes " ") n) × (m ≤ first) × (n ≤ second)
two_behind_read word first second l m n small small_too h = cases (begins_with word l) refl h
  where
    cases : (b : Bool) → begins_with word l ≡ b → cond b (two_in first second (drop (length word) l)) None ≡ Some (m, n)
        → (l ≡ with_number word m ++ with_number (codes " ") n) × (m ≤ first) × (n ≤ second)
    cases true e k =
        let two = two_read first second (drop (length word) l) m n small small_too k in (
          sym (take-append-drop (length word) l) ∙ ap₂ (λ a b. a ++ b) (same_read (take (length word) l) word e) two.0
              ∙ sym (append_assoc word (decimal m) (with_number (codes " ") n)),
          two.1,
          two.2,
        )
    cases false e k = absurd (none-some _ k)

-- ---- an event of one line

abbrev Writes : List ℕ → Planned → Type 0
Writes l e = (line l ≡ planned_text e) × IsPlanned e

-- whatever event is answered writes that line
abbrev Answers : List ℕ → Option Planned → Type 0
Answers l o = (e : Planned) → o ≡ Some e → Writes l e

either : (l : List ℕ) (o p : Option Planned) → Answers l o → Answers l p → Answers l (or_else o p)
either l (Some x) p here later e h = here e h
either l None p here later e h = later e h

mapped : {A : Type 0} (l : List ℕ) (f : A → Planned) (o : Option A) → ((x : A) → o ≡ Some x → Writes l (f x)) → Answers l (option_map f o)
mapped l f (Some x) each e h = subst (Writes l) (same_Some (f x) e h) (each x refl)
mapped l f None each e h = absurd (none-some e h)

pub event_line_read : (l : List ℕ) (e : Planned) → event_of_line l ≡ Some e → (line l ≡ planned_text e) × IsPlanned e
event_line_read l =
    either l _ _ (mapped l (λ n. PlansDelivery n.0 n.1) (two_behind (codes "deliver ") 999_999 98 l)
    (λ x h. let r = two_behind_read (codes "deliver ") 999_999 98 l x.0 x.1 (omega arith) (omega arith) h in (ap line r.0, (r.1, r.2))))
    (either l _ _ (mapped l PlansStart (one_behind (codes "start ") 98 l)
    (λ x h. let r = number_read (codes "start ") 0 98 l x (omega arith) h in (ap line r.0, r.2)))
    (either l _ _ (mapped l PlansRestart (one_behind (codes "restart ") 98 l)
    (λ x h. let r = number_read (codes "restart ") 0 98 l x (omega arith) h in (ap line r.0, r.2)))
    (either l _ _ (mapped l (λ n. PlansExport n.0 n.1) (two_behind (codes "export ") 98 1_199 l)
    (λ x h. let r = two_behind_read (codes "export ") 98 1_199 l x.0 x.1 (omega arith) (omega arith) h in (ap line r.0, (r.1, r.2))))
    (mapped l PlansKeep (one_behind (codes "keep ") 98 l)
    (λ x h. let r = number_read (codes "keep ") 0 98 l x (omega arith) h in (ap line r.0, r.2))))))

-- ---- an event

-- it stands at the front of what was left, within its limits
abbrev Stands : Unread → Planned × Unread → Type 0
Stands u r = (left u ≡ planned_text r.0 ++ left r.1) × IsPlanned r.0

line_event_read : (u : Unread) (r : Planned × Unread) → line_event u ≡ Ok r → Stands u r
unfolding line_event
line_event_read u r h =
    let l = step_ok (first_line Event u) _ r h in
    let e = some_step (event_of_line l.0.0) _ _ r l.2 in
    let writes = event_line_read l.0.0 e.0 e.1 in
    let front = (line_read Event u l.0.0 l.0.1 l.1).0 in
    subst (Stands u) (ok_same _ _ e.2) (front ∙ ap (λ t. t ++ left l.0.1) writes.0, writes.1)

journal_event_read : (u : Unread) (r : Planned × Unread) → journal_event u ≡ Ok r → Stands u r
unfolding journal_event
journal_event_read u r h =
    let s = step_ok (section_in Event (codes "journal ") 1_001 u) _ r h in
    let read = section_read Event (codes "journal ") 1_001 u s.0 (omega arith) s.1 in
    let ls : (lines_in s.0.text).lines ≡ read.0 = ap (λ t. (lines_in t).lines) read.3 ∙ ap (λ x. x.lines) (lines_of_text read.0 read.1.whole) in
    let stands : Stands u (PlansJournal read.0, s.0.rest) = (read.2, read.1) in
    subst (Stands u) (ap (λ x. (PlansJournal x, s.0.rest)) (sym ls) ∙ ok_same _ _ s.2) stands

-- the text of a section is whole lines
pub section_whole : (word : List ℕ) (most : ℕ) (u : Unread) (s : Section) → most < 10 ^ 64 → section_in Event word most u ≡ Ok s → lines_text (lines_in s.text).lines ≡ s.text
section_whole word most u s small h =
    let read = section_read Event word most u s small h in
    let ls : (lines_in s.text).lines ≡ read.0 = ap (λ t. (lines_in t).lines) read.3 ∙ ap (λ x. x.lines) (lines_of_text read.0 read.1.whole) in
    ap lines_text ls ∙ sym read.3

-- ---- a revival

if_lines_read : (o : Option (ℕ × ℕ)) (i n : ℕ) → if_lines o ≡ Some (i, n) → (o ≡ Some (i, n)) × (1 ≤ n)
if_lines_read None i n h = absurd (none-some _ h)
if_lines_read (Some p) i n h = by_test (nat_le 1 p.1) refl h
  where
    by_test : (b : Bool) → nat_le 1 p.1 ≡ b → cond b (Some p) None ≡ Some (i, n) → (◌≡◌ {A = Option (ℕ × ℕ)} (Some p) (Some (i, n))) × (1 ≤ n)
    by_test true e k =
        let same : ◌≡◌ {A = ℕ × ℕ} p (i, n) = same_Some _ _ k in
        (k, subst (λ (q : ℕ × ℕ). 1 ≤ q.1) same (leb-true _ _ e))
    by_test false e k = absurd (none-some _ k)

-- the word in front of the number of lines
abbrev pub revival_word : ℕ → List ℕ
revival_word i = with_number (codes "revive ") i ++ codes " "

revival_line_read : (l : List ℕ) (i n : ℕ) → revival_of_line l ≡ Some (i, n) → (l ≡ with_number (revival_word i) n) × (i ≤ 98) × (1 ≤ n) × (n ≤ 200_000)
revival_line_read l i n h =
    let some = if_lines_read (two_behind (codes "revive ") 98 200_000 l) i n h in
    let two = two_behind_read (codes "revive ") 98 200_000 l i n (omega arith) (omega arith) some.0 in
    (two.0 ∙ sym (append_assoc (with_number (codes "revive ") i) (codes " ") (decimal n)), two.1, some.1, two.2)

revival_event_read : (u : Unread) (r : Planned × Unread) → revival_event u ≡ Ok r → Stands u r
unfolding revival_event
revival_event_read u r h =
    let opening = step_ok (first_line Event u) _ r h in
    let numbers = some_step (revival_of_line opening.0.0) _ _ r opening.2 in
    let below = opening.0.1 in
    let i = numbers.0.0 in
    let n = numbers.0.1 in
    let enough = test_step (nat_le n (length (lines_left below))) _ _ r numbers.2 in
    let told = revival_line_read opening.0.0 i n numbers.1 in
    let ls : TextLines = take n (lines_left below) in
    let are = front_lines n 200_000 below told.2 told.3 (leb-true _ _ enough.0) in
    let head = line (with_number (revival_word i) (length ls)) in
    let is_head : line opening.0.0 ≡ head = ap line (told.0 ∙ ap (with_number (revival_word i)) (sym are.0)) in
    let rest = left (section_of n below).rest in
    let joined : left u ≡ head ++ (lines_text ls ++ rest) = (line_read Event u opening.0.0 below opening.1).0 ∙ ap₂ (λ a b. a ++ b) is_head (section_front n below) in
    let lines : (lines_in (section_of n below).text).lines ≡ ls = ap (λ x. x.lines) (lines_of_text ls are.1.whole) in
    let stands : Stands u (PlansRevival i ls, (section_of n below).rest) = (joined ∙ sym (append_assoc head (lines_text ls) rest), (told.1, are.1)) in
    subst (Stands u) (ap (λ x. (PlansRevival i x, (section_of n below).rest)) (sym lines) ∙ ok_same _ _ enough.1) stands

-- it is read where its opening line, its numbers and its lines are
pub revival_taken : (u below : Unread) (l : List ℕ) (i n : ℕ) → first_line Event u ≡ Ok (l, below) → revival_of_line l ≡ Some (i, n) → n ≤ length (lines_left below)
    → revival_event u ≡ Ok (PlansRevival i (lines_in (section_of n below).text).lines, (section_of n below).rest)
unfolding revival_event
revival_taken u below l i n first numbers enough =
    ok_step_from (first_line Event u) _ (l, below) _ first
    (some_step_from (revival_of_line l) _ _ (i, n) _ numbers
    (test_step_from _ _ _ _ (le-leb n (length (lines_left below)) enough) refl))

-- its text is whole lines
pub revival_whole : (n : ℕ) (below : Unread) → lines_text (lines_in (section_of n below).text).lines ≡ (section_of n below).text
revival_whole n below = ap (λ x. lines_text x.lines) (lines_of_text (take n (lines_left below)) (front_whole n below))

-- ---- whatever event

pub event_read : (u : Unread) (r : Planned × Unread) → event_in u ≡ Ok r → (left u ≡ planned_text r.0 ++ left r.1) × IsPlanned r.0
unfolding event_in
event_read u r h = cases (begins_with (codes "journal ") (left u)) h
  where
    no_journal : (b : Bool) → cond b (revival_event u) (line_event u) ≡ Ok r → Stands u r
    no_journal true k = revival_event_read u r k
    no_journal false k = line_event_read u r k

    cases : (b : Bool) → cond b (journal_event u) (cond (begins_with (codes "revive ") (left u)) (revival_event u) (line_event u)) ≡ Ok r → Stands u r
    cases true k = journal_event_read u r k
    cases false k = no_journal (begins_with (codes "revive ") (left u)) k

-- ---- all events

line_long : (l t : List ℕ) → 0 < length (line l ++ t)
line_long l t = omega (arith, length-append (line l) t, length-append l (10 ∷ []))

pub event_long : (e : Planned) → 0 < length (planned_text e)
event_long (PlansJournal ls) = line_long (with_number (codes "journal ") (length ls)) (lines_text ls)
event_long (PlansDelivery k i) = omega (arith, length-append (with_number (codes "deliver ") k ++ with_number (codes " ") i) (10 ∷ []))
event_long (PlansStart i) = omega (arith, length-append (with_number (codes "start ") i) (10 ∷ []))
event_long (PlansRestart i) = omega (arith, length-append (with_number (codes "restart ") i) (10 ∷ []))
event_long (PlansExport i p) = omega (arith, length-append (with_number (codes "export ") i ++ with_number (codes " ") p) (10 ∷ []))
event_long (PlansKeep i) = omega (arith, length-append (with_number (codes "keep ") i) (10 ∷ []))
event_long (PlansRevival i ls) = line_long (with_number (revival_word i) (length ls)) (lines_text ls)

abbrev AreAll : List ℕ → List Planned → Type 0
AreAll t es = (t ≡ flat_map planned_text es) × All IsPlanned es

empty_left : (t : List ℕ) → length t ≤ 0 → t ≡ []
empty_left [] h = refl
empty_left (c ∷ cs) h = absurd (omega arith)

-- where each event behind stands, so does one more in front
events_step : (most : ℕ) (u : Unread) (es : List Planned) → length (left u) ≤ suc most
    → ((v : Unread) (rest : List Planned) → length (left v) ≤ most → events_in most v ≡ Ok rest → AreAll (left v) rest)
    → (event_in u >>= λ (e : Planned × Unread). events_in most e.1 >>= λ (rest : List Planned). Ok (e.0 ∷ rest)) ≡ Ok es
    → AreAll (left u) es
events_step most u es short next h =
    let event = step_ok (event_in u) _ es h in
    let rest = step_ok (events_in most event.0.1) _ es event.2 in
    let stands = event_read u event.0 event.1 in
    let shorter : length (left event.0.1) ≤ most =
    omega (arith, ap length stands.0, length-append (planned_text event.0.0) (left event.0.1), event_long event.0.0, short) in
    let all = next event.0.1 rest.0 shorter rest.1 in
    subst (AreAll (left u)) (ok_same _ _ rest.2)
    (stands.0 ∙ ap (λ t. planned_text event.0.0 ++ t) all.0, All-cons IsPlanned event.0.0 rest.0 stands.1 all.1)

events_more : (t : List ℕ) (u : Unread) (es : List Planned) (r : Result (List Planned) ScheduleFault) → left u ≡ t → (r ≡ Ok es → AreAll (left u) es)
    → cond (is_empty t) (Ok []) r ≡ Ok es → AreAll (left u) es
events_more [] u es r e later h = subst (AreAll (left u)) (ok_same _ _ h) (e, All-nil IsPlanned)
events_more (c ∷ cs) u es r e later h = later h

pub events_read : (most : ℕ) (u : Unread) (es : List Planned) → length (left u) ≤ most → events_in most u ≡ Ok es
    → (left u ≡ flat_map planned_text es) × All IsPlanned es
unfolding events_in
events_read zero u es short h = subst (AreAll (left u)) (ok_same _ _ h) (empty_left (left u) short, All-nil IsPlanned)
events_read (suc most) u es short h =
    events_more (left u) u es _ refl (events_step most u es short (λ v rest less is. events_read most v rest less is)) h
