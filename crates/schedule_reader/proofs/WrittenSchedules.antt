-- The text of a schedule, of which sheet and issuer are read, is read as it.
use Rattle.std.proofs.Common.{◌≡◌, ℕ, ◌+◌, ◌<◌, ◌≤◌, ◌^◌, true, List, ◌++◌, length, Ok, codes, refl, ap, ◌∙◌, arith, le-leb, append_assoc}
use Rattle.std.specs.Prelude.{nat_le}
use Rattle.std.specs.List.{flat_map}
use Rattle.std.specs.Str.{is_utf8}
use Rattle.std.proofs.lemmas.List.{length-append}
use Rattle.std.proofs.lemmas.Str.{IsUtf8-from_is_utf8}
use Rattle.metering_model.specs.Batch.{lacks}
use Rattle.metering_model.specs.Schedule.{Schedule, TextLines, AreLines, planned_text, nodes_text, lines_text, section_text}
use Rattle.metering_model.specs.Sheet as model
use Rattle.metering_model.specs.Transcript.{line, with_number}
use Rattle.metering_model.proofs.StepLaws.{ok_step_from, some_step_from, test_step_from}
use Rattle.input_sections.specs.SheetReading.{sheet_of_text}
use Rattle.input_sections.specs.IssuerReading.{issuer_of_text}
use Rattle.input_sections.specs.declared.faults.ScheduleCode.{ScheduleCode}
use Rattle.input_sections.specs.declared.faults.ScheduleCode.TheVariants.{Head, Agents, Sheet, Issuer, TooLong}
use Rattle.input_sections.specs.declared.faults.ScheduleFault.TheVariants.{Refused}
use Rattle.input_sections.specs.Sections.{Unread, left, whole_of, first_line, number_behind, section_in, read_as, sheet_section, issuer_section}
use Rattle.input_sections.proofs.ReadLaws.{read_well}
use Rattle.schedule_reader.specs.Schedules.{ReadSchedule, head_line, nodes_line, number_line, group_in, schedule_in}
use Rattle.schedule_reader.specs.Forms.{IsReadOf, IsRead}
use Rattle.schedule_reader.proofs.WrittenLines.{line_written, number_written, number_lacks_feed, section_written}
use Rattle.schedule_reader.proofs.WrittenEvents.{events_written}
use Rattle.schedule_reader.proofs.NodeLines.{nodes_line_written}
use Rattle.schedule_reader.proofs.ScheduleForms.{schedule_taken}

-- ---- the lines at the head

head_written : (u : Unread) (rest : List ℕ) → left u ≡ line (codes "SCHEDULE 1") ++ rest
    → (v : Unread) × (head_line u ≡ Ok v) × (left v ≡ rest)
unfolding head_line
head_written u rest stands =
    let next = line_written Head u (codes "SCHEDULE 1") rest refl stands in (
      next.0,
      ok_step_from (first_line Head u) _ (codes "SCHEDULE 1", next.0) _ next.1 refl,
      next.2,
    )

number_line_written : (code : ScheduleCode) (word : List ℕ) (most : ℕ) (u : Unread) (n : ℕ) (rest : List ℕ) → lacks 10 word ≡ true → most < 10 ^ 64 → 1 ≤ n → n ≤ most
    → left u ≡ line (with_number word n) ++ rest
    → (v : Unread) × (number_line code word most u ≡ Ok (n, v)) × (left v ≡ rest)
unfolding number_line
number_line_written code word most u n rest h small some below stands =
    let next = line_written code u (with_number word n) rest (number_lacks_feed word n h (omega arith)) stands in (
      next.0,
      ok_step_from (first_line code u) _ (with_number word n, next.0) _ next.1
          (some_step_from (number_behind word most (with_number word n)) _ _ n _ (number_written word 1 most n small some below) refl),
      next.2,
    )

group_written : (text : List ℕ) (voters observers agents : ℕ) (rest : List ℕ) → length text ≤ 16_777_216 → (1 ≤ voters) × (voters + observers ≤ 99) → (1 ≤ agents) × (agents ≤ 64)
    → text ≡ line (codes "SCHEDULE 1") ++ (line (nodes_text voters observers) ++ (line (with_number (codes "agents ") agents) ++ rest))
    → (v : Unread) × (group_in text ≡ Ok (voters, observers, agents, v)) × (left v ≡ rest)
unfolding group_in
group_written text voters observers agents rest short nodes_in agents_in joined =
    let whole : Unread = record { text = text; from = 0; line = 1 } in
    let taken : whole_of text ≡ Ok whole = test_step_from (nat_le (length text) 16_777_216) (Refused TooLong 1) _ _ (le-leb (length text) 16_777_216 short) refl in
    let head = head_written whole _ joined in
    let node = nodes_line_written head.0 voters observers _ nodes_in.0 nodes_in.1 head.2 in
    let agent = number_line_written Agents (codes "agents ") 64 node.0 agents rest refl (omega arith) agents_in.0 agents_in.1 node.2 in (
      agent.0,
      ok_step_from (whole_of text) _ whole _ taken
          (ok_step_from (head_line whole) _ head.0 _ head.1
          (ok_step_from (nodes_line head.0) _ (voters, observers, node.0) _ node.1
          (ok_step_from (number_line Agents (codes "agents ") 64 node.0) _ (agents, agent.0) _ agent.1 refl))),
      agent.2,
    )

-- ---- the sections

sheet_written : (u : Unread) (ls : TextLines) (sheet : model.Sheet) (rest : List ℕ) → AreLines 200_000 ls → is_utf8 (lines_text ls) ≡ true
    → sheet_of_text (lines_text ls) ≡ Ok sheet → left u ≡ section_text (codes "sheet ") ls ++ rest
    → (v : Unread) × (sheet_section u ≡ Ok (sheet, v)) × (left v ≡ rest)
unfolding sheet_section
sheet_written u ls sheet rest are utf8 is stands =
    let s = section_written Sheet (codes "sheet ") 200_000 u ls rest (omega arith) refl are stands in
    let read : read_as sheet_of_text (Refused Sheet u.line) s.0.text ≡ Ok sheet =
    ap (read_as sheet_of_text (Refused Sheet u.line)) s.2 ∙ read_well sheet_of_text (Refused Sheet u.line) (lines_text ls) sheet (IsUtf8-from_is_utf8 (lines_text ls) utf8) is in
    (s.0.rest, ok_step_from (section_in Sheet (codes "sheet ") 200_000 u) _ s.0 _ s.1 (ok_step_from _ _ sheet _ read refl), s.3)

issuer_written : (u : Unread) (ls : TextLines) (issuer : model.Issuer) (rest : List ℕ) → AreLines 100 ls → is_utf8 (lines_text ls) ≡ true
    → issuer_of_text (lines_text ls) ≡ Ok issuer → left u ≡ section_text (codes "issuer ") ls ++ rest
    → (v : Unread) × (issuer_section u ≡ Ok (issuer, v)) × (left v ≡ rest)
unfolding issuer_section
issuer_written u ls issuer rest are utf8 is stands =
    let s = section_written Issuer (codes "issuer ") 100 u ls rest (omega arith) refl are stands in
    let read : read_as issuer_of_text (Refused Issuer u.line) s.0.text ≡ Ok issuer =
    ap (read_as issuer_of_text (Refused Issuer u.line)) s.2 ∙ read_well issuer_of_text (Refused Issuer u.line) (lines_text ls) issuer (IsUtf8-from_is_utf8 (lines_text ls) utf8) is in
    (s.0.rest, ok_step_from (section_in Issuer (codes "issuer ") 100 u) _ s.0 _ s.1 (ok_step_from _ _ issuer _ read refl), s.3)

-- ---- the whole

-- six texts in a row, the first on the outside
rejoined : (a b c d e f : List ℕ) → a ++ b ++ c ++ d ++ e ++ f ≡ a ++ (b ++ (c ++ (d ++ (e ++ f))))
rejoined a b c d e f =
    append_assoc (a ++ b ++ c ++ d) e f ∙ append_assoc (a ++ b ++ c) d (e ++ f) ∙ append_assoc (a ++ b) c (d ++ (e ++ f)) ∙ append_assoc a b (c ++ (d ++ (e ++ f)))

-- what is read of a schedule's text
abbrev read_of : Schedule → model.Sheet → model.Issuer → ReadSchedule
read_of s sheet issuer = record { voters = s.voters; observers = s.observers; agents = s.agents; sheet = sheet; issuer = issuer; events = s.events }

is_read_of : (text : List ℕ) (r : ReadSchedule) (s : Schedule) → IsReadOf text r s → schedule_in text ≡ Ok (read_of s r.sheet r.issuer)
is_read_of text r s is =
    let form = is.form in
    let joined = form.joined ∙ rejoined (line (codes "SCHEDULE 1")) (line (nodes_text s.voters s.observers)) (line (with_number (codes "agents ") s.agents))
    (section_text (codes "sheet ") s.sheet) (section_text (codes "issuer ") s.issuer) (flat_map planned_text s.events) in
    let group = group_written text s.voters s.observers s.agents _ form.short form.nodes form.agents joined in
    let sheet = sheet_written group.0 s.sheet r.sheet _ form.sheet is.sheet_utf8 is.sheet group.2 in
    let issuer = issuer_written sheet.0 s.issuer r.issuer _ form.issuer is.issuer_utf8 is.issuer sheet.2 in
    let short : length (left issuer.0) ≤ length text = omega (
      arith,
      ap length joined,
      length-append (line (codes "SCHEDULE 1")) (line (nodes_text s.voters s.observers) ++ (line (with_number (codes "agents ") s.agents) ++ (section_text (codes "sheet ") s.sheet ++ (section_text (codes "issuer ") s.issuer ++ flat_map planned_text s.events)))),
      length-append (line (nodes_text s.voters s.observers)) (line (with_number (codes "agents ") s.agents) ++ (section_text (codes "sheet ") s.sheet ++ (section_text (codes "issuer ") s.issuer ++ flat_map planned_text s.events))),
      length-append (line (with_number (codes "agents ") s.agents)) (section_text (codes "sheet ") s.sheet ++ (section_text (codes "issuer ") s.issuer ++ flat_map planned_text s.events)),
      length-append (section_text (codes "sheet ") s.sheet) (section_text (codes "issuer ") s.issuer ++ flat_map planned_text s.events),
      length-append (section_text (codes "issuer ") s.issuer) (flat_map planned_text s.events),
      ap length issuer.2,
    ) in
    schedule_taken text s.voters s.observers s.agents group.0 sheet.0 issuer.0 r.sheet r.issuer s.events group.1 sheet.1 issuer.1
    (events_written (length text) issuer.0 s.events form.events short issuer.2)

-- a text that has the form is read
pub schedule_written : (text : List ℕ) (r : ReadSchedule) → IsRead text r → schedule_in text ≡ Ok r
schedule_written text r is =
    let s = is.0 in
    is_read_of text r s is.1
    ∙ ap (λ n. Ok (record { voters = n; observers = s.observers; agents = s.agents; sheet = r.sheet; issuer = r.issuer; events = s.events })) is.1.voters
    ∙ ap (λ n. Ok (record { voters = r.voters; observers = n; agents = s.agents; sheet = r.sheet; issuer = r.issuer; events = s.events })) is.1.observers
    ∙ ap (λ n. Ok (record { voters = r.voters; observers = r.observers; agents = n; sheet = r.sheet; issuer = r.issuer; events = s.events })) is.1.agents
    ∙ ap (λ es. Ok (record { voters = r.voters; observers = r.observers; agents = r.agents; sheet = r.sheet; issuer = r.issuer; events = es })) is.1.events
