-- A text that is read as a schedule is the text of one.
use Rattle.std.proofs.Common.{◌≡◌, ℕ, ◌+◌, ◌<◌, ◌≤◌, ◌^◌, true, List, ◌++◌, length, Ok, codes, refl, sym, ap, ap₂, ◌∙◌, subst, arith, leb-true, append_assoc}
use Rattle.std.specs.Prelude.{nat_le}
use Rattle.std.specs.List.{flat_map}
use Rattle.std.specs.Str.{is_utf8}
use Rattle.std.proofs.lemmas.List.{length-append}
use Rattle.metering_model.specs.BatchReading.{is_same}
use Rattle.metering_model.specs.Schedule.{TextLines, AreLines, Planned, planned_text, nodes_text, lines_text, section_text}
use Rattle.metering_model.specs.Sheet as model
use Rattle.metering_model.specs.Transcript.{line, with_number}
use Rattle.metering_model.proofs.FieldLaws.{same_read}
use Rattle.metering_model.proofs.StepLaws.{step_ok, some_step, test_step, ok_same, ok_step_from}
use Rattle.input_sections.specs.SheetReading.{sheet_of_text}
use Rattle.input_sections.specs.IssuerReading.{issuer_of_text}
use Rattle.input_sections.specs.declared.faults.ScheduleCode.{ScheduleCode}
use Rattle.input_sections.specs.declared.faults.ScheduleCode.TheVariants.{Head, Agents, Sheet, Issuer, TooLong}
use Rattle.input_sections.specs.declared.faults.ScheduleFault.TheVariants.{Refused}
use Rattle.input_sections.specs.Sections.{Unread, left, whole_of, first_line, number_behind, section_in, read_as, sheet_section, issuer_section}
use Rattle.schedule_reader.specs.Schedules.{ReadSchedule, head_line, nodes_line, number_line, group_in, events_in, schedule_in}
use Rattle.schedule_reader.specs.Forms.{IsReadOf, IsRead}
use Rattle.schedule_reader.proofs.LineForms.{line_read, number_read, section_read, reader_took}
use Rattle.schedule_reader.proofs.EventForms.{events_read}
use Rattle.schedule_reader.proofs.NodeLines.{nodes_line_read}

whole_read : (text : List ℕ) (u : Unread) → whole_of text ≡ Ok u → (left u ≡ text) × (length text ≤ 16_777_216)
whole_read text u h =
    let test = test_step (nat_le (length text) 16_777_216) (Refused TooLong 1) _ u h in
    (ap left (sym (ok_same _ _ test.1)), leb-true _ _ test.0)

head_read : (u v : Unread) → head_line u ≡ Ok v → left u ≡ line (codes "SCHEDULE 1") ++ left v
unfolding head_line
head_read u v h =
    let l = step_ok (first_line Head u) _ v h in
    let test = test_step (is_same l.0.0 (codes "SCHEDULE 1")) _ _ v l.2 in
    (line_read Head u l.0.0 l.0.1 l.1).0
    ∙ ap₂ (λ t w. line t ++ left w) (same_read l.0.0 (codes "SCHEDULE 1") test.0) (ok_same _ _ test.1)

number_line_read : (code : ScheduleCode) (word : List ℕ) (most : ℕ) (u : Unread) (r : ℕ × Unread) → most < 10 ^ 64 → number_line code word most u ≡ Ok r
    → (left u ≡ line (with_number word r.0) ++ left r.1) × (1 ≤ r.0) × (r.0 ≤ most)
unfolding number_line
number_line_read code word most u r small h =
    let l = step_ok (first_line code u) _ r h in
    let n = some_step (number_behind word most l.0.0) _ _ r l.2 in
    let told = number_read word 1 most l.0.0 n.0 small n.1 in
    let front = (line_read code u l.0.0 l.0.1 l.1).0 ∙ ap (λ t. line t ++ left l.0.1) told.0 in
    subst (λ p. (left u ≡ line (with_number word p.0) ++ left p.1) × (1 ≤ p.0) × (p.0 ≤ most)) (ok_same _ _ n.2) (front, told.1, told.2)

-- The section of a sheet that was read, with its lines.
record IsSheetAt (u : Unread) (r : model.Sheet × Unread) (ls : TextLines) : Type 0 where
  pub are : AreLines 200_000 ls
  pub front : left u ≡ section_text (codes "sheet ") ls ++ left r.1
  pub utf8 : is_utf8 (lines_text ls) ≡ true
  pub sheet : sheet_of_text (lines_text ls) ≡ Ok r.0

sheet_read : (u : Unread) (r : model.Sheet × Unread) → sheet_section u ≡ Ok r → (ls : TextLines) × IsSheetAt u r ls
unfolding sheet_section
sheet_read u r h =
    let s = step_ok (section_in Sheet (codes "sheet ") 200_000 u) _ r h in
    let sheet = step_ok (read_as sheet_of_text (Refused Sheet u.line) s.0.text) _ r s.2 in
    let section = section_read Sheet (codes "sheet ") 200_000 u s.0 (omega arith) s.1 in
    let took = reader_took sheet_of_text (Refused Sheet u.line) s.0.text sheet.0 sheet.1 in
    let is : IsSheetAt u (sheet.0, s.0.rest) section.0 = record {
      are = section.1;
      front = section.2;
      utf8 = ap is_utf8 (sym section.3) ∙ took.0;
      sheet = ap sheet_of_text (sym section.3) ∙ took.1;
    } in
    (section.0, subst (λ p. IsSheetAt u p section.0) (ok_same _ _ sheet.2) is)

-- The section of an issuer that was read, with its lines.
record IsIssuerAt (u : Unread) (r : model.Issuer × Unread) (ls : TextLines) : Type 0 where
  pub are : AreLines 100 ls
  pub front : left u ≡ section_text (codes "issuer ") ls ++ left r.1
  pub utf8 : is_utf8 (lines_text ls) ≡ true
  pub issuer : issuer_of_text (lines_text ls) ≡ Ok r.0

issuer_read : (u : Unread) (r : model.Issuer × Unread) → issuer_section u ≡ Ok r → (ls : TextLines) × IsIssuerAt u r ls
unfolding issuer_section
issuer_read u r h =
    let s = step_ok (section_in Issuer (codes "issuer ") 100 u) _ r h in
    let issuer = step_ok (read_as issuer_of_text (Refused Issuer u.line) s.0.text) _ r s.2 in
    let section = section_read Issuer (codes "issuer ") 100 u s.0 (omega arith) s.1 in
    let took = reader_took issuer_of_text (Refused Issuer u.line) s.0.text issuer.0 issuer.1 in
    let is : IsIssuerAt u (issuer.0, s.0.rest) section.0 = record {
      are = section.1;
      front = section.2;
      utf8 = ap is_utf8 (sym section.3) ∙ took.0;
      issuer = ap issuer_of_text (sym section.3) ∙ took.1;
    } in
    (section.0, subst (λ p. IsIssuerAt u p section.0) (ok_same _ _ issuer.2) is)

shorter : (t a b : List ℕ) → t ≡ a ++ b → length b ≤ length t
shorter t a b e = omega (arith, ap length e, length-append a b)

-- a front of parts, joined from the left
joined_left : (a b c d : List ℕ) → a ++ (b ++ (c ++ d)) ≡ a ++ b ++ c ++ d
joined_left a b c d = sym (append_assoc a b (c ++ d)) ∙ sym (append_assoc (a ++ b) c d)

-- What stands in front of the sheet.
pub record IsGroupAt (text : List ℕ) (r : ℕ × ℕ × ℕ × Unread) : Type 0 where
  pub front : text ≡ line (codes "SCHEDULE 1") ++ line (nodes_text r.0 r.1) ++ line (with_number (codes "agents ") r.2) ++ left r.3
  pub short : length text ≤ 16_777_216
  pub nodes : (1 ≤ r.0) × (r.0 + r.1 ≤ 99)
  pub agents : (1 ≤ r.2) × (r.2 ≤ 64)
  pub behind : length (left r.3) ≤ length text

group_of_lines : (text : List ℕ) (u v : Unread) (nodes : ℕ × ℕ × Unread) (agents : ℕ × Unread)
    → whole_of text ≡ Ok u → head_line u ≡ Ok v → nodes_line v ≡ Ok nodes → number_line Agents (codes "agents ") 64 nodes.2 ≡ Ok agents
    → IsGroupAt text (nodes.0, nodes.1, agents.0, agents.1)
group_of_lines text u v nodes agents whole head nodes_are agents_are =
    let is_text = whole_read text u whole in
    let is_head = head_read u v head in
    let is_nodes = nodes_line_read v nodes nodes_are in
    let is_agents = number_line_read Agents (codes "agents ") 64 nodes.2 agents (omega arith) agents_are in
    record {
      front = sym is_text.0 ∙ is_head ∙ ap (λ t. line (codes "SCHEDULE 1") ++ t)
          (is_nodes.0 ∙ ap (λ t. line (nodes_text nodes.0 nodes.1) ++ t) is_agents.0)
          ∙ joined_left (line (codes "SCHEDULE 1")) (line (nodes_text nodes.0 nodes.1)) (line (with_number (codes "agents ") agents.0)) (left agents.1);
      short = is_text.1;
      nodes = (is_nodes.1, is_nodes.2);
      agents = (is_agents.1, is_agents.2);
      behind = omega (
        arith,
        ap length is_text.0,
        shorter (left u) (line (codes "SCHEDULE 1")) (left v) is_head,
        shorter (left v) (line (nodes_text nodes.0 nodes.1)) (left nodes.2) is_nodes.0,
        shorter (left nodes.2) (line (with_number (codes "agents ") agents.0)) (left agents.1) is_agents.0,
      );
    }

pub group_read : (text : List ℕ) (r : ℕ × ℕ × ℕ × Unread) → group_in text ≡ Ok r → IsGroupAt text r
unfolding group_in
group_read text r h =
    let whole = step_ok (whole_of text) _ r h in
    let head = step_ok (head_line whole.0) _ r whole.2 in
    let nodes = step_ok (nodes_line head.0) _ r head.2 in
    let agents = step_ok (number_line Agents (codes "agents ") 64 nodes.0.2) _ r nodes.2 in
    subst (IsGroupAt text) (ok_same _ _ agents.2) (group_of_lines text whole.0 head.0 nodes.0 agents.0 whole.1 head.1 nodes.1 agents.1)

schedule_of_parts : (text : List ℕ) (group : ℕ × ℕ × ℕ × Unread) (sheet : model.Sheet × Unread) (issuer : model.Issuer × Unread) (events : List Planned) (sheet_lines issuer_lines : TextLines)
    → IsGroupAt text group → IsSheetAt group.3 sheet sheet_lines → IsIssuerAt sheet.1 issuer issuer_lines → events_in (length text) issuer.1 ≡ Ok events
    → IsReadOf text (record { voters = group.0; observers = group.1; agents = group.2; sheet = sheet.0; issuer = issuer.0; events = events })
    (record { voters = group.0; observers = group.1; agents = group.2; sheet = sheet_lines; issuer = issuer_lines; events = events })
schedule_of_parts text group sheet issuer events sheet_lines issuer_lines is_group is_sheet is_issuer are =
    let short : length (left issuer.1) ≤ length text = omega (
      arith,
      is_group.behind,
      shorter (left group.3) (section_text (codes "sheet ") sheet_lines) (left sheet.1) is_sheet.front,
      shorter (left sheet.1) (section_text (codes "issuer ") issuer_lines) (left issuer.1) is_issuer.front,
    ) in
    let are_events = events_read (length text) issuer.1 events short are in
    let joined =
    is_group.front ∙ ap (λ t. line (codes "SCHEDULE 1") ++ line (nodes_text group.0 group.1) ++ line (with_number (codes "agents ") group.2) ++ t)
    (is_sheet.front ∙ ap (λ t. section_text (codes "sheet ") sheet_lines ++ t)
    (is_issuer.front ∙ ap (λ t. section_text (codes "issuer ") issuer_lines ++ t) are_events.0))
    ∙ joined_left (line (codes "SCHEDULE 1") ++ line (nodes_text group.0 group.1) ++ line (with_number (codes "agents ") group.2))
    (section_text (codes "sheet ") sheet_lines) (section_text (codes "issuer ") issuer_lines) (flat_map planned_text events) in
    record {
      form = record {
        joined = joined;
        short = is_group.short;
        nodes = is_group.nodes;
        agents = is_group.agents;
        sheet = is_sheet.are;
        issuer = is_issuer.are;
        events = are_events.1;
      };
      voters = refl;
      observers = refl;
      agents = refl;
      sheet_utf8 = is_sheet.utf8;
      sheet = is_sheet.sheet;
      issuer_utf8 = is_issuer.utf8;
      issuer = is_issuer.issuer;
      events = refl;
    }

-- a text that is read as a schedule is that of one, whose sections are read as its sheet and its issuer
pub schedule_read : (text : List ℕ) (r : ReadSchedule) → schedule_in text ≡ Ok r → IsRead text r
unfolding schedule_in
schedule_read text r h =
    let group = step_ok (group_in text) _ r h in
    let sheet = step_ok (sheet_section group.0.3) _ r group.2 in
    let issuer = step_ok (issuer_section sheet.0.1) _ r sheet.2 in
    let events = step_ok (events_in (length text) issuer.0.1) _ r issuer.2 in
    let is_sheet = sheet_read group.0.3 sheet.0 sheet.1 in
    let is_issuer = issuer_read sheet.0.1 issuer.0 issuer.1 in
    let is = schedule_of_parts text group.0 sheet.0 issuer.0 events.0 is_sheet.0 is_issuer.0 (group_read text group.0 group.1) is_sheet.1 is_issuer.1 events.1 in
    subst (IsRead text) (ok_same _ _ events.2) (_, is)

-- where each part is read, so is the whole
pub schedule_taken : (text : List ℕ) (voters observers agents : ℕ) (u v w : Unread) (sheet : model.Sheet) (issuer : model.Issuer) (events : List Planned)
    → group_in text ≡ Ok (voters, observers, agents, u) → sheet_section u ≡ Ok (sheet, v) → issuer_section v ≡ Ok (issuer, w) → events_in (length text) w ≡ Ok events
    → schedule_in text ≡ Ok (record { voters = voters; observers = observers; agents = agents; sheet = sheet; issuer = issuer; events = events })
unfolding schedule_in
schedule_taken text voters observers agents u v w sheet issuer events group sheet_is issuer_is events_are =
    ok_step_from (group_in text) _ (voters, observers, agents, u) _ group
    (ok_step_from (sheet_section u) _ (sheet, v) _ sheet_is
    (ok_step_from (issuer_section v) _ (issuer, w) _ issuer_is
    (ok_step_from (events_in (length text) w) _ events _ events_are refl)))
