-- Of what was read of a schedule the line behind it is counted in the text.
use Rattle.std.proofs.Common.{◌≡◌, ℕ, Bool, true, false, cond, List, length, Ok, codes, sym, ◌∙◌, subst, leb-true, ◌≤◌}
use Rattle.std.specs.Prelude.{nat_le}
use Rattle.metering_model.specs.BatchReading.{is_same}
use Rattle.metering_model.specs.Schedule.{Planned}
use Rattle.metering_model.proofs.StepLaws.{step_ok, some_step, test_step, ok_same}
use Rattle.input_sections.specs.declared.faults.ScheduleCode.{ScheduleCode}
use Rattle.input_sections.specs.declared.faults.ScheduleCode.TheVariants.{Head, Nodes, Agents, Event}
use Rattle.input_sections.specs.Sections.{IsCounted, Unread, left, lines_left, whole_of, begins_with, first_line, number_behind, section_of, section_in, sheet_section, issuer_section}
use Rattle.input_sections.proofs.CountedLines.{GoesOn, IsLeftOf, left_behind, whole_counted, lines_counted, first_counted, section_counted, sheet_counted, issuer_counted}
use Rattle.schedule_reader.specs.Schedules.{Preamble, event_of_line, line_event, journal_event, revival_of_line, revival_event, event_in, head_line, nodes_behind, nodes_line, number_line, group_in, preamble_in}
use Rattle.schedule_reader.proofs.ScheduleForms.{group_read}

-- what goes on behind what goes on
on_behind : (u v w : Unread) → GoesOn u v → GoesOn v w → GoesOn u w
on_behind u v w first next = record { text = next.text ∙ first.text; counted = next.counted }

-- ---- events

line_event_counted : (u : Unread) (r : Planned × Unread) → IsCounted u → line_event u ≡ Ok r → GoesOn u r.1
unfolding line_event
line_event_counted u r is h =
    let l = step_ok (first_line Event u) _ r h in
    let e = some_step (event_of_line l.0.0) _ _ r l.2 in
    subst (λ p. GoesOn u p.1) (ok_same _ _ e.2) (first_counted Event u l.0.0 l.0.1 is l.1)

journal_event_counted : (u : Unread) (r : Planned × Unread) → IsCounted u → journal_event u ≡ Ok r → GoesOn u r.1
unfolding journal_event
journal_event_counted u r is h =
    let s = step_ok (section_in Event (codes "journal ") 1_001 u) _ r h in
    subst (λ p. GoesOn u p.1) (ok_same _ _ s.2) (section_counted Event (codes "journal ") 1_001 u s.0 is s.1)

revival_event_counted : (u : Unread) (r : Planned × Unread) → IsCounted u → revival_event u ≡ Ok r → GoesOn u r.1
unfolding revival_event
revival_event_counted u r is h =
    let opening = step_ok (first_line Event u) _ r h in
    let numbers = some_step (revival_of_line opening.0.0) _ _ r opening.2 in
    let below = opening.0.1 in
    let enough = test_step (nat_le numbers.0.1 (length (lines_left below))) _ _ r numbers.2 in
    let first = first_counted Event u opening.0.0 below is opening.1 in
    let lines = lines_counted numbers.0.1 below first.counted (leb-true _ _ enough.0) in
    subst (λ p. GoesOn u p.1) (ok_same _ _ enough.1) (on_behind u below (section_of numbers.0.1 below).rest first lines)

-- behind whatever event
pub event_counted : (u : Unread) (r : Planned × Unread) → IsCounted u → event_in u ≡ Ok r → GoesOn u r.1
unfolding event_in
event_counted u r is h = cases (begins_with (codes "journal ") (left u)) h
  where
    no_journal : (b : Bool) → cond b (revival_event u) (line_event u) ≡ Ok r → GoesOn u r.1
    no_journal true k = revival_event_counted u r is k
    no_journal false k = line_event_counted u r is k

    cases : (b : Bool) → cond b (journal_event u) (cond (begins_with (codes "revive ") (left u)) (revival_event u) (line_event u)) ≡ Ok r → GoesOn u r.1
    cases true k = journal_event_counted u r is k
    cases false k = no_journal (begins_with (codes "revive ") (left u)) k

-- ---- what stands above them

head_counted : (u v : Unread) → IsCounted u → head_line u ≡ Ok v → GoesOn u v
unfolding head_line
head_counted u v is h =
    let l = step_ok (first_line Head u) _ v h in
    let test = test_step (is_same l.0.0 (codes "SCHEDULE 1")) _ _ v l.2 in
    subst (GoesOn u) (ok_same _ _ test.1) (first_counted Head u l.0.0 l.0.1 is l.1)

nodes_counted : (u : Unread) (r : ℕ × ℕ × Unread) → IsCounted u → nodes_line u ≡ Ok r → GoesOn u r.2
unfolding nodes_line
nodes_counted u r is h =
    let l = step_ok (first_line Nodes u) _ r h in
    let n = some_step (nodes_behind l.0.0) _ _ r l.2 in
    subst (λ p. GoesOn u p.2) (ok_same _ _ n.2) (first_counted Nodes u l.0.0 l.0.1 is l.1)

number_counted : (code : ScheduleCode) (word : List ℕ) (most : ℕ) (u : Unread) (r : ℕ × Unread) → IsCounted u → number_line code word most u ≡ Ok r → GoesOn u r.1
unfolding number_line
number_counted code word most u r is h =
    let l = step_ok (first_line code u) _ r h in
    let n = some_step (number_behind word most l.0.0) _ _ r l.2 in
    subst (λ p. GoesOn u p.1) (ok_same _ _ n.2) (first_counted code u l.0.0 l.0.1 is l.1)

group_counted : (text : List ℕ) (r : ℕ × ℕ × ℕ × Unread) → group_in text ≡ Ok r → IsLeftOf text r.3
unfolding group_in
group_counted text r h =
    let whole = step_ok (whole_of text) _ r h in
    let head = step_ok (head_line whole.0) _ r whole.2 in
    let nodes = step_ok (nodes_line head.0) _ r head.2 in
    let agents = step_ok (number_line Agents (codes "agents ") 64 nodes.0.2) _ r nodes.2 in
    let first = whole_counted text whole.0 whole.1 in
    let at_head = head_counted whole.0 head.0 first.counted head.1 in
    let at_nodes = nodes_counted head.0 nodes.0 at_head.counted nodes.1 in
    let at_agents = number_counted Agents (codes "agents ") 64 nodes.0.2 agents.0 at_nodes.counted agents.1 in
    subst (λ p. IsLeftOf text p.3) (ok_same _ _ agents.2)
    (record { text_is = at_agents.text ∙ at_nodes.text ∙ at_head.text ∙ first.text_is; counted = at_agents.counted })

-- the events begin on a line that is counted in the text
pub preamble_counted : (text : List ℕ) (p : Preamble) → preamble_in text ≡ Ok p → IsLeftOf text p.rest
unfolding preamble_in
preamble_counted text p h =
    let group = step_ok (group_in text) _ p h in
    let sheet = step_ok (sheet_section group.0.3) _ p group.2 in
    let issuer = step_ok (issuer_section sheet.0.1) _ p sheet.2 in
    let above = group_counted text group.0 group.1 in
    let at_sheet = left_behind text group.0.3 sheet.0.1 above (sheet_counted group.0.3 sheet.0 above.counted sheet.1) in
    subst (λ q. IsLeftOf text q.rest) (ok_same _ _ issuer.2)
    (left_behind text sheet.0.1 issuer.0.1 at_sheet (issuer_counted sheet.0.1 issuer.0 at_sheet.counted issuer.1))

-- so their text is not too long
pub preamble_short : (text : List ℕ) (p : Preamble) → preamble_in text ≡ Ok p → length p.rest.text ≤ 16_777_216
unfolding preamble_in
preamble_short text p h =
    let group = step_ok (group_in text) _ p h in
    subst (λ t. length t ≤ 16_777_216) (sym (preamble_counted text p h).text_is) (group_read text group.0 group.1).short
