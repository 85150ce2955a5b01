-- The definitions by which a schedule is read never tell of want of memory.
use Rattle.std.proofs.Common.{ℕ, zero, suc, List, ok_or, codes}
use Rattle.std.specs.Prelude.{nat_le, length}
use Rattle.metering_model.specs.FirstFailure.{holds_or}
use Rattle.metering_model.specs.Batch.{is_empty}
use Rattle.metering_model.specs.BatchReading.{is_same}
use Rattle.metering_model.specs.Schedule.{Planned}
use Rattle.metering_model.specs.Sheet as model
use Rattle.input_sections.specs.declared.faults.ScheduleCode.{ScheduleCode}
use Rattle.input_sections.specs.declared.faults.ScheduleCode.TheVariants.{Head, Nodes, Agents, Event, Lines}
use Rattle.input_sections.specs.declared.faults.ScheduleFault.TheVariants.{Refused}
use Rattle.input_sections.specs.Sections.{Unread, begins_with, first_line, issuer_section, left, lines_left, number_behind, section_in, sheet_section, whole_of}
use Rattle.input_sections.proofs.NeverWants.{NeverWants, a_line, a_section, a_sheet, a_whole, an_issuer, by_test, either, if_there, in_turn}
use Rattle.schedule_reader.specs.Schedules.{event_in, event_of_line, events_in, group_in, head_line, journal_event, line_event, nodes_behind, nodes_line, number_line, preamble_in, revival_event, revival_of_line}

a_head : (u : Unread) → NeverWants (head_line u)
unfolding head_line
a_head u =
    in_turn (first_line Head u) _ (a_line Head u) (λ (l : List ℕ × Unread).
    in_turn (holds_or (is_same l.0 (codes "SCHEDULE 1")) (Refused Head u.line)) _ (by_test (is_same l.0 (codes "SCHEDULE 1")) Head u.line) (λ _. tt))

a_nodes_line : (u : Unread) → NeverWants (nodes_line u)
unfolding nodes_line
a_nodes_line u =
    in_turn (first_line Nodes u) _ (a_line Nodes u) (λ (l : List ℕ × Unread).
    in_turn (ok_or (nodes_behind l.0) (Refused Nodes u.line)) _ (if_there (nodes_behind l.0) Nodes u.line) (λ _. tt))

a_number_line : (code : ScheduleCode) (word : List ℕ) (most : ℕ) (u : Unread) → NeverWants (number_line code word most u)
unfolding number_line
a_number_line code word most u =
    in_turn (first_line code u) _ (a_line code u) (λ (l : List ℕ × Unread).
    in_turn (ok_or (number_behind word most l.0) (Refused code u.line)) _ (if_there (number_behind word most l.0) code u.line) (λ _. tt))

a_group : (text : List ℕ) → NeverWants (group_in text)
unfolding group_in
a_group text =
    in_turn (whole_of text) _ (a_whole text) (λ (u : Unread).
    in_turn (head_line u) _ (a_head u) (λ (head : Unread).
    in_turn (nodes_line head) _ (a_nodes_line head) (λ (nodes : ℕ × ℕ × Unread).
    in_turn (number_line Agents (codes "agents ") 64 nodes.2) _ (a_number_line Agents (codes "agents ") 64 nodes.2) (λ _. tt))))

pub a_preamble : (text : List ℕ) → NeverWants (preamble_in text)
unfolding preamble_in
a_preamble text =
    in_turn (group_in text) _ (a_group text) (λ (group : ℕ × ℕ × ℕ × Unread).
    in_turn (sheet_section group.3) _ (a_sheet group.3) (λ (sheet : model.Sheet × Unread).
    in_turn (issuer_section sheet.1) _ (an_issuer sheet.1) (λ _. tt)))

an_event : (u : Unread) → NeverWants (event_in u)
unfolding event_in journal_event revival_event line_event
an_event u =
    either (begins_with (codes "journal ") (left u)) _ _
    (in_turn (section_in Event (codes "journal ") 1_001 u) _ (a_section Event (codes "journal ") 1_001 u) (λ _. tt))
    (either (begins_with (codes "revive ") (left u)) _ _
    (in_turn (first_line Event u) _ (a_line Event u) (λ (l : List ℕ × Unread).
    in_turn (ok_or (revival_of_line l.0) (Refused Event u.line)) _ (if_there (revival_of_line l.0) Event u.line) (λ (n : ℕ × ℕ).
    in_turn (holds_or (nat_le n.1 (length (lines_left l.1))) (Refused Lines u.line)) _ (by_test (nat_le n.1 (length (lines_left l.1))) Lines u.line) (λ _. tt))))
    (in_turn (first_line Event u) _ (a_line Event u) (λ (l : List ℕ × Unread).
    in_turn (ok_or (event_of_line l.0) (Refused Event u.line)) _ (if_there (event_of_line l.0) Event u.line) (λ _. tt))))

pub some_events : (most : ℕ) (u : Unread) → NeverWants (events_in most u)
unfolding events_in
some_events zero u = tt
some_events (suc most) u =
    either (is_empty (left u)) _ _ tt
    (in_turn (event_in u) _ (an_event u) (λ (e : Planned × Unread).
    in_turn (events_in most e.1) _ (some_events most e.1) (λ _. tt)))
