-- Lines and texts of schedules, read as worked examples.
use Rattle.std.proofs.Common.{◌≡◌, ℕ, List, [], ◌∷◌, Some, None, Ok, Err, refl, codes}
use Rattle.metering_model.specs.Schedule.{PlansDelivery, PlansStart, PlansRestart, PlansExport, PlansKeep, PlansJournal, PlansRevival, lines_text}
use Rattle.input_sections.specs.declared.faults.ScheduleCode.TheVariants.{Head, Nodes, Agents, Sheet, Event, Lines}
use Rattle.input_sections.specs.declared.faults.ScheduleFault.TheVariants.{Refused}
use Rattle.input_sections.specs.Sections.{Unread, section_in, sheet_section}
use Rattle.schedule_reader.specs.Schedules.{nodes_behind, event_of_line, event_in, journal_event, revival_of_line, revival_event, line_event, events_in, group_in, head_line, nodes_line, number_line, schedule_in}

a_delivery : event_of_line (codes "deliver 12 3") ≡ Some (PlansDelivery 12 3)
a_delivery = refl

two_spaces : event_of_line (codes "deliver 12  3") ≡ None
two_spaces = refl

a_leading_zero : event_of_line (codes "start 01") ≡ None
a_leading_zero = refl

no_such_node : event_of_line (codes "start 99") ≡ None
no_such_node = refl

last_node : event_of_line (codes "restart 98") ≡ Some (PlansRestart 98)
last_node = refl

last_period : event_of_line (codes "export 0 1199") ≡ Some (PlansExport 0 1_199)
last_period = refl

no_such_period : event_of_line (codes "export 0 1200") ≡ None
no_such_period = refl

-- from line 7 on
abbrev from_seven : List (List ℕ) → Unread
from_seven ls = record { text = lines_text ls; from = 0; line = 7 }

one_event : event_in (from_seven (codes "start 3" ∷ [])) ≡ Ok (PlansStart 3, record { text = lines_text (codes "start 3" ∷ []); from = 8; line = 8 })
unfolding event_in line_event
one_event = refl

-- a line behind a journal's lines is an event again
behind_a_journal : events_in 40 (from_seven (codes "journal 1" ∷ codes "any" ∷ codes "start 3" ∷ []))
    ≡ Ok (PlansJournal (codes "any" ∷ []) ∷ PlansStart 3 ∷ [])
unfolding events_in event_in line_event journal_event revival_event section_in
behind_a_journal = refl

-- told at the line that opens the journal
too_few_lines : events_in 40 (from_seven (codes "start 3" ∷ codes "journal 2" ∷ codes "any" ∷ [])) ≡ Err (Refused Lines 8)
unfolding events_in event_in line_event journal_event revival_event section_in
too_few_lines = refl

too_many_lines_named : events_in 40 (from_seven (codes "journal 1002" ∷ codes "any" ∷ [])) ≡ Err (Refused Event 7)
unfolding events_in event_in line_event journal_event revival_event section_in
too_many_lines_named = refl

no_event : events_in 40 (from_seven (codes "start 3" ∷ codes "stop 3" ∷ codes "journal 2" ∷ [])) ≡ Err (Refused Event 8)
unfolding events_in event_in line_event journal_event revival_event section_in
no_event = refl

no_line_feed : events_in 40 (record { text = codes "start 3"; from = 0; line = 7 }) ≡ Err (Refused Lines 7)
unfolding events_in event_in line_event journal_event revival_event section_in
no_line_feed = refl

-- ---- keeps and revivals

a_keep : event_of_line (codes "keep 98") ≡ Some (PlansKeep 98)
a_keep = refl

a_keep_of_no_node : event_of_line (codes "keep 99") ≡ None
a_keep_of_no_node = refl

one_line : revival_of_line (codes "revive 0 1") ≡ Some (0, 1)
one_line = refl

most_lines : revival_of_line (codes "revive 98 200000") ≡ Some (98, 200_000)
most_lines = refl

of_no_line : revival_of_line (codes "revive 0 0") ≡ None
of_no_line = refl

one_line_too_many : revival_of_line (codes "revive 0 200001") ≡ None
one_line_too_many = refl

a_revival_of_no_node : revival_of_line (codes "revive 99 1") ≡ None
a_revival_of_no_node = refl

no_number_of_lines : revival_of_line (codes "revive 0") ≡ None
no_number_of_lines = refl

-- a line behind a revival's lines is an event again
behind_a_revival : events_in 40 (from_seven (codes "revive 2 2" ∷ codes "any" ∷ [] ∷ codes "keep 3" ∷ []))
    ≡ Ok (PlansRevival 2 (codes "any" ∷ [] ∷ []) ∷ PlansKeep 3 ∷ [])
unfolding events_in event_in line_event journal_event revival_event section_in
behind_a_revival = refl

-- told at the line that opens the revival
too_few_kept_lines : events_in 40 (from_seven (codes "keep 3" ∷ codes "revive 3 2" ∷ codes "any" ∷ [])) ≡ Err (Refused Lines 8)
unfolding events_in event_in line_event journal_event revival_event section_in
too_few_kept_lines = refl

no_kept_line_named : events_in 40 (from_seven (codes "revive 3 0" ∷ [])) ≡ Err (Refused Event 7)
unfolding events_in event_in line_event journal_event revival_event section_in
no_kept_line_named = refl

-- ---- the line of the nodes

all_vote : nodes_behind (codes "nodes 99") ≡ Some (99, 0)
all_vote = refl

one_observes : nodes_behind (codes "nodes 98 observers 1") ≡ Some (98, 1)
one_observes = refl

all_but_one_observe : nodes_behind (codes "nodes 1 observers 98") ≡ Some (1, 98)
all_but_one_observe = refl

too_many_together : nodes_behind (codes "nodes 50 observers 50") ≡ None
too_many_together = refl

one_more_than_all : nodes_behind (codes "nodes 99 observers 1") ≡ None
one_more_than_all = refl

one_observer_more_than_all : nodes_behind (codes "nodes 1 observers 99") ≡ None
one_observer_more_than_all = refl

nobody_votes : nodes_behind (codes "nodes 0 observers 1") ≡ None
nobody_votes = refl

told_of_no_observer : nodes_behind (codes "nodes 1 observers 0") ≡ None
told_of_no_observer = refl

an_observer_too_long : nodes_behind (codes "nodes 1 observers 01") ≡ None
an_observer_too_long = refl

a_space_too_many : nodes_behind (codes "nodes 1  observers 1") ≡ None
a_space_too_many = refl

no_number_of_observers : nodes_behind (codes "nodes 1 observers") ≡ None
no_number_of_observers = refl

-- ---- the head of a schedule

no_text : schedule_in [] ≡ Err (Refused Head 1)
unfolding schedule_in group_in head_line
no_text = refl

no_nodes : schedule_in (lines_text (codes "SCHEDULE 1" ∷ [])) ≡ Err (Refused Nodes 2)
unfolding schedule_in group_in head_line nodes_line
no_nodes = refl

too_many_nodes : schedule_in (lines_text (codes "SCHEDULE 1" ∷ codes "nodes 100" ∷ [])) ≡ Err (Refused Nodes 2)
unfolding schedule_in group_in head_line nodes_line
too_many_nodes = refl

no_agent : schedule_in (lines_text (codes "SCHEDULE 1" ∷ codes "nodes 99" ∷ codes "agents 0" ∷ [])) ≡ Err (Refused Agents 3)
unfolding schedule_in group_in head_line nodes_line number_line
no_agent = refl

no_sheet : schedule_in (lines_text (codes "SCHEDULE 1" ∷ codes "nodes 1" ∷ codes "agents 64" ∷ [])) ≡ Err (Refused Sheet 4)
unfolding schedule_in group_in head_line nodes_line number_line sheet_section section_in
no_sheet = refl

sheet_cut_short : schedule_in (lines_text (codes "SCHEDULE 1" ∷ codes "nodes 1" ∷ codes "agents 1" ∷ codes "sheet 2" ∷ codes "base" ∷ [])) ≡ Err (Refused Lines 4)
unfolding schedule_in group_in head_line nodes_line number_line sheet_section section_in
sheet_cut_short = refl
