-- What a group does with losses, repeats, reorderings, restarts and crossing proposers.
-- Each stands as a schedule, with its text and the transcript that playing it writes.
use Rattle.std.specs.Prelude.{◌≡◌, [], ◌∷◌, ◌++◌, codes, refl}
use Rattle.std.specs.Fmt.{digits}
use Rattle.jiff_core.specs.Calendar.{days_from_civil, day_count, days_of_years, days_of_months}
use Rattle.metering_model.specs.NumberText.{worth_of, decimals_of}
use Rattle.metering_model.specs.File.{header_line}
use Rattle.metering_model.specs.Transcript.{line}
use Rattle.metering_model.specs.Schedule.{Schedule, PlansJournal, PlansDelivery, PlansStart, PlansRestart, PlansExport, lines_text, schedule_text, transcript_of}
use Rattle.metering_model.proofs.Samples.{sheet_0, sheet_0_lines, issuer_1, issuer_1_lines, reading_1, row_1}

-- one batch from its bytes to two equal files
abbrev pub whole_path : Schedule
whole_path = record {
  voters = 3;
  observers = 0;
  agents = 1;
  sheet = sheet_0_lines;
  issuer = issuer_1_lines;
  events =
      PlansJournal (codes "B1|1|1|1" ∷ reading_1 ∷ []) ∷ PlansDelivery 0 0 ∷ PlansDelivery 0 1 ∷ PlansStart 0 ∷
      PlansDelivery 1 0 ∷ PlansDelivery 1 1 ∷ PlansDelivery 2 0 ∷ PlansDelivery 3 0 ∷ PlansDelivery 4 0 ∷
      PlansDelivery 4 1 ∷ PlansDelivery 5 0 ∷ PlansDelivery 6 0 ∷ PlansExport 0 0 ∷ PlansDelivery 5 1 ∷
      PlansDelivery 6 1 ∷ PlansExport 1 0 ∷ [];
}

whole_path_text : schedule_text whole_path ≡
    lines_text (codes "SCHEDULE 1" ∷ codes "nodes 3" ∷ codes "agents 1" ∷ [])
    ++ line (codes "sheet 13") ++ lines_text sheet_0_lines ++ line (codes "issuer 7") ++ lines_text issuer_1_lines
    ++ lines_text (codes "journal 2" ∷ codes "B1|1|1|1" ∷ reading_1 ∷ codes "deliver 0 0" ∷ codes "deliver 0 1" ∷
    codes "start 0" ∷ codes "deliver 1 0" ∷ codes "deliver 1 1" ∷ codes "deliver 2 0" ∷ codes "deliver 3 0" ∷
    codes "deliver 4 0" ∷ codes "deliver 4 1" ∷ codes "deliver 5 0" ∷ codes "deliver 6 0" ∷ codes "export 0 0" ∷
    codes "deliver 5 1" ∷ codes "deliver 6 1" ∷ codes "export 1 0" ∷ [])
unfolding digits
whole_path_text = refl

whole_path_transcript : transcript_of sheet_0 issuer_1 whole_path ≡
    lines_text (codes "journaled packet 0" ∷ codes "delivered" ∷ codes "delivered" ∷ codes "started ballot 3 packet 1" ∷
    codes "delivered sent 2" ∷ codes "delivered sent 3" ∷ codes "delivered" ∷ codes "delivered sent 4" ∷
    codes "delivered sent 5" ∷ codes "delivered sent 6" ∷ codes "delivered" ∷ codes "delivered learned 0" ∷
    codes "exported period 0 lines 2" ∷ header_line ∷ row_1 ∷ codes "delivered" ∷ codes "delivered learned 0" ∷
    codes "exported period 0 lines 2" ∷ header_line ∷ row_1 ∷ [])
unfolding days_from_civil day_count days_of_years days_of_months worth_of decimals_of digits
whole_path_transcript = refl

-- a proposer that is told a vote sends its cut, and not its own front
abbrev pub crossing_proposers : Schedule
crossing_proposers = record {
  voters = 3;
  observers = 0;
  agents = 1;
  sheet = sheet_0_lines;
  issuer = issuer_1_lines;
  events =
      PlansJournal (codes "B1|1|1|1" ∷ reading_1 ∷ []) ∷
      PlansJournal (codes "B1|1|2|1" ∷ codes "U|2025-01-10T00:00:00Z|2025-01-10T02:00:00Z|acc-7|vm-1|cpu|3600||env=prod" ∷ []) ∷
      PlansDelivery 0 0 ∷ PlansDelivery 0 2 ∷ PlansDelivery 1 2 ∷ PlansStart 0 ∷ PlansDelivery 2 0 ∷
      PlansDelivery 2 1 ∷ PlansDelivery 3 0 ∷ PlansDelivery 4 0 ∷ PlansDelivery 5 1 ∷ PlansStart 2 ∷
      PlansDelivery 7 2 ∷ PlansDelivery 7 1 ∷ PlansDelivery 8 2 ∷ PlansDelivery 9 2 ∷ PlansDelivery 10 1 ∷
      PlansDelivery 10 2 ∷ PlansDelivery 11 2 ∷ PlansDelivery 12 2 ∷ PlansExport 2 0 ∷ [];
}

crossing_proposers_text : schedule_text crossing_proposers ≡
    lines_text (codes "SCHEDULE 1" ∷ codes "nodes 3" ∷ codes "agents 1" ∷ [])
    ++ line (codes "sheet 13") ++ lines_text sheet_0_lines ++ line (codes "issuer 7") ++ lines_text issuer_1_lines
    ++ lines_text (codes "journal 2" ∷ codes "B1|1|1|1" ∷ reading_1 ∷ codes "journal 2" ∷ codes "B1|1|2|1" ∷
    codes "U|2025-01-10T00:00:00Z|2025-01-10T02:00:00Z|acc-7|vm-1|cpu|3600||env=prod" ∷ codes "deliver 0 0" ∷
    codes "deliver 0 2" ∷ codes "deliver 1 2" ∷ codes "start 0" ∷ codes "deliver 2 0" ∷ codes "deliver 2 1" ∷
    codes "deliver 3 0" ∷ codes "deliver 4 0" ∷ codes "deliver 5 1" ∷ codes "start 2" ∷ codes "deliver 7 2" ∷
    codes "deliver 7 1" ∷ codes "deliver 8 2" ∷ codes "deliver 9 2" ∷ codes "deliver 10 1" ∷
    codes "deliver 10 2" ∷ codes "deliver 11 2" ∷ codes "deliver 12 2" ∷ codes "export 2 0" ∷ [])
unfolding digits
crossing_proposers_text = refl

crossing_proposers_transcript : transcript_of sheet_0 issuer_1 crossing_proposers ≡
    lines_text (codes "journaled packet 0" ∷ codes "journaled packet 1" ∷ codes "delivered" ∷ codes "delivered" ∷
    codes "delivered" ∷ codes "started ballot 3 packet 2" ∷ codes "delivered sent 3" ∷ codes "delivered sent 4" ∷
    codes "delivered" ∷ codes "delivered sent 5" ∷ codes "delivered sent 6" ∷ codes "started ballot 5 packet 7" ∷
    codes "delivered sent 8" ∷ codes "delivered sent 9" ∷ codes "delivered" ∷ codes "delivered sent 10" ∷
    codes "delivered sent 11" ∷ codes "delivered sent 12" ∷ codes "delivered" ∷ codes "delivered learned 0" ∷
    codes "exported period 0 lines 2" ∷ header_line ∷ row_1 ∷ [])
unfolding days_from_civil day_count days_of_years days_of_months worth_of decimals_of digits
crossing_proposers_transcript = refl

-- a node learns a cut that it cannot export yet
abbrev a_node_that_lacks_a_batch : Schedule
a_node_that_lacks_a_batch = record {
  voters = 3;
  observers = 0;
  agents = 1;
  sheet = sheet_0_lines;
  issuer = issuer_1_lines;
  events =
      PlansJournal (codes "B1|1|1|1" ∷ reading_1 ∷ []) ∷
      PlansJournal (codes "B1|1|2|1" ∷ codes "U|2025-01-10T00:00:00Z|2025-01-10T02:00:00Z|acc-7|vm-1|cpu|3600||env=prod" ∷ []) ∷
      PlansDelivery 0 0 ∷ PlansDelivery 0 1 ∷ PlansDelivery 1 0 ∷ PlansDelivery 1 1 ∷ PlansStart 0 ∷
      PlansDelivery 2 0 ∷ PlansDelivery 2 1 ∷ PlansDelivery 3 0 ∷ PlansDelivery 4 0 ∷ PlansDelivery 5 0 ∷
      PlansDelivery 5 1 ∷ PlansDelivery 6 0 ∷ PlansDelivery 7 0 ∷ PlansDelivery 0 2 ∷ PlansStart 2 ∷
      PlansDelivery 8 0 ∷ PlansDelivery 9 2 ∷ PlansExport 2 0 ∷ PlansDelivery 1 2 ∷ PlansExport 2 0 ∷
      PlansExport 0 0 ∷ [];
}

a_node_that_lacks_a_batch_text : schedule_text a_node_that_lacks_a_batch ≡
    lines_text (codes "SCHEDULE 1" ∷ codes "nodes 3" ∷ codes "agents 1" ∷ [])
    ++ line (codes "sheet 13") ++ lines_text sheet_0_lines ++ line (codes "issuer 7") ++ lines_text issuer_1_lines
    ++ lines_text (codes "journal 2" ∷ codes "B1|1|1|1" ∷ reading_1 ∷ codes "journal 2" ∷ codes "B1|1|2|1" ∷
    codes "U|2025-01-10T00:00:00Z|2025-01-10T02:00:00Z|acc-7|vm-1|cpu|3600||env=prod" ∷ codes "deliver 0 0" ∷
    codes "deliver 0 1" ∷ codes "deliver 1 0" ∷ codes "deliver 1 1" ∷ codes "start 0" ∷ codes "deliver 2 0" ∷
    codes "deliver 2 1" ∷ codes "deliver 3 0" ∷ codes "deliver 4 0" ∷ codes "deliver 5 0" ∷ codes "deliver 5 1" ∷
    codes "deliver 6 0" ∷ codes "deliver 7 0" ∷ codes "deliver 0 2" ∷ codes "start 2" ∷ codes "deliver 8 0" ∷
    codes "deliver 9 2" ∷ codes "export 2 0" ∷ codes "deliver 1 2" ∷ codes "export 2 0" ∷ codes "export 0 0" ∷ [])
unfolding digits
a_node_that_lacks_a_batch_text = refl

a_node_that_lacks_a_batch_transcript : transcript_of sheet_0 issuer_1 a_node_that_lacks_a_batch ≡
    lines_text (codes "journaled packet 0" ∷ codes "journaled packet 1" ∷ codes "delivered" ∷ codes "delivered" ∷
    codes "delivered" ∷ codes "delivered" ∷ codes "started ballot 3 packet 2" ∷ codes "delivered sent 3" ∷
    codes "delivered sent 4" ∷ codes "delivered" ∷ codes "delivered sent 5" ∷ codes "delivered sent 6" ∷
    codes "delivered sent 7" ∷ codes "delivered" ∷ codes "delivered learned 0" ∷ codes "delivered" ∷
    codes "started ballot 5 packet 8" ∷ codes "delivered sent 9" ∷ codes "delivered learned 0" ∷
    codes "refused G8 agent 1 seq 2" ∷ codes "delivered" ∷ codes "exported period 0 lines 3" ∷ header_line ∷ row_1 ∷
    (codes "0.08,A-100,Payer,USD,2025-02-01T00:00:00Z,2025-01-01T00:00:00Z,Usage,,Virtual CPU time,Usage-Based,2025-01-10T02:00:00Z,"
    ++ codes "2025-01-10T00:00:00Z,,,,,3600,Seconds,0.08,0.08,0.08,Sample Cloud Ltd,0.1,0.1,Standard,1,Hours,Sample Cloud,Sample Cloud,,,"
    ++ codes "vm-1,Compute,Sample Compute,cpu,cpu-od,acc-7,\"{\"\"env\"\":\"\"prod\"\"}\"") ∷
    codes "exported period 0 lines 3" ∷ header_line ∷ row_1 ∷
    (codes "0.08,A-100,Payer,USD,2025-02-01T00:00:00Z,2025-01-01T00:00:00Z,Usage,,Virtual CPU time,Usage-Based,2025-01-10T02:00:00Z,"
    ++ codes "2025-01-10T00:00:00Z,,,,,3600,Seconds,0.08,0.08,0.08,Sample Cloud Ltd,0.1,0.1,Standard,1,Hours,Sample Cloud,Sample Cloud,,,"
    ++ codes "vm-1,Compute,Sample Compute,cpu,cpu-od,acc-7,\"{\"\"env\"\":\"\"prod\"\"}\"") ∷
    [])
unfolding days_from_civil day_count days_of_years days_of_months worth_of decimals_of digits
a_node_that_lacks_a_batch_transcript = refl

-- a restarted proposer takes a new ballot, and hears no promise of the old one
abbrev restart_between_prepare_and_accept : Schedule
restart_between_prepare_and_accept = record {
  voters = 3;
  observers = 0;
  agents = 1;
  sheet = sheet_0_lines;
  issuer = issuer_1_lines;
  events =
      PlansStart 0 ∷ PlansDelivery 0 1 ∷ PlansRestart 0 ∷ PlansDelivery 1 0 ∷ PlansStart 0 ∷ PlansDelivery 1 0 ∷
      PlansDelivery 2 0 ∷ PlansDelivery 2 1 ∷ PlansDelivery 3 0 ∷ PlansDelivery 3 0 ∷ PlansDelivery 4 0 ∷ [];
}

restart_between_prepare_and_accept_text : schedule_text restart_between_prepare_and_accept ≡
    lines_text (codes "SCHEDULE 1" ∷ codes "nodes 3" ∷ codes "agents 1" ∷ [])
    ++ line (codes "sheet 13") ++ lines_text sheet_0_lines ++ line (codes "issuer 7") ++ lines_text issuer_1_lines
    ++ lines_text (codes "start 0" ∷ codes "deliver 0 1" ∷ codes "restart 0" ∷ codes "deliver 1 0" ∷ codes "start 0" ∷
    codes "deliver 1 0" ∷ codes "deliver 2 0" ∷ codes "deliver 2 1" ∷ codes "deliver 3 0" ∷ codes "deliver 3 0" ∷
    codes "deliver 4 0" ∷ [])
unfolding digits
restart_between_prepare_and_accept_text = refl

restart_between_prepare_and_accept_transcript : transcript_of sheet_0 issuer_1 restart_between_prepare_and_accept ≡
    lines_text (codes "started ballot 3 packet 0" ∷ codes "delivered sent 1" ∷ codes "restarted" ∷ codes "delivered" ∷
    codes "started ballot 6 packet 2" ∷ codes "delivered" ∷ codes "delivered sent 3" ∷ codes "delivered sent 4" ∷
    codes "delivered" ∷ codes "delivered" ∷ codes "delivered sent 5" ∷ [])
unfolding days_from_civil day_count days_of_years days_of_months worth_of decimals_of digits
restart_between_prepare_and_accept_transcript = refl

-- each packet is delivered twice
abbrev repeats_on_one_node : Schedule
repeats_on_one_node = record {
  voters = 1;
  observers = 0;
  agents = 1;
  sheet = sheet_0_lines;
  issuer = issuer_1_lines;
  events =
      PlansStart 0 ∷ PlansDelivery 0 0 ∷ PlansDelivery 0 0 ∷ PlansDelivery 1 0 ∷ PlansDelivery 1 0 ∷
      PlansDelivery 2 0 ∷ PlansDelivery 2 0 ∷ PlansDelivery 3 0 ∷ PlansDelivery 3 0 ∷ PlansDelivery 4 0 ∷
      PlansDelivery 2 0 ∷ PlansDelivery 0 0 ∷ PlansDelivery 6 0 ∷ [];
}

repeats_on_one_node_text : schedule_text repeats_on_one_node ≡
    lines_text (codes "SCHEDULE 1" ∷ codes "nodes 1" ∷ codes "agents 1" ∷ [])
    ++ line (codes "sheet 13") ++ lines_text sheet_0_lines ++ line (codes "issuer 7") ++ lines_text issuer_1_lines
    ++ lines_text (codes "start 0" ∷ codes "deliver 0 0" ∷ codes "deliver 0 0" ∷ codes "deliver 1 0" ∷ codes "deliver 1 0" ∷
    codes "deliver 2 0" ∷ codes "deliver 2 0" ∷ codes "deliver 3 0" ∷ codes "deliver 3 0" ∷ codes "deliver 4 0" ∷
    codes "deliver 2 0" ∷ codes "deliver 0 0" ∷ codes "deliver 6 0" ∷ [])
unfolding digits
repeats_on_one_node_text = refl

repeats_on_one_node_transcript : transcript_of sheet_0 issuer_1 repeats_on_one_node ≡
    lines_text (codes "started ballot 1 packet 0" ∷ codes "delivered sent 1" ∷ codes "delivered" ∷ codes "delivered sent 2" ∷
    codes "delivered" ∷ codes "delivered sent 3" ∷ codes "delivered sent 4" ∷ codes "delivered learned 0" ∷
    codes "delivered" ∷ codes "delivered" ∷ codes "delivered sent 5" ∷ codes "delivered sent 6" ∷
    codes "delivered" ∷ [])
unfolding days_from_civil day_count days_of_years days_of_months worth_of decimals_of digits
repeats_on_one_node_transcript = refl

-- a node restarts behind each of its steps
abbrev restarts_on_one_node : Schedule
restarts_on_one_node = record {
  voters = 1;
  observers = 0;
  agents = 1;
  sheet = sheet_0_lines;
  issuer = issuer_1_lines;
  events =
      PlansStart 0 ∷ PlansRestart 0 ∷ PlansDelivery 0 0 ∷ PlansDelivery 1 0 ∷ PlansStart 0 ∷ PlansDelivery 2 0 ∷
      PlansDelivery 3 0 ∷ PlansRestart 0 ∷ PlansDelivery 4 0 ∷ PlansRestart 0 ∷ PlansDelivery 5 0 ∷ [];
}

restarts_on_one_node_text : schedule_text restarts_on_one_node ≡
    lines_text (codes "SCHEDULE 1" ∷ codes "nodes 1" ∷ codes "agents 1" ∷ [])
    ++ line (codes "sheet 13") ++ lines_text sheet_0_lines ++ line (codes "issuer 7") ++ lines_text issuer_1_lines
    ++ lines_text (codes "start 0" ∷ codes "restart 0" ∷ codes "deliver 0 0" ∷ codes "deliver 1 0" ∷ codes "start 0" ∷
    codes "deliver 2 0" ∷ codes "deliver 3 0" ∷ codes "restart 0" ∷ codes "deliver 4 0" ∷ codes "restart 0" ∷
    codes "deliver 5 0" ∷ [])
unfolding digits
restarts_on_one_node_text = refl

restarts_on_one_node_transcript : transcript_of sheet_0 issuer_1 restarts_on_one_node ≡
    lines_text (codes "started ballot 1 packet 0" ∷ codes "restarted" ∷ codes "delivered sent 1" ∷ codes "delivered" ∷
    codes "started ballot 2 packet 2" ∷ codes "delivered sent 3" ∷ codes "delivered sent 4" ∷ codes "restarted" ∷
    codes "delivered sent 5" ∷ codes "restarted" ∷ codes "delivered learned 0" ∷ [])
unfolding days_from_civil day_count days_of_years days_of_months worth_of decimals_of digits
restarts_on_one_node_transcript = refl

-- refused events leave the world as it was
abbrev refusals_change_nothing : Schedule
refusals_change_nothing = record {
  voters = 3;
  observers = 0;
  agents = 1;
  sheet = sheet_0_lines;
  issuer = issuer_1_lines;
  events =
      PlansJournal (codes "B1|1|2|0" ∷ []) ∷
      PlansJournal (codes "B1|1|1|1" ∷ codes "U|2025-01-10T00:00:00Z|2025-01-10T02:00:00Z|acc-7|vm-1|gpu|5400||env=prod" ∷ []) ∷
      PlansJournal (codes "B1|1|1|1" ∷ codes "X|1|0|1" ∷ []) ∷ PlansJournal (codes "B1|2|1|0" ∷ []) ∷
      PlansJournal (codes "B1|1|1|1" ∷ []) ∷ PlansDelivery 0 0 ∷ PlansStart 3 ∷ PlansExport 0 0 ∷ [];
}

refusals_change_nothing_text : schedule_text refusals_change_nothing ≡
    lines_text (codes "SCHEDULE 1" ∷ codes "nodes 3" ∷ codes "agents 1" ∷ [])
    ++ line (codes "sheet 13") ++ lines_text sheet_0_lines ++ line (codes "issuer 7") ++ lines_text issuer_1_lines
    ++ lines_text (codes "journal 1" ∷ codes "B1|1|2|0" ∷ codes "journal 2" ∷ codes "B1|1|1|1" ∷
    codes "U|2025-01-10T00:00:00Z|2025-01-10T02:00:00Z|acc-7|vm-1|gpu|5400||env=prod" ∷ codes "journal 2" ∷
    codes "B1|1|1|1" ∷ codes "X|1|0|1" ∷ codes "journal 1" ∷ codes "B1|2|1|0" ∷ codes "journal 1" ∷
    codes "B1|1|1|1" ∷ codes "deliver 0 0" ∷ codes "start 3" ∷ codes "export 0 0" ∷ [])
unfolding digits
refusals_change_nothing_text = refl

refusals_change_nothing_transcript : transcript_of sheet_0 issuer_1 refusals_change_nothing ≡
    lines_text (codes "refused G2 wanted 1" ∷ codes "refused G4" ∷ codes "refused G3" ∷ codes "refused G12" ∷
    codes "refused G1 V2 line 2" ∷ codes "refused G5" ∷ codes "refused G6" ∷ codes "refused G7 learned 0" ∷ [])
unfolding days_from_civil day_count days_of_years days_of_months worth_of decimals_of digits
refusals_change_nothing_transcript = refl

-- a group of one
abbrev one_node : Schedule
one_node = record {
  voters = 1;
  observers = 0;
  agents = 1;
  sheet = sheet_0_lines;
  issuer = issuer_1_lines;
  events =
      PlansStart 0 ∷ PlansDelivery 0 0 ∷ PlansDelivery 1 0 ∷ PlansDelivery 2 0 ∷ PlansDelivery 3 0 ∷
      PlansExport 0 0 ∷ [];
}

one_node_text : schedule_text one_node ≡
    lines_text (codes "SCHEDULE 1" ∷ codes "nodes 1" ∷ codes "agents 1" ∷ [])
    ++ line (codes "sheet 13") ++ lines_text sheet_0_lines ++ line (codes "issuer 7") ++ lines_text issuer_1_lines
    ++ lines_text (codes "start 0" ∷ codes "deliver 0 0" ∷ codes "deliver 1 0" ∷ codes "deliver 2 0" ∷ codes "deliver 3 0" ∷
    codes "export 0 0" ∷ [])
unfolding digits
one_node_text = refl

one_node_transcript : transcript_of sheet_0 issuer_1 one_node ≡
    lines_text (codes "started ballot 1 packet 0" ∷ codes "delivered sent 1" ∷ codes "delivered sent 2" ∷
    codes "delivered sent 3" ∷ codes "delivered learned 0" ∷ codes "exported period 0 lines 1" ∷ header_line ∷ [])
unfolding days_from_civil day_count days_of_years days_of_months worth_of decimals_of digits
one_node_transcript = refl

-- a promise heard twice counts once
abbrev two_nodes_need_both : Schedule
two_nodes_need_both = record {
  voters = 2;
  observers = 0;
  agents = 1;
  sheet = sheet_0_lines;
  issuer = issuer_1_lines;
  events =
      PlansStart 1 ∷ PlansDelivery 0 0 ∷ PlansDelivery 1 1 ∷ PlansDelivery 1 1 ∷ PlansDelivery 0 1 ∷
      PlansDelivery 2 1 ∷ [];
}

two_nodes_need_both_text : schedule_text two_nodes_need_both ≡
    lines_text (codes "SCHEDULE 1" ∷ codes "nodes 2" ∷ codes "agents 1" ∷ [])
    ++ line (codes "sheet 13") ++ lines_text sheet_0_lines ++ line (codes "issuer 7") ++ lines_text issuer_1_lines
    ++ lines_text (codes "start 1" ∷ codes "deliver 0 0" ∷ codes "deliver 1 1" ∷ codes "deliver 1 1" ∷ codes "deliver 0 1" ∷
    codes "deliver 2 1" ∷ [])
unfolding digits
two_nodes_need_both_text = refl

two_nodes_need_both_transcript : transcript_of sheet_0 issuer_1 two_nodes_need_both ≡
    lines_text (codes "started ballot 3 packet 0" ∷ codes "delivered sent 1" ∷ codes "delivered" ∷ codes "delivered" ∷
    codes "delivered sent 2" ∷ codes "delivered sent 3" ∷ [])
unfolding days_from_civil day_count days_of_years days_of_months worth_of decimals_of digits
two_nodes_need_both_transcript = refl

-- An observer promises and accepts nothing and has no ballots. It learns what the voters choose, and tells and exports it.
abbrev pub a_voter_and_an_observer : Schedule
a_voter_and_an_observer = record {
  voters = 1;
  observers = 1;
  agents = 1;
  sheet = sheet_0_lines;
  issuer = issuer_1_lines;
  events =
      PlansStart 1 ∷ PlansStart 2 ∷ PlansStart 0 ∷ PlansDelivery 0 1 ∷ PlansDelivery 0 0 ∷ PlansDelivery 1 0 ∷
      PlansDelivery 2 1 ∷ PlansDelivery 2 0 ∷ PlansDelivery 3 1 ∷ PlansExport 1 0 ∷ PlansDelivery 0 1 ∷
      PlansDelivery 4 0 ∷ [];
}

a_voter_and_an_observer_text : schedule_text a_voter_and_an_observer ≡
    lines_text (codes "SCHEDULE 1" ∷ codes "nodes 1 observers 1" ∷ codes "agents 1" ∷ [])
    ++ line (codes "sheet 13") ++ lines_text sheet_0_lines ++ line (codes "issuer 7") ++ lines_text issuer_1_lines
    ++ lines_text (codes "start 1" ∷ codes "start 2" ∷ codes "start 0" ∷ codes "deliver 0 1" ∷ codes "deliver 0 0" ∷
    codes "deliver 1 0" ∷ codes "deliver 2 1" ∷ codes "deliver 2 0" ∷ codes "deliver 3 1" ∷ codes "export 1 0" ∷
    codes "deliver 0 1" ∷ codes "deliver 4 0" ∷ [])
unfolding digits
a_voter_and_an_observer_text = refl

a_voter_and_an_observer_transcript : transcript_of sheet_0 issuer_1 a_voter_and_an_observer ≡
    lines_text (codes "refused G13" ∷ codes "refused G6" ∷ codes "started ballot 1 packet 0" ∷ codes "delivered" ∷
    codes "delivered sent 1" ∷ codes "delivered sent 2" ∷ codes "delivered" ∷ codes "delivered sent 3" ∷
    codes "delivered learned 0" ∷ codes "exported period 0 lines 1" ∷ header_line ∷ codes "delivered sent 4" ∷
    codes "delivered learned 0" ∷ [])
unfolding days_from_civil day_count days_of_years days_of_months worth_of decimals_of digits
a_voter_and_an_observer_transcript = refl
