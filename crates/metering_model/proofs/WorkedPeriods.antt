-- What exports hold: empty periods, amendments and corrections.
-- Each stands as a schedule, with its text and the transcript that playing it writes.
use Rattle.std.specs.Prelude.{◌≡◌, [], ◌∷◌, ◌++◌, codes, refl}
use Rattle.std.specs.Fmt.{digits}
use Rattle.jiff_core.specs.Calendar.{days_from_civil, day_count, days_of_years, days_of_months}
use Rattle.metering_model.specs.NumberText.{worth_of, decimals_of}
use Rattle.metering_model.specs.File.{header_line}
use Rattle.metering_model.specs.Transcript.{line}
use Rattle.metering_model.specs.Schedule.{Schedule, PlansJournal, PlansDelivery, PlansStart, PlansExport, lines_text, schedule_text, transcript_of}
use Rattle.metering_model.proofs.Samples.{sheet_0, sheet_0_lines, issuer_1, issuer_1_lines, reading_1, row_1}

-- a period to which no batch was added
abbrev empty_period : Schedule
empty_period = record {
  voters = 3;
  observers = 0;
  agents = 1;
  sheet = sheet_0_lines;
  issuer = issuer_1_lines;
  events =
      PlansJournal (codes "B1|1|1|1" ∷ reading_1 ∷ []) ∷ PlansDelivery 0 0 ∷ PlansDelivery 0 1 ∷ PlansStart 0 ∷
      PlansDelivery 1 0 ∷ PlansDelivery 1 1 ∷ PlansDelivery 2 0 ∷ PlansDelivery 3 0 ∷ PlansDelivery 4 0 ∷
      PlansDelivery 4 1 ∷ PlansDelivery 5 0 ∷ PlansDelivery 6 0 ∷ PlansExport 0 0 ∷ PlansDelivery 5 1 ∷
      PlansDelivery 6 1 ∷ PlansExport 1 0 ∷ PlansStart 1 ∷ PlansDelivery 7 1 ∷ PlansDelivery 7 0 ∷
      PlansDelivery 8 1 ∷ PlansDelivery 9 1 ∷ PlansDelivery 10 0 ∷ PlansDelivery 10 1 ∷ PlansDelivery 11 1 ∷
      PlansDelivery 12 1 ∷ PlansExport 1 1 ∷ [];
}

empty_period_text : schedule_text empty_period ≡
    lines_text (codes "SCHEDULE 1" ∷ codes "nodes 3" ∷ codes "agents 1" ∷ [])
    ++ line (codes "sheet 13") ++ lines_text sheet_0_lines ++ line (codes "issuer 7") ++ lines_text issuer_1_lines
    ++ lines_text (codes "journal 2" ∷ codes "B1|1|1|1" ∷ reading_1 ∷ codes "deliver 0 0" ∷ codes "deliver 0 1" ∷
    codes "start 0" ∷ codes "deliver 1 0" ∷ codes "deliver 1 1" ∷ codes "deliver 2 0" ∷ codes "deliver 3 0" ∷
    codes "deliver 4 0" ∷ codes "deliver 4 1" ∷ codes "deliver 5 0" ∷ codes "deliver 6 0" ∷ codes "export 0 0" ∷
    codes "deliver 5 1" ∷ codes "deliver 6 1" ∷ codes "export 1 0" ∷ codes "start 1" ∷ codes "deliver 7 1" ∷
    codes "deliver 7 0" ∷ codes "deliver 8 1" ∷ codes "deliver 9 1" ∷ codes "deliver 10 0" ∷
    codes "deliver 10 1" ∷ codes "deliver 11 1" ∷ codes "deliver 12 1" ∷ codes "export 1 1" ∷ [])
unfolding digits
empty_period_text = refl

empty_period_transcript : transcript_of sheet_0 issuer_1 empty_period ≡
    lines_text (codes "journaled packet 0" ∷ codes "delivered" ∷ codes "delivered" ∷ codes "started ballot 3 packet 1" ∷
    codes "delivered sent 2" ∷ codes "delivered sent 3" ∷ codes "delivered" ∷ codes "delivered sent 4" ∷
    codes "delivered sent 5" ∷ codes "delivered sent 6" ∷ codes "delivered" ∷ codes "delivered learned 0" ∷
    codes "exported period 0 lines 2" ∷ header_line ∷ row_1 ∷ codes "delivered" ∷ codes "delivered learned 0" ∷
    codes "exported period 0 lines 2" ∷ header_line ∷ row_1 ∷ codes "started ballot 4 packet 7" ∷
    codes "delivered sent 8" ∷ codes "delivered sent 9" ∷ codes "delivered" ∷ codes "delivered sent 10" ∷
    codes "delivered sent 11" ∷ codes "delivered sent 12" ∷ codes "delivered" ∷ codes "delivered learned 1" ∷
    codes "exported period 1 lines 1" ∷ header_line ∷ [])
unfolding days_from_civil day_count days_of_years days_of_months worth_of decimals_of digits
empty_period_transcript = refl

-- an amendment in a later period gives the difference
abbrev pub correction : Schedule
correction = record {
  voters = 1;
  observers = 0;
  agents = 1;
  sheet = sheet_0_lines;
  issuer = issuer_1_lines;
  events =
      PlansJournal (codes "B1|1|1|1" ∷ reading_1 ∷ []) ∷ PlansDelivery 0 0 ∷ PlansStart 0 ∷ PlansDelivery 1 0 ∷
      PlansDelivery 2 0 ∷ PlansDelivery 3 0 ∷ PlansDelivery 4 0 ∷
      PlansJournal (codes "B1|1|2|1" ∷ codes "X|1|0|7200" ∷ []) ∷ PlansDelivery 5 0 ∷ PlansStart 0 ∷
      PlansDelivery 6 0 ∷ PlansDelivery 7 0 ∷ PlansDelivery 8 0 ∷ PlansDelivery 9 0 ∷ PlansExport 0 1 ∷
      PlansExport 0 0 ∷ [];
}

correction_text : schedule_text correction ≡
    lines_text (codes "SCHEDULE 1" ∷ codes "nodes 1" ∷ codes "agents 1" ∷ [])
    ++ line (codes "sheet 13") ++ lines_text sheet_0_lines ++ line (codes "issuer 7") ++ lines_text issuer_1_lines
    ++ lines_text (codes "journal 2" ∷ codes "B1|1|1|1" ∷ reading_1 ∷ codes "deliver 0 0" ∷ codes "start 0" ∷
    codes "deliver 1 0" ∷ codes "deliver 2 0" ∷ codes "deliver 3 0" ∷ codes "deliver 4 0" ∷ codes "journal 2" ∷
    codes "B1|1|2|1" ∷ codes "X|1|0|7200" ∷ codes "deliver 5 0" ∷ codes "start 0" ∷ codes "deliver 6 0" ∷
    codes "deliver 7 0" ∷ codes "deliver 8 0" ∷ codes "deliver 9 0" ∷ codes "export 0 1" ∷ codes "export 0 0" ∷ [])
unfolding digits
correction_text = refl

correction_transcript : transcript_of sheet_0 issuer_1 correction ≡
    lines_text (codes "journaled packet 0" ∷ codes "delivered" ∷ codes "started ballot 1 packet 1" ∷
    codes "delivered sent 2" ∷ codes "delivered sent 3" ∷ codes "delivered sent 4" ∷ codes "delivered learned 0" ∷
    codes "journaled packet 5" ∷ codes "delivered" ∷ codes "started ballot 2 packet 6" ∷
    codes "delivered sent 7" ∷ codes "delivered sent 8" ∷ codes "delivered sent 9" ∷ codes "delivered learned 1" ∷
    codes "exported period 1 lines 2" ∷ header_line ∷
    (codes "0.04,A-100,Payer,USD,2025-03-01T00:00:00Z,2025-02-01T00:00:00Z,Usage,Correction,Virtual CPU time,Usage-Based,"
    ++ codes "2025-01-10T02:00:00Z,2025-01-10T00:00:00Z,,,,,1800,Seconds,0.04,0.08,0.04,Sample Cloud Ltd,0.05,0.1,Standard,0.5,Hours,"
    ++ codes "Sample Cloud,Sample Cloud,,,vm-1,Compute,Sample Compute,cpu,cpu-od,acc-7,\"{\"\"env\"\":\"\"prod\"\"}\"") ∷
    codes "exported period 0 lines 2" ∷ header_line ∷ row_1 ∷ [])
unfolding days_from_civil day_count days_of_years days_of_months worth_of decimals_of digits
correction_transcript = refl

-- an amendment in its own period gives the new value
abbrev amendment_inside_one_period : Schedule
amendment_inside_one_period = record {
  voters = 1;
  observers = 0;
  agents = 1;
  sheet = sheet_0_lines;
  issuer = issuer_1_lines;
  events =
      PlansJournal (codes "B1|1|1|1" ∷ reading_1 ∷ []) ∷ PlansDelivery 0 0 ∷
      PlansJournal (codes "B1|1|2|1" ∷ codes "X|1|0|7200" ∷ []) ∷ PlansDelivery 1 0 ∷ PlansStart 0 ∷
      PlansDelivery 2 0 ∷ PlansDelivery 3 0 ∷ PlansDelivery 4 0 ∷ PlansDelivery 5 0 ∷ PlansExport 0 0 ∷ [];
}

amendment_inside_one_period_text : schedule_text amendment_inside_one_period ≡
    lines_text (codes "SCHEDULE 1" ∷ codes "nodes 1" ∷ codes "agents 1" ∷ [])
    ++ line (codes "sheet 13") ++ lines_text sheet_0_lines ++ line (codes "issuer 7") ++ lines_text issuer_1_lines
    ++ lines_text (codes "journal 2" ∷ codes "B1|1|1|1" ∷ reading_1 ∷ codes "deliver 0 0" ∷ codes "journal 2" ∷
    codes "B1|1|2|1" ∷ codes "X|1|0|7200" ∷ codes "deliver 1 0" ∷ codes "start 0" ∷ codes "deliver 2 0" ∷
    codes "deliver 3 0" ∷ codes "deliver 4 0" ∷ codes "deliver 5 0" ∷ codes "export 0 0" ∷ [])
unfolding digits
amendment_inside_one_period_text = refl

amendment_inside_one_period_transcript : transcript_of sheet_0 issuer_1 amendment_inside_one_period ≡
    lines_text (codes "journaled packet 0" ∷ codes "delivered" ∷ codes "journaled packet 1" ∷ codes "delivered" ∷
    codes "started ballot 1 packet 2" ∷ codes "delivered sent 3" ∷ codes "delivered sent 4" ∷
    codes "delivered sent 5" ∷ codes "delivered learned 0" ∷ codes "exported period 0 lines 2" ∷ header_line ∷
    (codes "0.16,A-100,Payer,USD,2025-02-01T00:00:00Z,2025-01-01T00:00:00Z,Usage,,Virtual CPU time,Usage-Based,2025-01-10T02:00:00Z,"
    ++ codes "2025-01-10T00:00:00Z,,,,,7200,Seconds,0.16,0.08,0.16,Sample Cloud Ltd,0.2,0.1,Standard,2,Hours,Sample Cloud,Sample Cloud,,,"
    ++ codes "vm-1,Compute,Sample Compute,cpu,cpu-od,acc-7,\"{\"\"env\"\":\"\"prod\"\"}\"") ∷
    [])
unfolding days_from_civil day_count days_of_years days_of_months worth_of decimals_of digits
amendment_inside_one_period_transcript = refl

-- amendments that come back to the old value give no row
abbrev there_and_back : Schedule
there_and_back = record {
  voters = 1;
  observers = 0;
  agents = 1;
  sheet = sheet_0_lines;
  issuer = issuer_1_lines;
  events =
      PlansJournal (codes "B1|1|1|1" ∷ reading_1 ∷ []) ∷ PlansDelivery 0 0 ∷ PlansStart 0 ∷ PlansDelivery 1 0 ∷
      PlansDelivery 2 0 ∷ PlansDelivery 3 0 ∷ PlansDelivery 4 0 ∷
      PlansJournal (codes "B1|1|2|1" ∷ codes "X|1|0|7200" ∷ []) ∷ PlansDelivery 5 0 ∷
      PlansJournal (codes "B1|1|3|1" ∷ codes "X|1|0|5400" ∷ []) ∷ PlansDelivery 6 0 ∷ PlansStart 0 ∷
      PlansDelivery 7 0 ∷ PlansDelivery 8 0 ∷ PlansDelivery 9 0 ∷ PlansDelivery 10 0 ∷ PlansExport 0 1 ∷ [];
}

there_and_back_text : schedule_text there_and_back ≡
    lines_text (codes "SCHEDULE 1" ∷ codes "nodes 1" ∷ codes "agents 1" ∷ [])
    ++ line (codes "sheet 13") ++ lines_text sheet_0_lines ++ line (codes "issuer 7") ++ lines_text issuer_1_lines
    ++ lines_text (codes "journal 2" ∷ codes "B1|1|1|1" ∷ reading_1 ∷ codes "deliver 0 0" ∷ codes "start 0" ∷
    codes "deliver 1 0" ∷ codes "deliver 2 0" ∷ codes "deliver 3 0" ∷ codes "deliver 4 0" ∷ codes "journal 2" ∷
    codes "B1|1|2|1" ∷ codes "X|1|0|7200" ∷ codes "deliver 5 0" ∷ codes "journal 2" ∷ codes "B1|1|3|1" ∷
    codes "X|1|0|5400" ∷ codes "deliver 6 0" ∷ codes "start 0" ∷ codes "deliver 7 0" ∷ codes "deliver 8 0" ∷
    codes "deliver 9 0" ∷ codes "deliver 10 0" ∷ codes "export 0 1" ∷ [])
unfolding digits
there_and_back_text = refl

there_and_back_transcript : transcript_of sheet_0 issuer_1 there_and_back ≡
    lines_text (codes "journaled packet 0" ∷ codes "delivered" ∷ codes "started ballot 1 packet 1" ∷
    codes "delivered sent 2" ∷ codes "delivered sent 3" ∷ codes "delivered sent 4" ∷ codes "delivered learned 0" ∷
    codes "journaled packet 5" ∷ codes "delivered" ∷ codes "journaled packet 6" ∷ codes "delivered" ∷
    codes "started ballot 2 packet 7" ∷ codes "delivered sent 8" ∷ codes "delivered sent 9" ∷
    codes "delivered sent 10" ∷ codes "delivered learned 1" ∷ codes "exported period 1 lines 1" ∷ header_line ∷ [])
unfolding days_from_civil day_count days_of_years days_of_months worth_of decimals_of digits
there_and_back_transcript = refl

-- two amendments in one period, that come back to the old value
abbrev amendments_out_of_order_at_once : Schedule
amendments_out_of_order_at_once = record {
  voters = 1;
  observers = 0;
  agents = 1;
  sheet = sheet_0_lines;
  issuer = issuer_1_lines;
  events =
      PlansJournal (codes "B1|1|1|1" ∷ reading_1 ∷ []) ∷ PlansDelivery 0 0 ∷ PlansStart 0 ∷ PlansDelivery 1 0 ∷
      PlansDelivery 2 0 ∷ PlansDelivery 3 0 ∷ PlansDelivery 4 0 ∷
      PlansJournal (codes "B1|1|2|1" ∷ codes "X|1|0|7200" ∷ []) ∷ PlansDelivery 5 0 ∷
      PlansJournal (codes "B1|1|3|2" ∷ codes "X|1|0|3600" ∷ codes "X|1|0|5400" ∷ []) ∷ PlansDelivery 6 0 ∷
      PlansStart 0 ∷ PlansDelivery 7 0 ∷ PlansDelivery 8 0 ∷ PlansDelivery 9 0 ∷ PlansDelivery 10 0 ∷
      PlansExport 0 1 ∷ [];
}

amendments_out_of_order_at_once_text : schedule_text amendments_out_of_order_at_once ≡
    lines_text (codes "SCHEDULE 1" ∷ codes "nodes 1" ∷ codes "agents 1" ∷ [])
    ++ line (codes "sheet 13") ++ lines_text sheet_0_lines ++ line (codes "issuer 7") ++ lines_text issuer_1_lines
    ++ lines_text (codes "journal 2" ∷ codes "B1|1|1|1" ∷ reading_1 ∷ codes "deliver 0 0" ∷ codes "start 0" ∷
    codes "deliver 1 0" ∷ codes "deliver 2 0" ∷ codes "deliver 3 0" ∷ codes "deliver 4 0" ∷ codes "journal 2" ∷
    codes "B1|1|2|1" ∷ codes "X|1|0|7200" ∷ codes "deliver 5 0" ∷ codes "journal 3" ∷ codes "B1|1|3|2" ∷
    codes "X|1|0|3600" ∷ codes "X|1|0|5400" ∷ codes "deliver 6 0" ∷ codes "start 0" ∷ codes "deliver 7 0" ∷
    codes "deliver 8 0" ∷ codes "deliver 9 0" ∷ codes "deliver 10 0" ∷ codes "export 0 1" ∷ [])
unfolding digits
amendments_out_of_order_at_once_text = refl

amendments_out_of_order_at_once_transcript : transcript_of sheet_0 issuer_1 amendments_out_of_order_at_once ≡
    lines_text (codes "journaled packet 0" ∷ codes "delivered" ∷ codes "started ballot 1 packet 1" ∷
    codes "delivered sent 2" ∷ codes "delivered sent 3" ∷ codes "delivered sent 4" ∷ codes "delivered learned 0" ∷
    codes "journaled packet 5" ∷ codes "delivered" ∷ codes "journaled packet 6" ∷ codes "delivered" ∷
    codes "started ballot 2 packet 7" ∷ codes "delivered sent 8" ∷ codes "delivered sent 9" ∷
    codes "delivered sent 10" ∷ codes "delivered learned 1" ∷ codes "exported period 1 lines 1" ∷ header_line ∷ [])
unfolding days_from_civil day_count days_of_years days_of_months worth_of decimals_of digits
amendments_out_of_order_at_once_transcript = refl

-- two amendments, a period each
abbrev amendments_out_of_order_in_turn : Schedule
amendments_out_of_order_in_turn = record {
  voters = 1;
  observers = 0;
  agents = 1;
  sheet = sheet_0_lines;
  issuer = issuer_1_lines;
  events =
      PlansJournal (codes "B1|1|1|1" ∷ reading_1 ∷ []) ∷ PlansDelivery 0 0 ∷ PlansStart 0 ∷ PlansDelivery 1 0 ∷
      PlansDelivery 2 0 ∷ PlansDelivery 3 0 ∷ PlansDelivery 4 0 ∷
      PlansJournal (codes "B1|1|2|1" ∷ codes "X|1|0|7200" ∷ []) ∷ PlansDelivery 5 0 ∷ PlansStart 0 ∷
      PlansDelivery 6 0 ∷ PlansDelivery 7 0 ∷ PlansDelivery 8 0 ∷ PlansDelivery 9 0 ∷
      PlansJournal (codes "B1|1|3|2" ∷ codes "X|1|0|3600" ∷ codes "X|1|0|5400" ∷ []) ∷ PlansDelivery 10 0 ∷
      PlansStart 0 ∷ PlansDelivery 11 0 ∷ PlansDelivery 12 0 ∷ PlansDelivery 13 0 ∷ PlansDelivery 14 0 ∷
      PlansExport 0 2 ∷ [];
}

amendments_out_of_order_in_turn_text : schedule_text amendments_out_of_order_in_turn ≡
    lines_text (codes "SCHEDULE 1" ∷ codes "nodes 1" ∷ codes "agents 1" ∷ [])
    ++ line (codes "sheet 13") ++ lines_text sheet_0_lines ++ line (codes "issuer 7") ++ lines_text issuer_1_lines
    ++ lines_text (codes "journal 2" ∷ codes "B1|1|1|1" ∷ reading_1 ∷ codes "deliver 0 0" ∷ codes "start 0" ∷
    codes "deliver 1 0" ∷ codes "deliver 2 0" ∷ codes "deliver 3 0" ∷ codes "deliver 4 0" ∷ codes "journal 2" ∷
    codes "B1|1|2|1" ∷ codes "X|1|0|7200" ∷ codes "deliver 5 0" ∷ codes "start 0" ∷ codes "deliver 6 0" ∷
    codes "deliver 7 0" ∷ codes "deliver 8 0" ∷ codes "deliver 9 0" ∷ codes "journal 3" ∷ codes "B1|1|3|2" ∷
    codes "X|1|0|3600" ∷ codes "X|1|0|5400" ∷ codes "deliver 10 0" ∷ codes "start 0" ∷ codes "deliver 11 0" ∷
    codes "deliver 12 0" ∷ codes "deliver 13 0" ∷ codes "deliver 14 0" ∷ codes "export 0 2" ∷ [])
unfolding digits
amendments_out_of_order_in_turn_text = refl

amendments_out_of_order_in_turn_transcript : transcript_of sheet_0 issuer_1 amendments_out_of_order_in_turn ≡
    lines_text (codes "journaled packet 0" ∷ codes "delivered" ∷ codes "started ballot 1 packet 1" ∷
    codes "delivered sent 2" ∷ codes "delivered sent 3" ∷ codes "delivered sent 4" ∷ codes "delivered learned 0" ∷
    codes "journaled packet 5" ∷ codes "delivered" ∷ codes "started ballot 2 packet 6" ∷
    codes "delivered sent 7" ∷ codes "delivered sent 8" ∷ codes "delivered sent 9" ∷ codes "delivered learned 1" ∷
    codes "journaled packet 10" ∷ codes "delivered" ∷ codes "started ballot 3 packet 11" ∷
    codes "delivered sent 12" ∷ codes "delivered sent 13" ∷ codes "delivered sent 14" ∷
    codes "delivered learned 2" ∷ codes "exported period 2 lines 2" ∷ header_line ∷
    (codes "-0.04,A-100,Payer,USD,2025-04-01T00:00:00Z,2025-03-01T00:00:00Z,Usage,Correction,Virtual CPU time,Usage-Based,"
    ++ codes "2025-01-10T02:00:00Z,2025-01-10T00:00:00Z,,,,,-1800,Seconds,-0.04,0.08,-0.04,Sample Cloud Ltd,-0.05,0.1,Standard,-0.5,Hours,"
    ++ codes "Sample Cloud,Sample Cloud,,,vm-1,Compute,Sample Compute,cpu,cpu-od,acc-7,\"{\"\"env\"\":\"\"prod\"\"}\"") ∷
    [])
unfolding days_from_civil day_count days_of_years days_of_months worth_of decimals_of digits
amendments_out_of_order_in_turn_transcript = refl
