-- A schedule of credits, from the bytes of its text to those of its transcript.
use Rattle.std.proofs.Common.{◌≡◌, ℕ, List, [], ◌∷◌, Result, Ok, Err, refl, codes}
use Rattle.std.specs.Str.{is_utf8, chars}
use Rattle.std.specs.Fmt.{digits}
use Rattle.metering_model.specs.NumberText.{decimals_of}
use Rattle.metering_model.specs.File.{header_line}
use Rattle.metering_model.specs.Schedule.{lines_text}
use Rattle.metering_model.specs.Transcript.{transcript}
use Rattle.sheet_text.specs.Names.{key_name}
use Rattle.sheet_text.specs.Keys.{value_under, text_under, label_under, base_under, day_under, price_under, per_under, service_category_under, commitment_category_under, rows_in, rows_under}
use Rattle.sheet_text.specs.RowReading.{price_row_in, commitment_in, region_in}
use Rattle.sheet_text.specs.IssuerReading.{currency_under, issuer_in, issuer_of_text}
use Rattle.price_sheet.specs.SheetReading.{next_price, next_commitment, next_region, sheet_of_rows, sheet_in, sheet_of_text}
use Rattle.sheet_text.proofs.WorkedSteps.{scan_numeral, days_from_civil, day_count, days_of_years, days_of_months, skip_ws, skip_from, special, body}
use Rattle.sheet_text.proofs.WorkedSteps.{one_line, quoted, simple_key, key_after, underscore_fits, decimal_number, plain_number, number, word_value}
use Rattle.sheet_text.proofs.WorkedSteps.{word_len, unquoted, along_header, along_dots, at_key, define, key_equals, val, atom, header_key}
use Rattle.sheet_text.proofs.WorkedSteps.{expression, line, lines, skip_bom, parse_document}
use Rattle.metering_model.specs.NumberText.{worth_of}
use Rattle.input_sections.specs.declared.faults.ScheduleFault.{ScheduleFault}
use Rattle.input_sections.specs.Sections.{section_in, read_as, sheet_section, issuer_section}
use Rattle.schedule_reader.specs.Schedules.{ReadSchedule, group_in, head_line, nodes_line, number_line, event_in, line_event, journal_event, revival_event, events_in, schedule_in}
use Rattle.schedule_player.specs.Transcripts.{replies_to}

-- what is written of the schedule that a text is
abbrev played : Result ReadSchedule ScheduleFault → Result (List ℕ) ScheduleFault
played (Ok s) = Ok (transcript (replies_to s s.events))
played (Err fault) = Err fault

abbrev credit : List ℕ
credit = codes "C|2025-01-31T00:00:00Z|2025-02-01T00:00:00Z|acc-7||Launch credit|-2.5||"

abbrev second_credit : List ℕ
second_credit = codes "C|2025-01-10T00:00:00Z|2025-01-10T02:00:00Z||vm-1|Outage|-0.025||note=b;team=a"

-- One node votes alone, so its own packets close the month; an export before that is refused.
abbrev schedule_lines : List (List ℕ)
schedule_lines =
    codes "SCHEDULE 1" ∷ codes "nodes 1" ∷ codes "agents 1" ∷ codes "sheet 1" ∷ codes "base = \"2025-01\"" ∷ codes "issuer 7" ∷
    codes "provider = \"Sample Cloud\"" ∷ codes "publisher = \"Sample Books\"" ∷ codes "issuer = \"Sample Cloud Ltd\"" ∷
    codes "account_id = \"A-100\"" ∷ codes "account_name = \"Payer\"" ∷ codes "currency = \"EUR\"" ∷
    codes "other_service = \"Billing\"" ∷ codes "journal 3" ∷ codes "B1|1|1|2" ∷ credit ∷ second_credit ∷
    codes "deliver 0 0" ∷ codes "start 0" ∷ codes "deliver 1 0" ∷ codes "deliver 2 0" ∷ codes "deliver 3 0" ∷
    codes "export 0 0" ∷ codes "deliver 4 0" ∷ codes "export 0 0" ∷ []

-- a credit's line: all four costs are its amount, and the columns of prices, quantities and commitments are null
credits_from_text_to_transcript : played (schedule_in (lines_text schedule_lines)) ≡ Ok (lines_text (
    codes "journaled packet 0" ∷ codes "delivered" ∷ codes "started ballot 1 packet 1" ∷ codes "delivered sent 2" ∷
    codes "delivered sent 3" ∷ codes "delivered sent 4" ∷ codes "refused G7 learned 0" ∷ codes "delivered learned 0" ∷
    codes "exported period 0 lines 3" ∷ header_line ∷
    codes "-2.5,A-100,Payer,EUR,2025-02-01T00:00:00Z,2025-01-01T00:00:00Z,Credit,,Launch credit,One-Time,2025-02-01T00:00:00Z,2025-01-31T00:00:00Z,,,,,,,-2.5,,-2.5,Sample Cloud Ltd,-2.5,,,,,Sample Cloud,Sample Books,,,,Other,Billing,,,acc-7,{}" ∷
    codes "-0.025,A-100,Payer,EUR,2025-02-01T00:00:00Z,2025-01-01T00:00:00Z,Credit,,Outage,One-Time,2025-01-10T02:00:00Z,2025-01-10T00:00:00Z,,,,,,,-0.025,,-0.025,Sample Cloud Ltd,-0.025,,,,,Sample Cloud,Sample Books,,,vm-1,Other,Billing,,,,\"{\"\"note\"\":\"\"b\"\",\"\"team\"\":\"\"a\"\"}\"" ∷ []))
unfolding schedule_in group_in head_line nodes_line number_line events_in event_in line_event journal_event revival_event section_in read_as
    sheet_section issuer_section is_utf8 chars lib.Utf8.encode price_row_in commitment_in region_in next_price next_commitment next_region
    sheet_of_rows sheet_in sheet_of_text currency_under issuer_in issuer_of_text key_name value_under text_under label_under base_under day_under
    price_under per_under service_category_under commitment_category_under rows_in rows_under parse_document lines line expression skip_bom skip_from
    skip_ws header_key key_equals key_after simple_key val atom quoted one_line body special define along_header along_dots at_key unquoted word_len
    word_value number underscore_fits plain_number decimal_number scan_numeral days_from_civil day_count days_of_years days_of_months worth_of
    decimals_of digits
credits_from_text_to_transcript = refl
