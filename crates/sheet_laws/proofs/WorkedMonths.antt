-- Two months played under both sheets: January's file is the same bytes, and of February's a row of February alone is another.
use Rattle.std.proofs.Common.{◌≡◌, ℕ, List, [], ◌∷◌, ◌++◌, refl, sym, ap, subst, ◌∙◌, codes, Some, None, Result, Ok, Err, pos, negsuc, ◌≤ℤ◌, Contains, arith}
use Rattle.std.proofs.lemmas.Int.{ints}
use Rattle.std.specs.Fmt.{digits}
use Rattle.jiff_core.specs.Calendar.{days_from_civil, day_count, days_of_years, days_of_months}
use Rattle.metering_model.specs.NumberText.{worth_of, decimals_of}
use Rattle.metering_model.specs.declared.BatchFault.{BatchFault}
use Rattle.metering_model.specs.declared.Kind.TheVariants.{Usage, Credit}
use Rattle.metering_model.specs.declared.Version.TheVariants.{B2}
use Rattle.metering_model.specs.Dates.{period_end}
use Rattle.metering_model.specs.Batch.{Batch, Reading, Reads, Amends}
use Rattle.metering_model.specs.BatchReading.{batch_in}
use Rattle.metering_model.specs.Sheet.{Sheet}
use Rattle.metering_model.specs.File.{header_line}
use Rattle.metering_model.specs.World.{Event, Journal, Deliver, Start, Export, Snapshot, Reply, Journaled, Delivered, Started, Exported, World, offer_of, opening}
use Rattle.metering_model.specs.Step.{play}
use Rattle.metering_model.specs.Transcript.{file_of, transcript}
use Rattle.metering_model.specs.Schedule.{TextLines, lines_text}
use Rattle.metering_model.proofs.Samples.{january_2025, issuer_1}
use Rattle.metering_model.proofs.WorkedSheets.{issuer_1_is_an_issuer}
use Rattle.group_laws.proofs.EveryRun.{contains_at}
use Rattle.transcript_laws.specs.Shown.{Shows}
use Rattle.sheet_laws.specs.Longer.{NamesAllAlike, day_start}
use Rattle.sheet_laws.specs.Runs.{AreAllPriced}
use Rattle.sheet_laws.proofs.ReadEvents.{ReadEvent, ReadBatch, Is, AreRead, play_read, same_replies}
use Rattle.sheet_laws.proofs.LongerSheets.{goes_on, prices_all}
use Rattle.sheet_laws.proofs.Months.{file_stays}
use Rattle.sheet_laws.proofs.Premises.{all_priced, named_alike, alike_exports}
use Rattle.sheet_laws.proofs.ShownMonths.{both_alike}
use Rattle.sheet_laws.proofs.TwoRuns.{still_priced}
use Rattle.sheet_laws.proofs.TwoSheets.{february_1, old_sheet, new_sheet, it_is_longer, old_sheet_is_a_sheet, new_sheet_is_a_sheet}

-- January: usage, usage of a commitment, and a credit
abbrev pub january_batch : TextLines
january_batch = codes "B2|1|1|3"
    ∷ codes "U|2025-01-10T00:00:00Z|2025-01-10T02:00:00Z|acc-7|vm-1|cpu|5400||env=prod|eu-1"
    ∷ codes "U|2025-01-11T01:00:00Z|2025-01-11T02:00:00Z|acc-7|vm-1|cpu|3600|cm-1||"
    ∷ codes "C|2025-01-12T00:00:00Z|2025-01-13T00:00:00Z|acc-7||goodwill|-2.5|||"
    ∷ []

-- February: late usage of January, an amendment of January's first reading, and usage of February in another region
abbrev pub february_batch : TextLines
february_batch = codes "B2|1|2|3"
    ∷ codes "U|2025-01-20T00:00:00Z|2025-01-20T01:00:00Z|acc-7|vm-1|cpu|3600|||"
    ∷ codes "X|1|0|7200"
    ∷ codes "U|2025-02-03T00:00:00Z|2025-02-03T01:00:00Z|acc-7|vm-1|cpu|3600|||as-1"
    ∷ []

abbrev pub two_months : List Event
two_months =
    Journal (offer_of (lines_text january_batch)) ∷ Deliver 0 0 ∷ Start 0 ∷ Deliver 1 0 ∷ Deliver 2 0 ∷ Deliver 3 0 ∷ Deliver 4 0 ∷
    Export 0 0 ∷ Journal (offer_of (lines_text february_batch)) ∷ Deliver 5 0 ∷ Start 0 ∷ Deliver 6 0 ∷ Deliver 7 0 ∷ Deliver 8 0 ∷
    Deliver 9 0 ∷ Export 0 1 ∷ []

abbrev pub run_under : Sheet → List Reply × World
run_under sheet = play (opening 1 0 1 sheet issuer_1) two_months

-- ---- the batches as they are read, and the replies: computed once, and the examples are of these

abbrev pub read : TextLines → Batch
read ls = elim (batch_in (lines_text ls)) [ Ok b ↦ b | Err fault ↦ record { version = B2; agent = 0; seq = 0; records = [] } ]

abbrev of_january_10 : Reading
of_january_10 = record {
  kind = Usage;
  start = pos 1_736_467_200;
  end = pos 1_736_474_400;
  start_text = codes "2025-01-10T00:00:00Z";
  end_text = codes "2025-01-10T02:00:00Z";
  account = codes "acc-7";
  resource = codes "vm-1";
  key = codes "cpu";
  value = pos 5_400_000_000;
  commitment = [];
  tags = record { key = codes "env"; value = codes "prod" } ∷ [];
  region = Some (codes "eu-1");
}

abbrev of_january_11 : Reading
of_january_11 = record {
  kind = Usage;
  start = pos 1_736_557_200;
  end = pos 1_736_560_800;
  start_text = codes "2025-01-11T01:00:00Z";
  end_text = codes "2025-01-11T02:00:00Z";
  account = codes "acc-7";
  resource = codes "vm-1";
  key = codes "cpu";
  value = pos 3_600_000_000;
  commitment = codes "cm-1";
  tags = [];
  region = Some [];
}

abbrev of_january_12 : Reading
of_january_12 = record {
  kind = Credit;
  start = pos 1_736_640_000;
  end = pos 1_736_726_400;
  start_text = codes "2025-01-12T00:00:00Z";
  end_text = codes "2025-01-13T00:00:00Z";
  account = codes "acc-7";
  resource = [];
  key = codes "goodwill";
  value = negsuc 2_499_999;
  commitment = [];
  tags = [];
  region = Some [];
}

abbrev of_january_20 : Reading
of_january_20 = record {
  kind = Usage;
  start = pos 1_737_331_200;
  end = pos 1_737_334_800;
  start_text = codes "2025-01-20T00:00:00Z";
  end_text = codes "2025-01-20T01:00:00Z";
  account = codes "acc-7";
  resource = codes "vm-1";
  key = codes "cpu";
  value = pos 3_600_000_000;
  commitment = [];
  tags = [];
  region = Some [];
}

abbrev of_february_3 : Reading
of_february_3 = record {
  kind = Usage;
  start = pos 1_738_540_800;
  end = pos 1_738_544_400;
  start_text = codes "2025-02-03T00:00:00Z";
  end_text = codes "2025-02-03T01:00:00Z";
  account = codes "acc-7";
  resource = codes "vm-1";
  key = codes "cpu";
  value = pos 3_600_000_000;
  commitment = [];
  tags = [];
  region = Some (codes "as-1");
}

abbrev pub january_read : Batch
january_read = record { version = B2; agent = 1; seq = 1; records = Reads of_january_10 ∷ Reads of_january_11 ∷ Reads of_january_12 ∷ [] }

abbrev pub february_read : Batch
february_read = record { version = B2; agent = 1; seq = 2; records = Reads of_january_20 ∷ Amends 1 0 (pos 7_200_000_000) ∷ Reads of_february_3 ∷ [] }

january_in : batch_in (lines_text january_batch) ≡ Ok january_read
unfolding days_from_civil day_count days_of_years days_of_months worth_of decimals_of digits
january_in = refl

february_in : batch_in (lines_text february_batch) ≡ Ok february_read
unfolding days_from_civil day_count days_of_years days_of_months worth_of decimals_of digits
february_in = refl

abbrev batch_or_none : Result Batch BatchFault → Batch
batch_or_none r = elim r [ Ok b ↦ b | Err fault ↦ record { version = B2; agent = 0; seq = 0; records = [] } ]

pub january_is_read : read january_batch ≡ january_read
january_is_read = ap batch_or_none january_in

pub february_is_read : read february_batch ≡ february_read
february_is_read = ap batch_or_none february_in

abbrev pub two_months_read : List ReadEvent
two_months_read =
    ReadBatch january_read ∷ Is (Deliver 0 0) ∷ Is (Start 0) ∷ Is (Deliver 1 0) ∷ Is (Deliver 2 0) ∷ Is (Deliver 3 0) ∷ Is (Deliver 4 0)
    ∷ Is (Export 0 0) ∷ ReadBatch february_read ∷ Is (Deliver 5 0) ∷ Is (Start 0) ∷ Is (Deliver 6 0) ∷ Is (Deliver 7 0) ∷ Is (Deliver 8 0)
    ∷ Is (Deliver 9 0) ∷ Is (Export 0 1) ∷ []

pub two_months_are_read : AreRead two_months two_months_read
two_months_are_read = (
  (lines_text january_batch, refl, january_in),
  (
    refl,
    (
      refl,
      (
        refl,
        (
          refl,
          (
            refl,
            (
              refl,
              (
                refl,
                ((lines_text february_batch, refl, february_in), (refl, (refl, (refl, (refl, (refl, (refl, (refl, tt)))))))),
              ),
            ),
          ),
        ),
      ),
    ),
  ),
)

abbrev pub january_of : Batch → Sheet → Snapshot
january_of b sheet = record { period = 0; from = 0 ∷ []; to = 1 ∷ []; batches = b ∷ []; sheet = sheet; issuer = issuer_1 }

abbrev pub february_of : Batch → Batch → Sheet → Snapshot
february_of b c sheet = record { period = 1; from = 1 ∷ []; to = 2 ∷ []; batches = b ∷ c ∷ []; sheet = sheet; issuer = issuer_1 }

abbrev pub replies_read : Sheet → List Reply
replies_read sheet =
    Journaled 0 ∷ Delivered None None ∷ Started 1 1 ∷ Delivered (Some 2) None ∷ Delivered (Some 3) None ∷ Delivered (Some 4) None
    ∷ Delivered None (Some 0) ∷ Exported (january_of january_read sheet) ∷ Journaled 5 ∷ Delivered None None ∷ Started 2 6
    ∷ Delivered (Some 7) None ∷ Delivered (Some 8) None ∷ Delivered (Some 9) None ∷ Delivered None (Some 1)
    ∷ Exported (february_of january_read february_read sheet) ∷ []

old_replies_read : (play_read (opening 1 0 1 old_sheet issuer_1) two_months_read).0 ≡ replies_read old_sheet
unfolding days_from_civil day_count days_of_years days_of_months worth_of decimals_of digits
old_replies_read = refl

pub old_replies : (run_under old_sheet).0 ≡ replies_read old_sheet
old_replies = same_replies (opening 1 0 1 old_sheet issuer_1) two_months two_months_read two_months_are_read ∙ old_replies_read

new_replies_read : (play_read (opening 1 0 1 new_sheet issuer_1) two_months_read).0 ≡ replies_read new_sheet
unfolding days_from_civil day_count days_of_years days_of_months worth_of decimals_of digits
new_replies_read = refl

abbrev pub january : TextLines
january = header_line
    ∷ (codes "0.12,A-100,Payer,USD,2025-02-01T00:00:00Z,2025-01-01T00:00:00Z,Usage,,Virtual CPU time,Usage-Based,2025-01-10T02:00:00Z,"
    ++ codes "2025-01-10T00:00:00Z,,,,,5400,Seconds,0.12,0.08,0.12,Sample Cloud Ltd,0.15,0.1,Standard,1.5,Hours,Sample Cloud,Sample Cloud,"
    ++ codes "eu-1,Europe 1,vm-1,Compute,Sample Compute,cpu,cpu-od,acc-7,\"{\"\"env\"\":\"\"prod\"\"}\"")
    ∷ (codes "0,A-100,Payer,USD,2025-02-01T00:00:00Z,2025-01-01T00:00:00Z,Usage,,Virtual CPU time,Usage-Based,2025-01-11T02:00:00Z,"
    ++ codes "2025-01-11T01:00:00Z,Usage,cm-1,Used,Reserved,3600,Seconds,0.08,0.08,0.05,Sample Cloud Ltd,0.1,0.1,Committed,1,Hours,"
    ++ codes "Sample Cloud,Sample Cloud,,,vm-1,Compute,Sample Compute,cpu,cpu-od,acc-7,{}")
    ∷ codes "-2.5,A-100,Payer,USD,2025-02-01T00:00:00Z,2025-01-01T00:00:00Z,Credit,,goodwill,One-Time,2025-01-13T00:00:00Z,2025-01-12T00:00:00Z,,,,,,,-2.5,,-2.5,Sample Cloud Ltd,-2.5,,,,,Sample Cloud,Sample Cloud,,,,Other,Billing,,,acc-7,{}"
    ∷ []

-- the correction and the late row, which both sheets give
abbrev pub of_january : TextLines
of_january =
    (codes "0.04,A-100,Payer,USD,2025-03-01T00:00:00Z,2025-02-01T00:00:00Z,Usage,Correction,Virtual CPU time,Usage-Based,"
    ++ codes "2025-01-10T02:00:00Z,2025-01-10T00:00:00Z,,,,,1800,Seconds,0.04,0.08,0.04,Sample Cloud Ltd,0.05,0.1,Standard,0.5,Hours,"
    ++ codes "Sample Cloud,Sample Cloud,eu-1,Europe 1,vm-1,Compute,Sample Compute,cpu,cpu-od,acc-7,\"{\"\"env\"\":\"\"prod\"\"}\"")
    ∷ (codes "0.08,A-100,Payer,USD,2025-03-01T00:00:00Z,2025-02-01T00:00:00Z,Usage,,Virtual CPU time,Usage-Based,2025-01-20T01:00:00Z,"
    ++ codes "2025-01-20T00:00:00Z,,,,,3600,Seconds,0.08,0.08,0.08,Sample Cloud Ltd,0.1,0.1,Standard,1,Hours,Sample Cloud,Sample Cloud,,,"
    ++ codes "vm-1,Compute,Sample Compute,cpu,cpu-od,acc-7,{}")
    ∷ []

-- and the row of February under each of them
abbrev pub by_the_hour : List ℕ
by_the_hour = codes "0.08,A-100,Payer,USD,2025-03-01T00:00:00Z,2025-02-01T00:00:00Z,Usage,,Virtual CPU time,Usage-Based,2025-02-03T01:00:00Z,"
    ++ codes "2025-02-03T00:00:00Z,,,,,3600,Seconds,0.08,0.08,0.08,Sample Cloud Ltd,0.1,0.1,Standard,1,Hours,Sample Cloud,Sample Cloud,"
    ++ codes "as-1,as-1,vm-1,Compute,Sample Compute,cpu,cpu-od,acc-7,{}"

abbrev pub by_the_minute : List ℕ
by_the_minute = codes "0.09,A-100,Payer,USD,2025-03-01T00:00:00Z,2025-02-01T00:00:00Z,Usage,,Virtual CPU minutes,Usage-Based,2025-02-03T01:00:00Z,"
    ++ codes "2025-02-03T00:00:00Z,,,,,3600,CPU Seconds,0.09,0.0015,0.09,Sample Cloud Ltd,0.12,0.002,Standard,60,Minutes,Sample Cloud,"
    ++ codes "Sample Cloud,as-1,Asia 1,vm-1,Other,Sample Machines,cpu,cpu-min,acc-7,{}"

abbrev pub told_first : TextLines
told_first = codes "journaled packet 0" ∷ codes "delivered" ∷ codes "started ballot 1 packet 1" ∷ codes "delivered sent 2" ∷
    codes "delivered sent 3" ∷ codes "delivered sent 4" ∷ codes "delivered learned 0" ∷ codes "exported period 0 lines 4" ∷ []

abbrev pub told_between : TextLines
told_between = codes "journaled packet 5" ∷ codes "delivered" ∷ codes "started ballot 2 packet 6" ∷ codes "delivered sent 7" ∷
    codes "delivered sent 8" ∷ codes "delivered sent 9" ∷ codes "delivered learned 1" ∷ codes "exported period 1 lines 4" ∷ []

abbrev pub text_with : List ℕ → List ℕ
text_with row = lines_text (told_first ++ january ++ told_between ++ header_line ∷ of_january ++ row ∷ [])

old_transcript_read : transcript (replies_read old_sheet) ≡ text_with by_the_hour
unfolding days_from_civil day_count days_of_years days_of_months worth_of decimals_of digits
old_transcript_read = refl

new_transcript_read : transcript (replies_read new_sheet) ≡ text_with by_the_minute
unfolding days_from_civil day_count days_of_years days_of_months worth_of decimals_of digits
new_transcript_read = refl

pub transcript_under_the_old : transcript (run_under old_sheet).0 ≡ text_with by_the_hour
transcript_under_the_old = ap transcript old_replies ∙ old_transcript_read

pub transcript_under_the_new : transcript (run_under new_sheet).0 ≡ text_with by_the_minute
transcript_under_the_new =
    ap transcript (same_replies (opening 1 0 1 new_sheet issuer_1) two_months two_months_read two_months_are_read ∙ new_replies_read) ∙ new_transcript_read

-- ---- what the laws ask holds of both runs

abbrev pub january_export : Sheet → Snapshot
january_export sheet = record { period = 0; from = 0 ∷ []; to = 1 ∷ []; batches = read january_batch ∷ []; sheet = sheet; issuer = issuer_1 }

pub january_is_exported : Contains (run_under old_sheet).0 (Exported (january_export old_sheet))
january_is_exported =
    subst (λ (b : Batch). Contains (run_under old_sheet).0 (Exported (january_of b old_sheet))) (sym january_is_read)
    (subst (λ (rs : List Reply). Contains rs (Exported (january_of january_read old_sheet))) (sym old_replies)
    (contains_at (replies_read old_sheet) 7 (Exported (january_of january_read old_sheet)) refl))

pub all_are_priced : AreAllPriced (run_under old_sheet).0
all_are_priced = subst AreAllPriced (sym old_replies) (all_priced (replies_read old_sheet) refl)

pub all_stay_priced : AreAllPriced (run_under new_sheet).0
all_stay_priced = still_priced 1 0 1 old_sheet new_sheet issuer_1 two_months refl (prices_all february_1 old_sheet new_sheet it_is_longer) all_are_priced

pub january_is_over : period_end january_2025 0 ≤ℤ day_start february_1
unfolding days_from_civil day_count days_of_years days_of_months
january_is_over = grind (arith, ints)

pub regions_are_named_alike : NamesAllAlike old_sheet new_sheet (january_export old_sheet).batches
regions_are_named_alike = subst (λ (b : Batch). NamesAllAlike old_sheet new_sheet (b ∷ [])) (sym january_is_read) (named_alike old_sheet new_sheet (january_read ∷ []) refl)

-- so by the law the one export of January has the same file
the_file_stays : file_of (january_export new_sheet) ≡ file_of (january_export old_sheet)
the_file_stays =
    file_stays 1 0 1 old_sheet issuer_1 two_months (january_export old_sheet) january_is_exported new_sheet february_1
    (goes_on february_1 old_sheet new_sheet it_is_longer) january_is_over regions_are_named_alike

-- and whoever reads both transcripts sees one file of January
one_january : (one two : List ℕ) → Shows (transcript (run_under old_sheet).0) 0 one → Shows (transcript (run_under new_sheet).0) 0 two → one ≡ two
one_january =
    both_alike 1 0 1 old_sheet new_sheet issuer_1 two_months february_1 old_sheet_is_a_sheet new_sheet_is_a_sheet issuer_1_is_an_issuer
    (goes_on february_1 old_sheet new_sheet it_is_longer) all_are_priced all_stay_priced 0 january_is_over
    (alike_exports 1 0 1 old_sheet new_sheet issuer_1 two_months (january_export old_sheet) january_is_exported regions_are_named_alike)
