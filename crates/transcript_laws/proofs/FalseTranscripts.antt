-- Texts of which the headline's statements are false: so these statements refuse something, and the law's premises are needed.
use Rattle.std.proofs.Common.{◌≡◌, ℕ, zero, suc, List, [], ◌∷◌, ◌++◌, length, map, take, drop, refl, sym, ap, subst, ◌∙◌, arith, Some, None, codes, pos, append-nil}
use Rattle.std.specs.Prelude.{slice_get}
use Rattle.std.specs.Fmt.{digits}
use Rattle.std.specs.List.{Contains}
use Rattle.std.proofs.lemmas.Int.{ints}
use Rattle.std.proofs.lemmas.Option.{same_Some, none-some}
use Rattle.jiff_core.specs.Calendar.{days_from_civil, day_count, days_of_years, days_of_months}
use Rattle.metering_model.specs.NumberText.{worth_of, decimals_of}
use Rattle.metering_model.specs.Batch.{Reads, Amends}
use Rattle.metering_model.specs.declared.Kind.TheVariants.{Usage}
use Rattle.metering_model.specs.declared.Version.TheVariants.{B1}
use Rattle.metering_model.specs.Cut.{Cut}
use Rattle.metering_model.specs.Sheet.{Sheet, Issuer}
use Rattle.metering_model.specs.Holding.{Holding}
use Rattle.metering_model.specs.Rows.{rows}
use Rattle.metering_model.specs.File.{header_line, file}
use Rattle.metering_model.specs.Totals.{sum_of}
use Rattle.metering_model.specs.World.{Event, Journal, Deliver, Start, Export, Snapshot, Reply, Exported, KeptText, offer_of, last_cut, opening}
use Rattle.metering_model.specs.Step.{cut_before, play}
use Rattle.metering_model.specs.Transcript.{file_of, transcript}
use Rattle.metering_model.specs.Schedule.{TextLines, lines_text, event_of}
use Rattle.metering_model.proofs.Samples.{cpu, sheet_1, issuer_1, reading_1, row_1}
use Rattle.metering_model.proofs.WorkedPeriods.{correction}
use Rattle.metering_model.proofs.WorkedSheets.{sheet_1_is_a_sheet, issuer_1_is_an_issuer}
use Rattle.group_laws.proofs.Agreed.{element_of}
use Rattle.row_laws.specs.Charged.{charges_up_to}
use Rattle.row_laws.specs.Columns.{sum_of_first_column}
use Rattle.transcript_laws.specs.Csv.{new_lines}
use Rattle.transcript_laws.specs.Shown.{Shows, HoldsOfBytes}
use Rattle.transcript_laws.specs.FirstFiles.{WholeFile, first_file}
use Rattle.transcript_laws.proofs.CutOut.{cut_out_whole}

-- ---- the statements by themselves, of a text, a holding and cuts that may be made up

abbrev Agree : List ℕ → Type 0
Agree text = (period : ℕ) (one two : List ℕ) → Shows text period one → Shows text period two → one ≡ two

abbrev AreFiles : List ℕ → Holding → List Cut → Type 0
AreFiles text journals cuts = (period : ℕ) (shown : List ℕ) → Shows text period shown →
    (to : Cut) × (slice_get cuts period ≡ Some to) × (shown ≡ file (rows sheet_1 issuer_1 journals period (cut_before 1 cuts period) to))

abbrev AddUp : List ℕ → Holding → List Cut → Type 0
AddUp text journals cuts = (shown : List (List ℕ)) → ((period : ℕ) (one : List ℕ) → slice_get shown period ≡ Some one → Shows text period one) →
    sum_of_first_column shown ≡ Some (sum_of (λ x. x.billed) (charges_up_to sheet_1 journals (last_cut 1 (take (length shown) cuts))))

abbrev AreNewOnce : List ℕ → Holding → List Cut → Type 0
AreNewOnce text journals cuts = (shown : List (List ℕ)) → ((period : ℕ) (one : List ℕ) → slice_get shown period ≡ Some one → Shows text period one) →
    length (new_lines shown) ≡ length (charges_up_to sheet_1 journals (last_cut 1 (take (length shown) cuts)))

abbrev AreExported : List ℕ → List Reply → Type 0
AreExported text replies = (period : ℕ) (shown : List ℕ) → Shows text period shown → (s : Snapshot) × Contains replies (Exported s) × (s.period ≡ period) × (shown ≡ file_of s)

-- they are those of the headline
are_of_the_headline : (events : List Event) (text : List ℕ) (h : HoldsOfBytes 1 0 1 sheet_1 issuer_1 events text) →
    Agree text × AreFiles text h.world.journals h.cuts × AddUp text h.world.journals h.cuts × AreNewOnce text h.world.journals h.cuts × AreExported text h.replies
are_of_the_headline events text h = (h.agree, h.files, h.adds_up, h.new_once, h.only)

-- a text is not empty
some_bytes : (c : ℕ) (cs : List ℕ) → c ∷ cs ≡ [] → ⊥
some_bytes c cs e = none-some c (ap (λ t. slice_get t 0) (sym e))

-- ---- a file whose lines begin with words, and not with what they bill

-- the second file stands within the first
abbrev words_in_front : TextLines
words_in_front = header_line ∷ codes "exported period 0 lines 0" ∷ []

abbrev a_line_like_the_one_above : List ℕ
a_line_like_the_one_above = lines_text (codes "exported period 0 lines 2" ∷ words_in_front)

words_in_front_do_not_agree : Agree a_line_like_the_one_above → ⊥
unfolding digits
words_in_front_do_not_agree agree = some_bytes _ _ (agree 0 (lines_text words_in_front) [] both.0 both.1)
  where
    both : Shows a_line_like_the_one_above 0 (lines_text words_in_front) × Shows a_line_like_the_one_above 0 []
    both = (
      record { before = []; lines = words_in_front; after = []; whole = refl; is_text = refl; is_shown = refl },
      record { before = codes "exported period 0 lines 2" ∷ header_line ∷ []; lines = []; after = []; whole = refl; is_text = refl; is_shown = refl },
    )

-- ---- a kept text of which a line begins with words

-- it would be shown as a file of January, though nothing was exported
abbrev words_kept : List Reply
words_kept = KeptText (lines_text (codes "exported period 0 lines 0" ∷ [])) ∷ []

words_kept_are_no_file : AreExported (transcript words_kept) words_kept → ⊥
unfolding digits
words_kept_are_no_file only =
    let it = only 0 [] shown in
    let at = element_of words_kept (Exported it.0) it.1 in
    at_place at.0 it.0 at.1
  where
    shown : Shows (transcript words_kept) 0 []
    shown = record { before = codes "kept lines 1" ∷ []; lines = []; after = []; whole = refl; is_text = refl; is_shown = refl }

    at_place : (k : ℕ) (s : Snapshot) → slice_get words_kept k ≡ Some (Exported s) → ⊥
    at_place zero s e = let same = same_Some _ _ e in cc
    at_place (suc k) s e = none-some _ e

-- ---- a line feed in a text of the issuer, or of the sheet

-- it ends a line of the file, and the next one reads as whoever wrote that text likes
abbrev with_a_line : List ℕ
with_a_line = lines_text (codes "Cloud" ∷ codes "exported period 0 lines 0" ∷ [])

abbrev broken_issuer : Issuer
broken_issuer = record issuer_1 { provider = with_a_line }

abbrev broken_sheet : Sheet
broken_sheet = record sheet_1 { prices = record cpu { description = with_a_line } ∷ [] }

abbrev one_export : List Event
one_export =
    Journal (offer_of (lines_text (codes "B1|1|1|1" ∷ reading_1 ∷ []))) ∷ Deliver 0 0 ∷ Start 0 ∷ Deliver 1 0 ∷ Deliver 2 0 ∷
    Deliver 3 0 ∷ Deliver 4 0 ∷ Export 0 0 ∷ []

abbrev text_of : Sheet → Issuer → List ℕ
text_of sheet issuer = transcript (play (opening 1 0 1 sheet issuer) one_export).0

abbrev told : TextLines
told = codes "journaled packet 0" ∷ codes "delivered" ∷ codes "started ballot 1 packet 1" ∷ codes "delivered sent 2" ∷
    codes "delivered sent 3" ∷ codes "delivered sent 4" ∷ codes "delivered learned 0" ∷ []

-- a row in two halves, with that line between them
abbrev broken_file : List ℕ → List ℕ → TextLines
broken_file front back = header_line ∷ front ∷ codes "exported period 0 lines 0" ∷ back ∷ []

abbrev broken_at_the_issuer : TextLines
broken_at_the_issuer = broken_file
    (codes "0.12,A-100,Payer,USD,2025-02-01T00:00:00Z,2025-01-01T00:00:00Z,Usage,,Virtual CPU time,Usage-Based,2025-01-10T02:00:00Z,2025-01-10T00:00:00Z,,,,,5400,Seconds,0.12,0.08,0.12,Sample Cloud Ltd,0.15,0.1,Standard,1.5,Hours,\"Cloud")
    (codes "\",Sample Cloud,,,vm-1,Compute,Sample Compute,cpu,cpu-od,acc-7,\"{\"\"env\"\":\"\"prod\"\"}\"")

abbrev broken_at_the_sheet : TextLines
broken_at_the_sheet = broken_file
    (codes "0.12,A-100,Payer,USD,2025-02-01T00:00:00Z,2025-01-01T00:00:00Z,Usage,,\"Cloud")
    (codes "\",Usage-Based,2025-01-10T02:00:00Z,2025-01-10T00:00:00Z,,,,,5400,Seconds,0.12,0.08,0.12,Sample Cloud Ltd,0.15,0.1,Standard,1.5,Hours,Sample Cloud,Sample Cloud,,,vm-1,Compute,Sample Compute,cpu,cpu-od,acc-7,\"{\"\"env\"\":\"\"prod\"\"}\"")

text_broken_at_the_issuer : text_of sheet_1 broken_issuer ≡ lines_text (told ++ codes "exported period 0 lines 4" ∷ broken_at_the_issuer)
unfolding days_from_civil day_count days_of_years days_of_months worth_of decimals_of digits
text_broken_at_the_issuer = refl

the_issuer_breaks_the_headline : HoldsOfBytes 1 0 1 sheet_1 broken_issuer one_export (text_of sheet_1 broken_issuer) → ⊥
unfolding digits
the_issuer_breaks_the_headline h = some_bytes _ _ (h.agree 0 (lines_text broken_at_the_issuer) [] whole nothing)
  where
    whole : Shows (text_of sheet_1 broken_issuer) 0 (lines_text broken_at_the_issuer)
    whole = record { before = told; lines = broken_at_the_issuer; after = []; whole = refl; is_text = text_broken_at_the_issuer; is_shown = refl }

    nothing : Shows (text_of sheet_1 broken_issuer) 0 []
    nothing = record { before = told ++ codes "exported period 0 lines 4" ∷ take 2 broken_at_the_issuer; lines = []; after = drop 3 broken_at_the_issuer; whole = refl; is_text = text_broken_at_the_issuer; is_shown = refl }

text_broken_at_the_sheet : text_of broken_sheet issuer_1 ≡ lines_text (told ++ codes "exported period 0 lines 4" ∷ broken_at_the_sheet)
unfolding days_from_civil day_count days_of_years days_of_months worth_of decimals_of digits
text_broken_at_the_sheet = refl

the_sheet_breaks_the_headline : HoldsOfBytes 1 0 1 broken_sheet issuer_1 one_export (text_of broken_sheet issuer_1) → ⊥
unfolding digits
the_sheet_breaks_the_headline h = some_bytes _ _ (h.agree 0 (lines_text broken_at_the_sheet) [] whole nothing)
  where
    whole : Shows (text_of broken_sheet issuer_1) 0 (lines_text broken_at_the_sheet)
    whole = record { before = told; lines = broken_at_the_sheet; after = []; whole = refl; is_text = text_broken_at_the_sheet; is_shown = refl }

    nothing : Shows (text_of broken_sheet issuer_1) 0 []
    nothing = record { before = told ++ codes "exported period 0 lines 4" ∷ take 2 broken_at_the_sheet; lines = []; after = drop 3 broken_at_the_sheet; whole = refl; is_text = text_broken_at_the_sheet; is_shown = refl }

-- ---- a file of another period, of no period, or of nobody

-- the journals and the cuts of the worked transcript, whose second file corrects the first
abbrev corrected_journals : Holding
corrected_journals = (play (opening 1 0 1 sheet_1 issuer_1) (map event_of correction.events)).1.journals

-- They are computed once, here, and each statement of them is proved of them as they are written.
abbrev some_journals : Holding
some_journals =
    record {
      version = B1;
      agent = 1;
      seq = 1;
      records = Reads (record {
        kind = Usage;
        start = pos 1_736_467_200;
        end = pos 1_736_474_400;
        start_text = codes "2025-01-10T00:00:00Z";
        end_text = codes "2025-01-10T02:00:00Z";
        account = codes "acc-7";
        resource = codes "vm-1";
        key = codes "cpu";
        value = pos 5_400_000_000;
        commitment = [];
        tags = record { key = codes "env"; value = codes "prod" } ∷ [];
        region = None;
      }) ∷ [];
    }
    ∷ record { version = B1; agent = 1; seq = 2; records = Amends 1 0 (pos 7_200_000_000) ∷ [] } ∷ []

are_some_journals : corrected_journals ≡ some_journals
unfolding days_from_civil day_count days_of_years days_of_months worth_of decimals_of digits
are_some_journals = refl

of_corrected_journals : (Says : Holding → Type 0) → (Says some_journals → ⊥) → Says corrected_journals → ⊥
of_corrected_journals Says refuted says = refuted (subst Says are_some_journals says)

abbrev two_cuts : List Cut
two_cuts = (1 ∷ []) ∷ (2 ∷ []) ∷ []

abbrev two_files : TextLines → TextLines → List ℕ
two_files one two = lines_text (codes "exported period 0 lines 2" ∷ one ++ codes "exported period 1 lines 2" ∷ two)

abbrev january : TextLines
january = header_line ∷ row_1 ∷ []

-- January's file stands under February too
januarys_file_is_not_februarys_of_some : AreFiles (two_files january january) some_journals two_cuts → ⊥
unfolding days_from_civil day_count days_of_years days_of_months worth_of decimals_of digits
januarys_file_is_not_februarys_of_some files =
    let it = files 1 (lines_text january) shown in
    let same = it.2 ∙ ap (λ to. file (rows sheet_1 issuer_1 some_journals 1 (1 ∷ []) to)) (sym (same_Some (2 ∷ []) it.0 it.1)) in
    let billed : pos 120_000_000_000 ≡ pos 40_000_000_000 = same_Some _ _ (ap (λ t. sum_of_first_column (t ∷ [])) same) in
    omega (arith, ints)
  where
    shown : Shows (two_files january january) 1 (lines_text january)
    shown = record { before = codes "exported period 0 lines 2" ∷ january; lines = january; after = []; whole = refl; is_text = refl; is_shown = refl }

januarys_file_is_not_februarys : AreFiles (two_files january january) corrected_journals two_cuts → ⊥
januarys_file_is_not_februarys = of_corrected_journals (λ journals. AreFiles (two_files january january) journals two_cuts) januarys_file_is_not_februarys_of_some

-- a file is shown, and no majority has chosen a cut
abbrev one_file : List ℕ
one_file = lines_text (codes "exported period 0 lines 2" ∷ january)

one_file_is_shown : Shows one_file 0 (lines_text january)
unfolding digits
one_file_is_shown = record { before = []; lines = january; after = []; whole = refl; is_text = refl; is_shown = refl }

no_file_without_a_cut : AreFiles one_file corrected_journals [] → ⊥
no_file_without_a_cut files = let it = files 0 (lines_text january) one_file_is_shown in none-some it.0 it.1

-- a file is shown, and no export was answered
no_file_without_an_export : AreExported one_file [] → ⊥
no_file_without_an_export exported = let it = exported 0 (lines_text january) one_file_is_shown in let within = it.1.1 in omega (arith, within)

-- ---- what is cut out of such texts

abbrev IsCutOut : List ℕ → Holding → List Cut → Type 0
IsCutOut text journals cuts = (front rest : List ℕ) → text ≡ front ++ rest → (period : ℕ) (shown : List ℕ) → first_file period front ≡ WholeFile shown →
    (to : Cut) × (slice_get cuts period ≡ Some to) × (shown ≡ file (rows sheet_1 issuer_1 journals period (cut_before 1 cuts period) to))

-- of the headline's texts it is so
is_cut_out_of_the_headline : (events : List Event) (text : List ℕ) (h : HoldsOfBytes 1 0 1 sheet_1 issuer_1 events text) → IsCutOut text h.world.journals h.cuts
is_cut_out_of_the_headline events text h front rest e period shown first =
    (cut_out_whole 1 0 1 sheet_1 issuer_1 events text sheet_1_is_a_sheet issuer_1_is_an_issuer h front rest e period shown first).1

nothing_behind : (text : List ℕ) → text ≡ text ++ []
nothing_behind text = sym (append-nil text)

januarys_file_is_cut_out : first_file 1 (two_files january january) ≡ WholeFile (lines_text january)
unfolding digits
januarys_file_is_cut_out = refl

januarys_file_is_no_cut_of_februarys_of_some : IsCutOut (two_files january january) some_journals two_cuts → ⊥
unfolding days_from_civil day_count days_of_years days_of_months worth_of decimals_of digits
januarys_file_is_no_cut_of_februarys_of_some files =
    let it = files (two_files january january) [] (nothing_behind (two_files january january)) 1 (lines_text january) januarys_file_is_cut_out in
    let same = it.2 ∙ ap (λ to. file (rows sheet_1 issuer_1 some_journals 1 (1 ∷ []) to)) (sym (same_Some (2 ∷ []) it.0 it.1)) in
    let billed : pos 120_000_000_000 ≡ pos 40_000_000_000 = same_Some _ _ (ap (λ t. sum_of_first_column (t ∷ [])) same) in
    omega (arith, ints)

januarys_file_is_no_cut_of_februarys : IsCutOut (two_files january january) corrected_journals two_cuts → ⊥
januarys_file_is_no_cut_of_februarys = of_corrected_journals (λ journals. IsCutOut (two_files january january) journals two_cuts) januarys_file_is_no_cut_of_februarys_of_some

-- the line above says one line too few: the header line alone is cut out
abbrev too_few : List ℕ
too_few = lines_text (codes "exported period 0 lines 1" ∷ january)

the_header_line_is_cut_out : first_file 0 too_few ≡ WholeFile (lines_text (header_line ∷ []))
unfolding digits
the_header_line_is_cut_out = refl

one_line_too_few_of_some : IsCutOut too_few some_journals two_cuts → ⊥
unfolding days_from_civil day_count days_of_years days_of_months worth_of decimals_of digits
one_line_too_few_of_some files =
    let it = files too_few [] (nothing_behind too_few) 0 (lines_text (header_line ∷ [])) the_header_line_is_cut_out in
    let same = it.2 ∙ ap (λ to. file (rows sheet_1 issuer_1 some_journals 0 (0 ∷ []) to)) (sym (same_Some (1 ∷ []) it.0 it.1)) in
    let billed : pos 0 ≡ pos 120_000_000_000 = same_Some _ _ (ap (λ t. sum_of_first_column (t ∷ [])) same) in
    omega (arith, ints)

one_line_too_few : IsCutOut too_few corrected_journals two_cuts → ⊥
one_line_too_few = of_corrected_journals (λ journals. IsCutOut too_few journals two_cuts) one_line_too_few_of_some

-- ---- a correction that charges the whole again, and one that does not say that it is one

module _ (later : TextLines) where
  both_are_shown : Shows (two_files january later) 0 (lines_text january) → Shows (two_files january later) 1 (lines_text later) →
      (period : ℕ) (one : List ℕ) → slice_get (lines_text january ∷ lines_text later ∷ []) period ≡ Some one → Shows (two_files january later) period one
  both_are_shown first second zero one e = subst (Shows (two_files january later) 0) (same_Some (lines_text january) one e) first
  both_are_shown first second (suc zero) one e = subst (Shows (two_files january later) 1) (same_Some (lines_text later) one e) second
  both_are_shown first second (suc (suc period)) one e = absurd (none-some one e)

abbrev again : TextLines
again = header_line ∷ (codes "0.16,A-100,Payer,USD,2025-03-01T00:00:00Z,2025-02-01T00:00:00Z,Usage,Correction,Virtual CPU time,Usage-Based,"
    ++ codes "2025-01-10T02:00:00Z,2025-01-10T00:00:00Z,,,,,7200,Seconds,0.16,0.08,0.16,Sample Cloud Ltd,0.2,0.1,Standard,2,Hours,"
    ++ codes "Sample Cloud,Sample Cloud,,,vm-1,Compute,Sample Compute,cpu,cpu-od,acc-7,\"{\"\"env\"\":\"\"prod\"\"}\"") ∷ []

-- 0.12 and 0.16 are shown, where two hours are 0.16
charging_again_does_not_add_up_of_some : AddUp (two_files january again) some_journals two_cuts → ⊥
unfolding days_from_civil day_count days_of_years days_of_months worth_of decimals_of digits
charging_again_does_not_add_up_of_some adds_up =
    let billed : pos 280_000_000_000 ≡ pos 160_000_000_000 = same_Some _ _ (adds_up (lines_text january ∷ lines_text again ∷ []) (both_are_shown again first second)) in
    omega (arith, ints)
  where
    first : Shows (two_files january again) 0 (lines_text january)
    first = record { before = []; lines = january; after = codes "exported period 1 lines 2" ∷ again; whole = refl; is_text = refl; is_shown = refl }

    second : Shows (two_files january again) 1 (lines_text again)
    second = record { before = codes "exported period 0 lines 2" ∷ january; lines = again; after = []; whole = refl; is_text = refl; is_shown = refl }

charging_again_does_not_add_up : AddUp (two_files january again) corrected_journals two_cuts → ⊥
charging_again_does_not_add_up = of_corrected_journals (λ journals. AddUp (two_files january again) journals two_cuts) charging_again_does_not_add_up_of_some

abbrev unsaid : TextLines
unsaid = header_line ∷ (codes "0.04,A-100,Payer,USD,2025-03-01T00:00:00Z,2025-02-01T00:00:00Z,Usage,,Virtual CPU time,Usage-Based,2025-01-10T02:00:00Z,"
    ++ codes "2025-01-10T00:00:00Z,,,,,1800,Seconds,0.04,0.08,0.04,Sample Cloud Ltd,0.05,0.1,Standard,0.5,Hours,Sample Cloud,Sample Cloud,,"
    ++ codes ",vm-1,Compute,Sample Compute,cpu,cpu-od,acc-7,\"{\"\"env\"\":\"\"prod\"\"}\"") ∷ []

-- two lines are new, of one reading
an_unsaid_correction_is_new_twice_of_some : AreNewOnce (two_files january unsaid) some_journals two_cuts → ⊥
unfolding days_from_civil day_count days_of_years days_of_months worth_of decimals_of digits
an_unsaid_correction_is_new_twice_of_some new_once =
    let counts : 2 ≡ 1 = new_once (lines_text january ∷ lines_text unsaid ∷ []) (both_are_shown unsaid first second) in
    omega (arith, counts)
  where
    first : Shows (two_files january unsaid) 0 (lines_text january)
    first = record { before = []; lines = january; after = codes "exported period 1 lines 2" ∷ unsaid; whole = refl; is_text = refl; is_shown = refl }

    second : Shows (two_files january unsaid) 1 (lines_text unsaid)
    second = record { before = codes "exported period 0 lines 2" ∷ january; lines = unsaid; after = []; whole = refl; is_text = refl; is_shown = refl }

an_unsaid_correction_is_new_twice : AreNewOnce (two_files january unsaid) corrected_journals two_cuts → ⊥
an_unsaid_correction_is_new_twice = of_corrected_journals (λ journals. AreNewOnce (two_files january unsaid) journals two_cuts) an_unsaid_correction_is_new_twice_of_some
