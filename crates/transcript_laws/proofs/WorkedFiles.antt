-- Files cut out of texts, computed.
use Rattle.std.proofs.Common.{ℕ, List, [], ◌∷◌, ◌++◌, refl}
use Rattle.std.specs.Prelude.{◌≡◌, codes}
use Rattle.std.specs.Fmt.{digits}
use Rattle.metering_model.specs.Schedule.{TextLines, lines_text}
use Rattle.transcript_laws.specs.FirstFiles.{NoFile, TornFile, WholeFile, first_file}

-- a transcript that shows January's file twice, and then February's, whose last line is torn off
abbrev above : List ℕ → List ℕ
above file = codes "exported period " ++ file

abbrev torn_text : List ℕ
torn_text =
    lines_text (codes "delivered learned 0" ∷ above (codes "0 lines 1") ∷ codes "BilledCost" ∷ above (codes "0 lines 1") ∷ codes "Other" ∷
    above (codes "1 lines 2") ∷ codes "BilledCost" ∷ []) ++ codes "0.0"

the_first_is_cut_out : first_file 0 torn_text ≡ WholeFile (codes "BilledCost" ++ 10 ∷ [])
unfolding digits
the_first_is_cut_out = refl

a_line_is_missing : first_file 1 torn_text ≡ TornFile (codes "BilledCost" ++ 10 ∷ [])
unfolding digits
a_line_is_missing = refl

no_file_of_march : first_file 2 torn_text ≡ NoFile
unfolding digits
no_file_of_march = refl

-- ---- junk that looks like such a line is passed over: a leading zero, a blank, a sign, another period, no number
abbrev junk : TextLines
junk =
    above (codes "0 lines 01") ∷ above (codes "0 lines 1 ") ∷ above (codes "0 lines +1") ∷ above (codes "00 lines 1") ∷ above (codes "10 lines 1") ∷
    above (codes "0 lines ") ∷ codes " exported period 0 lines 1" ∷ codes "Exported period 0 lines 1" ∷ (above (codes "0 lines 1") ++ 13 ∷ []) ∷ []

junk_is_passed_over : first_file 0 (lines_text (junk ++ above (codes "0 lines 0") ∷ [])) ≡ WholeFile []
unfolding digits
junk_is_passed_over = refl

-- more lines than any number of 64 bits tells
a_great_number_is_torn : first_file 0 (lines_text (above (codes "0 lines 18446744073709551616") ∷ codes "BilledCost" ∷ [])) ≡ TornFile (codes "BilledCost" ++ 10 ∷ [])
unfolding digits
a_great_number_is_torn = refl

-- a line that lacks its line feed is none
unfinished : first_file 0 (above (codes "0 lines 0")) ≡ NoFile
unfolding digits
unfinished = refl
