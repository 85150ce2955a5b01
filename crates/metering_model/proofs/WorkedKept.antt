-- Kept bytes at work: a node revived from its own text, refused an older one and one that is cut, and the faults of texts.
use Rattle.std.specs.Prelude.{◌≡◌, ℕ, [], ◌∷◌, ◌++◌, length, map, take, replicate, Option, Some, None, Result, Ok, Err, codes, refl}
use Rattle.std.specs.List.{range_with_len}
use Rattle.std.specs.Fmt.{digits}
use Rattle.jiff_core.specs.Calendar.{days_from_civil, day_count, days_of_years, days_of_months}
use Rattle.metering_model.specs.NumberText.{worth_of, decimals_of}
use Rattle.metering_model.specs.File.{header_line}
use Rattle.metering_model.specs.World.{KeptTextFault}
use Rattle.metering_model.specs.KeptText.{KeptAmong, KeptCode, BadHead, BadCut, NoBatch, NotInOrder, HasExtra, kept_in}
use Rattle.metering_model.specs.Transcript.{line}
use Rattle.metering_model.specs.Schedule.{TextLines, Schedule, PlansJournal, PlansDelivery, PlansStart, PlansExport, PlansKeep, PlansRevival, lines_text, schedule_text, transcript_of}
use Rattle.metering_model.proofs.Samples.{sheet_0, sheet_0_lines, issuer_1, issuer_1_lines, reading_1, row_1}

abbrev first_kept : TextLines
first_kept = codes "K1|1|1|0|1|0|1" ∷ codes "B1|1|1|1" ∷ reading_1 ∷ []

abbrev kept_with_a_vote : TextLines
kept_with_a_vote = codes "K1|1|2|0|2|2|1" ∷ codes "1" ∷ codes "B1|1|1|1" ∷ reading_1 ∷ []

abbrev kept_with_a_cut : TextLines
kept_with_a_cut = codes "K1|1|2|1|0|0|1" ∷ codes "1" ∷ codes "B1|1|1|1" ∷ reading_1 ∷ []

-- The node goes on from its own text. What it kept before is refused, and so is a text that is cut.
abbrev pub a_revived_node : Schedule
a_revived_node = record {
  voters = 1;
  observers = 0;
  agents = 1;
  sheet = sheet_0_lines;
  issuer = issuer_1_lines;
  events =
      PlansJournal (codes "B1|1|1|1" ∷ reading_1 ∷ []) ∷ PlansDelivery 0 0 ∷ PlansStart 0 ∷ PlansDelivery 1 0 ∷
      PlansKeep 0 ∷ PlansRevival 0 first_kept ∷ PlansDelivery 2 0 ∷ PlansStart 0 ∷ PlansDelivery 3 0 ∷
      PlansDelivery 4 0 ∷ PlansDelivery 5 0 ∷ PlansKeep 0 ∷ PlansDelivery 6 0 ∷ PlansKeep 0 ∷
      PlansRevival 0 first_kept ∷ PlansRevival 0 (codes "K1|1|1|0|1|0|1" ∷ codes "B1|1|1|1" ∷ []) ∷ PlansExport 0 0 ∷ [];
}

a_revived_node_text : schedule_text a_revived_node ≡
    lines_text (codes "SCHEDULE 1" ∷ codes "nodes 1" ∷ codes "agents 1" ∷ [])
    ++ line (codes "sheet 13") ++ lines_text sheet_0_lines ++ line (codes "issuer 7") ++ lines_text issuer_1_lines
    ++ lines_text (codes "journal 2" ∷ codes "B1|1|1|1" ∷ reading_1 ∷ codes "deliver 0 0" ∷ codes "start 0" ∷
    codes "deliver 1 0" ∷ codes "keep 0" ∷ codes "revive 0 3" ∷ first_kept)
    ++ lines_text (codes "deliver 2 0" ∷ codes "start 0" ∷ codes "deliver 3 0" ∷ codes "deliver 4 0" ∷
    codes "deliver 5 0" ∷ codes "keep 0" ∷ codes "deliver 6 0" ∷ codes "keep 0" ∷ codes "revive 0 3" ∷ first_kept)
    ++ lines_text (codes "revive 0 2" ∷ codes "K1|1|1|0|1|0|1" ∷ codes "B1|1|1|1" ∷ codes "export 0 0" ∷ [])
unfolding digits
a_revived_node_text = refl

a_revived_node_transcript : transcript_of sheet_0 issuer_1 a_revived_node ≡
    lines_text (codes "journaled packet 0" ∷ codes "delivered" ∷ codes "started ballot 1 packet 1" ∷
    codes "delivered sent 2" ∷ codes "kept lines 3" ∷ first_kept)
    ++ lines_text (codes "restarted" ∷ codes "delivered" ∷ codes "started ballot 2 packet 3" ∷ codes "delivered sent 4" ∷
    codes "delivered sent 5" ∷ codes "delivered sent 6" ∷ codes "kept lines 4" ∷ kept_with_a_vote)
    ++ lines_text (codes "delivered learned 0" ∷ codes "kept lines 4" ∷ kept_with_a_cut)
    ++ lines_text (codes "refused G15" ∷ codes "refused G14 H3 line 2" ∷ codes "exported period 0 lines 2" ∷
    header_line ∷ row_1 ∷ [])
unfolding days_from_civil day_count days_of_years days_of_months worth_of decimals_of digits
a_revived_node_transcript = refl

-- ---- the faults of texts

abbrev refused_at : KeptCode → ℕ → Result KeptAmong KeptTextFault
refused_at code line = Err (record { code = code; line = line })

no_text : kept_in [] ≡ refused_at BadHead 1
no_text = refl

a_head_without_its_line_feed : kept_in (codes "K1|1|0|0|0|0|0") ≡ refused_at BadHead 1
a_head_without_its_line_feed = refl

too_many_agents : kept_in (line (codes "K1|65|0|0|0|0|0")) ≡ refused_at BadHead 1
too_many_agents = refl

a_leading_zero : kept_in (line (codes "K1|1|00|0|0|0|0")) ≡ refused_at BadHead 1
a_leading_zero = refl

a_field_too_few : kept_in (line (codes "K1|1|0|0|0|0")) ≡ refused_at BadHead 1
a_field_too_few = refl

no_cut_of_a_learned_period : kept_in (lines_text (codes "K1|2|1|2|0|0|0" ∷ codes "1|0" ∷ [])) ≡ refused_at BadCut 3
no_cut_of_a_learned_period = refl

a_cut_of_one_agent_of_two : kept_in (lines_text (codes "K1|2|1|1|0|0|0" ∷ codes "1" ∷ [])) ≡ refused_at BadCut 2
a_cut_of_one_agent_of_two = refl

no_cut_of_the_vote : kept_in (lines_text (codes "K1|1|1|0|2|2|0" ∷ [])) ≡ refused_at BadCut 2
no_cut_of_the_vote = refl

a_sequence_too_high : kept_in (lines_text (codes "K1|1|1|1|0|0|0" ∷ codes "1000001" ∷ [])) ≡ refused_at BadCut 2
a_sequence_too_high = refl

no_batch : kept_in (lines_text (codes "K1|1|1|0|0|0|1" ∷ [])) ≡ refused_at NoBatch 2
no_batch = refl

a_batch_with_a_line_too_few : kept_in (lines_text (codes "K1|1|1|0|0|0|1" ∷ codes "B1|1|1|2" ∷ codes "X|1|0|1" ∷ [])) ≡ refused_at NoBatch 2
unfolding worth_of
a_batch_with_a_line_too_few = refl

a_batch_of_no_agent : kept_in (lines_text (codes "K1|1|1|0|0|0|1" ∷ codes "B1|2|1|0" ∷ [])) ≡ refused_at NotInOrder 2
a_batch_of_no_agent = refl

-- a batch is read before its place is looked at
a_bad_batch_of_no_agent : kept_in (lines_text (codes "K1|1|1|0|0|0|1" ∷ codes "B1|2|1|1" ∷ [])) ≡ refused_at NoBatch 2
a_bad_batch_of_no_agent = refl

the_same_batch_twice : kept_in (lines_text (codes "K1|1|1|0|0|0|2" ∷ codes "B1|1|1|0" ∷ codes "B1|1|1|0" ∷ [])) ≡ refused_at NotInOrder 3
the_same_batch_twice = refl

a_batch_before_the_one_above_it : kept_in (lines_text (codes "K1|2|1|0|0|0|2" ∷ codes "B1|2|1|0" ∷ codes "B1|1|7|0" ∷ [])) ≡ refused_at NotInOrder 3
a_batch_before_the_one_above_it = refl

a_batch_too_many : kept_in (lines_text (codes "K1|1|1|0|0|0|1" ∷ codes "B1|1|1|1" ∷ codes "X|1|0|1" ∷ codes "B1|1|2|0" ∷ [])) ≡ refused_at HasExtra 4
unfolding worth_of
a_batch_too_many = refl

a_byte_too_many : kept_in (line (codes "K1|1|0|0|0|0|0") ++ codes "x") ≡ refused_at HasExtra 2
a_byte_too_many = refl

-- ---- a text that is cut

abbrev fault_of : Result KeptAmong KeptTextFault → Option (KeptCode × ℕ)
fault_of (Ok k) = None
fault_of (Err fault) = Some (fault.code, fault.line)

abbrev fault_when_cut : ℕ → Option (KeptCode × ℕ)
fault_when_cut n = fault_of (kept_in (take n (lines_text kept_with_a_vote)))

abbrev told : KeptCode → ℕ → Option (KeptCode × ℕ)
told code line = Some (code, line)

-- 15 of its 100 bytes are the head line, 2 the line of the vote's cut, and the others the batch, which is missed on its first
-- line wherever it is cut.
it_has_100_bytes : length (lines_text kept_with_a_vote) ≡ 100
it_has_100_bytes = refl

cut_in_the_head_line : map fault_when_cut (range_with_len 0 15) ≡ replicate 15 (told BadHead 1)
cut_in_the_head_line = refl

cut_in_the_cut_of_the_vote : map fault_when_cut (range_with_len 15 2) ≡ replicate 2 (told BadCut 2)
cut_in_the_cut_of_the_vote = refl

cut_in_the_batch_from_17 : map fault_when_cut (range_with_len 17 11) ≡ replicate 11 (told NoBatch 3)
unfolding days_from_civil day_count days_of_years days_of_months worth_of decimals_of digits
cut_in_the_batch_from_17 = refl

cut_in_the_batch_from_28 : map fault_when_cut (range_with_len 28 11) ≡ replicate 11 (told NoBatch 3)
unfolding days_from_civil day_count days_of_years days_of_months worth_of decimals_of digits
cut_in_the_batch_from_28 = refl

cut_in_the_batch_from_39 : map fault_when_cut (range_with_len 39 11) ≡ replicate 11 (told NoBatch 3)
unfolding days_from_civil day_count days_of_years days_of_months worth_of decimals_of digits
cut_in_the_batch_from_39 = refl

cut_in_the_batch_from_50 : map fault_when_cut (range_with_len 50 10) ≡ replicate 10 (told NoBatch 3)
unfolding days_from_civil day_count days_of_years days_of_months worth_of decimals_of digits
cut_in_the_batch_from_50 = refl

cut_in_the_batch_from_60 : map fault_when_cut (range_with_len 60 10) ≡ replicate 10 (told NoBatch 3)
unfolding days_from_civil day_count days_of_years days_of_months worth_of decimals_of digits
cut_in_the_batch_from_60 = refl

cut_in_the_batch_from_70 : map fault_when_cut (range_with_len 70 10) ≡ replicate 10 (told NoBatch 3)
unfolding days_from_civil day_count days_of_years days_of_months worth_of decimals_of digits
cut_in_the_batch_from_70 = refl

cut_in_the_batch_from_80 : map fault_when_cut (range_with_len 80 10) ≡ replicate 10 (told NoBatch 3)
unfolding days_from_civil day_count days_of_years days_of_months worth_of decimals_of digits
cut_in_the_batch_from_80 = refl

cut_in_the_batch_from_90 : map fault_when_cut (range_with_len 90 10) ≡ replicate 10 (told NoBatch 3)
unfolding days_from_civil day_count days_of_years days_of_months worth_of decimals_of digits
cut_in_the_batch_from_90 = refl
