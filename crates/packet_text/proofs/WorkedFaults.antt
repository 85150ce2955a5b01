-- Texts that are no packet: one for each limit, and for each way in which a text may be of another shape.
use Rattle.std.specs.Prelude.{◌≡◌, [], ◌∷◌, ◌++◌, None, codes, refl}
use Rattle.metering_model.specs.NumberText.{worth_of}
use Rattle.metering_model.specs.Transcript.{line}
use Rattle.metering_model.specs.Schedule.{lines_text}
use Rattle.packet_text.specs.PacketText.{packet_in}

-- ---- limits

period_1200 : packet_in (line (codes "P1|g|prepare|1200|1")) ≡ None
period_1200 = refl

ballot_0 : packet_in (line (codes "P1|g|prepare|0|0")) ≡ None
ballot_0 = refl

a_ballot_too_high : packet_in (line (codes "P1|g|prepare|0|990099")) ≡ None
a_ballot_too_high = refl

a_ballot_too_high_in_a_vote : packet_in (line (codes "P1|g|promise|0|0|1|990099|0")) ≡ None
a_ballot_too_high_in_a_vote = refl

node_99 : packet_in (line (codes "P1|g|promise|99|0|1|0")) ≡ None
node_99 = refl

node_99_accepted : packet_in (line (codes "P1|g|accepted|99|0|1|0")) ≡ None
node_99_accepted = refl

a_sequence_too_high : packet_in (line (codes "P1|g|decided|0|1000001")) ≡ None
a_sequence_too_high = refl

a_cut_of_65_agents : packet_in (line (codes "P1|g|decided|0|0|0|0|0|0|0|0|0|0|0|0|0|0|0|0|0|0|0|0|0|0|0|0|0|0|0|0|0|0|0|0|0|0|0|0|0|0|0|0|0|0|0|0|0|0|0|0|0|0|0|0|0|0|0|0|0|0|0|0|0|0|0|0|0|0")) ≡ None
a_cut_of_65_agents = refl

a_name_of_33_bytes : packet_in (line (codes "P1|abcdefghijklmnopqrstuvwxyzABCDEFG|prepare|0|1")) ≡ None
a_name_of_33_bytes = refl

no_name : packet_in (line (codes "P1||prepare|0|1")) ≡ None
no_name = refl

-- ---- shapes

an_underscore_in_the_name : packet_in (line (codes "P1|prod_eu|prepare|0|1")) ≡ None
an_underscore_in_the_name = refl

another_format : packet_in (line (codes "P2|g|prepare|0|1")) ≡ None
another_format = refl

another_word : packet_in (line (codes "P1|g|Prepare|0|1")) ≡ None
another_word = refl

a_leading_zero : packet_in (line (codes "P1|g|prepare|00|1")) ≡ None
a_leading_zero = refl

a_leading_zero_in_no_vote : packet_in (line (codes "P1|g|promise|0|0|1|00")) ≡ None
a_leading_zero_in_no_vote = refl

a_sign : packet_in (line (codes "P1|g|prepare|+0|1")) ≡ None
a_sign = refl

a_blank : packet_in (line (codes "P1|g|prepare| 0|1")) ≡ None
a_blank = refl

a_field_too_few : packet_in (line (codes "P1|g|prepare|0")) ≡ None
a_field_too_few = refl

a_field_too_many : packet_in (line (codes "P1|g|prepare|0|1|1")) ≡ None
a_field_too_many = refl

an_empty_field_behind : packet_in (line (codes "P1|g|prepare|0|1|")) ≡ None
an_empty_field_behind = refl

no_numbers : packet_in (line (codes "P1|g|prepare")) ≡ None
no_numbers = refl

no_vote_field : packet_in (line (codes "P1|g|promise|0|0|1")) ≡ None
no_vote_field = refl

a_cut_without_a_vote : packet_in (line (codes "P1|g|promise|0|0|1|0|0")) ≡ None
a_cut_without_a_vote = refl

a_vote_without_a_cut : packet_in (line (codes "P1|g|promise|0|0|1|1")) ≡ None
a_vote_without_a_cut = refl

an_accept_without_a_cut : packet_in (line (codes "P1|g|accept|0|1")) ≡ None
an_accept_without_a_cut = refl

an_accepted_without_a_cut : packet_in (line (codes "P1|g|accepted|0|0|1")) ≡ None
an_accepted_without_a_cut = refl

a_decided_without_a_cut : packet_in (line (codes "P1|g|decided|0")) ≡ None
a_decided_without_a_cut = refl

a_cut_of_an_empty_entry : packet_in (line (codes "P1|g|decided|0|")) ≡ None
a_cut_of_an_empty_entry = refl

no_bytes : packet_in [] ≡ None
no_bytes = refl

an_empty_line : packet_in (line []) ≡ None
an_empty_line = refl

no_line_feed : packet_in (codes "P1|g|prepare|0|1") ≡ None
no_line_feed = refl

bytes_behind_the_line : packet_in (line (codes "P1|g|prepare|0|1") ++ codes "x") ≡ None
bytes_behind_the_line = refl

a_second_line_feed : packet_in (line (line (codes "P1|g|prepare|0|1"))) ≡ None
a_second_line_feed = refl

a_carriage_return : packet_in (codes "P1|g|prepare|0|1" ++ 13 ∷ 10 ∷ []) ≡ None
a_carriage_return = refl

two_packets : packet_in (lines_text (codes "P1|g|prepare|0|1" ∷ codes "P1|g|prepare|0|1" ∷ [])) ≡ None
two_packets = refl

-- ---- batches

a_line_too_few_said : packet_in (lines_text (codes "P1|g|batch|1" ∷ codes "B1|1|2|1" ∷ codes "X|1|0|1" ∷ [])) ≡ None
unfolding worth_of
a_line_too_few_said = refl

a_line_too_many_said : packet_in (lines_text (codes "P1|g|batch|3" ∷ codes "B1|1|2|1" ∷ codes "X|1|0|1" ∷ [])) ≡ None
unfolding worth_of
a_line_too_many_said = refl

no_lines_said : packet_in (lines_text (codes "P1|g|batch|0" ∷ codes "B1|1|2|0" ∷ [])) ≡ None
no_lines_said = refl

more_lines_said_than_a_batch_has : packet_in (lines_text (codes "P1|g|batch|1002" ∷ codes "B1|1|2|0" ∷ [])) ≡ None
more_lines_said_than_a_batch_has = refl

a_field_behind_the_lines : packet_in (lines_text (codes "P1|g|batch|1|0" ∷ codes "B1|1|2|0" ∷ [])) ≡ None
a_field_behind_the_lines = refl

a_record_too_few : packet_in (lines_text (codes "P1|g|batch|2" ∷ codes "B1|1|2|1" ∷ [])) ≡ None
a_record_too_few = refl

a_line_behind_the_batch : packet_in (lines_text (codes "P1|g|batch|1" ∷ codes "B1|1|2|0" ∷ codes "X|1|0|1" ∷ [])) ≡ None
a_line_behind_the_batch = refl

bytes_behind_the_batch : packet_in (lines_text (codes "P1|g|batch|1" ∷ codes "B1|1|2|0" ∷ []) ++ codes "x") ≡ None
bytes_behind_the_batch = refl

a_batch_without_its_last_line_feed : packet_in (line (codes "P1|g|batch|1") ++ codes "B1|1|2|0") ≡ None
a_batch_without_its_last_line_feed = refl

no_batch : packet_in (line (codes "P1|g|batch|1")) ≡ None
no_batch = refl

a_batch_of_agent_65 : packet_in (lines_text (codes "P1|g|batch|1" ∷ codes "B1|65|2|0" ∷ [])) ≡ None
a_batch_of_agent_65 = refl
