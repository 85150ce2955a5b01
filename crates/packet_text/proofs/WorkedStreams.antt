-- Texts with more than one packet: the first of them, and what stands behind it.
use Rattle.std.specs.Prelude.{◌≡◌, ℕ, List, [], ◌∷◌, ◌++◌, Option, Some, None, pos, codes, refl}
use Rattle.metering_model.specs.declared.Version.TheVariants.{B1}
use Rattle.metering_model.specs.Batch.{Amends}
use Rattle.metering_model.specs.NumberText.{worth_of}
use Rattle.metering_model.specs.World.{Packet, CarriesBatch, Prepare, Decided}
use Rattle.metering_model.specs.Transcript.{line}
use Rattle.metering_model.specs.Schedule.{lines_text}
use Rattle.packet_text.specs.PacketText.{GroupPacket, first_packet_in}

abbrev read_before : Packet → List ℕ → Option (GroupPacket × List ℕ)
read_before p rest = Some (record { group = codes "g"; packet = p }, rest)

abbrev a_batch : Packet
a_batch = CarriesBatch (record { version = B1; agent = 1; seq = 2; records = Amends 1 0 (pos 1500000) ∷ [] })

two_packets : first_packet_in (lines_text (codes "P1|g|decided|7|3|0" ∷ codes "P1|h|prepare|0|1" ∷ [])) ≡ read_before (Decided 7 (3 ∷ 0 ∷ [])) (line (codes "P1|h|prepare|0|1"))
two_packets = refl

a_packet_alone : first_packet_in (line (codes "P1|g|prepare|0|1")) ≡ read_before (Prepare 0 1) []
a_packet_alone = refl

a_prepare_behind_a_batch : first_packet_in (lines_text (codes "P1|g|batch|2" ∷ codes "B1|1|2|1" ∷ codes "X|1|0|1.5" ∷ codes "P1|g|prepare|0|1" ∷ [])) ≡ read_before a_batch (line (codes "P1|g|prepare|0|1"))
unfolding worth_of
a_prepare_behind_a_batch = refl

a_batch_behind_a_prepare : first_packet_in (lines_text (codes "P1|g|prepare|0|1" ∷ codes "P1|g|batch|1" ∷ codes "B1|1|2|0" ∷ [])) ≡ read_before (Prepare 0 1) (lines_text (codes "P1|g|batch|1" ∷ codes "B1|1|2|0" ∷ []))
a_batch_behind_a_prepare = refl

-- what stands behind is not read
a_packet_and_a_piece : first_packet_in (line (codes "P1|g|prepare|0|1") ++ codes "P1|g|pre") ≡ read_before (Prepare 0 1) (codes "P1|g|pre")
a_packet_and_a_piece = refl

another_text_behind : first_packet_in (lines_text (codes "P1|g|prepare|0|1" ∷ [] ∷ [])) ≡ read_before (Prepare 0 1) (line [])
another_text_behind = refl

-- ---- texts that begin with no packet

no_bytes : first_packet_in [] ≡ None
no_bytes = refl

a_line_cut_off : first_packet_in (codes "P1|g|prepare|0|1") ≡ None
a_line_cut_off = refl

a_batch_cut_off_at_a_line : first_packet_in (lines_text (codes "P1|g|batch|2" ∷ codes "B1|1|2|1" ∷ [])) ≡ None
a_batch_cut_off_at_a_line = refl

a_batch_cut_off_in_a_line : first_packet_in (lines_text (codes "P1|g|batch|2" ∷ codes "B1|1|2|1" ∷ []) ++ codes "X|1|0|1") ≡ None
a_batch_cut_off_in_a_line = refl

a_batch_with_a_packet_for_its_last_line : first_packet_in (lines_text (codes "P1|g|batch|2" ∷ codes "B1|1|2|1" ∷ codes "P1|g|prepare|0|1" ∷ [])) ≡ None
a_batch_with_a_packet_for_its_last_line = refl

a_line_too_few_said : first_packet_in (lines_text (codes "P1|g|batch|1" ∷ codes "B1|1|2|1" ∷ codes "X|1|0|1" ∷ [])) ≡ None
a_line_too_few_said = refl

a_line_too_many_said : first_packet_in (lines_text (codes "P1|g|batch|2" ∷ codes "B1|1|2|0" ∷ codes "P1|g|prepare|0|1" ∷ [])) ≡ None
a_line_too_many_said = refl

another_text_first : first_packet_in (lines_text ([] ∷ codes "P1|g|prepare|0|1" ∷ [])) ≡ None
another_text_first = refl
