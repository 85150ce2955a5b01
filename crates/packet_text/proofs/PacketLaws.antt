-- A text is read as a packet of a group exactly where it is that packet's text.
use Rattle.std.proofs.Common.{◌≡◌, ℕ, ◌≤◌, true, List, [], ◌∷◌, ◌++◌, length, Option, Some, codes, refl, sym, ap, ap₂, ◌∙◌, subst, arith, append_assoc}
use Rattle.std.specs.Prelude.{◌==◌}
use Rattle.std.specs.List.{slice_split, join_with_byte}
use Rattle.std.proofs.lemmas.Bool.{and_from}
use Rattle.std.proofs.lemmas.List.Splits.{length-slice_split}
use Rattle.std.proofs.lemmas.Option.{same_Some, none-some}
use Rattle.metering_model.specs.Batch.{lacks}
use Rattle.metering_model.specs.BatchReading.{Lines, fields_in, lines_in, lines_of_parts, with_line}
use Rattle.metering_model.specs.KeptText.{text_of_lines}
use Rattle.metering_model.specs.World.{Packet}
use Rattle.metering_model.proofs.FieldLaws.{same_read}
use Rattle.metering_model.proofs.LineLaws.{bars_lack, line_lacks_feed}
use Rattle.metering_model.proofs.Splitting.{ended, cut_first, cut_join, join_cut, lines_give_back}
use Rattle.packet_text.specs.PacketText.{GroupPacket, HasPacketText, is_first_stored, is_group, is_stored_head, may_take_memory, packet_fields, packet_in, packet_of_fields, packet_of_lines, packet_text, text_below}
use Rattle.packet_text.proofs.OptionSteps.{step_iff, test_iff}
use Rattle.packet_text.proofs.SentNumbers.{group_is_inner}
use Rattle.packet_text.proofs.SentPackets.{fields_are_inner, own_packet_in, own_packet_written, word_packet_read}

-- ---- the first line

-- the fields of a packet's line
abbrev pub line_fields : List ℕ → Packet → List (List ℕ)
line_fields group p = codes "P1" ∷ group ∷ packet_fields p

abbrev pub packet_line : List ℕ → Packet → List ℕ
packet_line group p = join_with_byte 124 (line_fields group p)

first_of_parts : (l : List ℕ) (ps : List (List ℕ)) → 1 ≤ length ps → lines_of_parts (l ∷ ps) ≡ with_line l (lines_of_parts ps)
first_of_parts l [] some = absurd (omega (arith, some))
first_of_parts l (p ∷ ps) some = refl

-- a line that ends at the first line feed
pub line_first : (l below : List ℕ) → lacks 10 l ≡ true → lines_in (l ++ 10 ∷ below) ≡ with_line l (lines_in below)
line_first l below h =
    let ps = slice_split (λ (c : ℕ). c == 10) below in
    let count = length-slice_split (λ (c : ℕ). c == 10) below in
    ap lines_of_parts (cut_first 10 l below h) ∙ first_of_parts l ps (omega (arith, count))

-- what a text is read as, by its first line and what stands below it
pub at_first_line : (text line below : List ℕ) → lines_in text ≡ with_line line (lines_in below) → packet_in text ≡ packet_of_fields (fields_in line) below
at_first_line text line below e =
    ap (λ (ls : Lines). packet_of_lines ls.lines ls.rest) e ∙ ap (packet_of_fields (fields_in line)) (lines_give_back below)

-- whether a text asks for memory is told by its first line
pub stored_at_first_line : (text line below : List ℕ) → lines_in text ≡ with_line line (lines_in below) → may_take_memory text ≡ is_stored_head (fields_in line)
stored_at_first_line text line below e = ap (λ (ls : Lines). is_first_stored ls.lines) e

pub text_by_line : (group : List ℕ) (p : Packet) → packet_text group p ≡ packet_line group p ++ 10 ∷ text_below p
text_by_line group p = append_assoc (packet_line group p) (10 ∷ []) (text_below p)

-- ---- from reading

-- fields that are read are a packet's, and so is what stands below them
abbrev pub AreOf : List (List ℕ) → List ℕ → GroupPacket → Type 0
AreOf fs below r = (fs ≡ line_fields r.group r.packet) × (below ≡ text_below r.packet) × HasPacketText r.group r.packet

pub fields_read : (fs : List (List ℕ)) (below : List ℕ) (r : GroupPacket) → packet_of_fields fs below ≡ Some r → AreOf fs below r
fields_read [] below r h = absurd (none-some r h)
fields_read (version ∷ []) below r h = absurd (none-some r h)
fields_read (version ∷ name ∷ []) below r h = absurd (none-some r h)
fields_read (version ∷ name ∷ word ∷ numbers) below r h =
    let v = simp (test_iff, step_iff) at h in
    let g = v.1 in
    let p = g.1 in
    let is = word_packet_read word numbers below p.0 p.1 in
    subst (AreOf (version ∷ name ∷ word ∷ numbers) below) (same_Some (record { group = name; packet = p.0 }) r p.2) (
      ap₂ (λ t fs. t ∷ name ∷ fs) (same_read version (codes "P1") v.0) is.fields,
      is.under,
      record { group = g.0; packet = is.limits },
    )

lines_read : (ls : List (List ℕ)) (rest : List ℕ) (r : GroupPacket) → packet_of_lines ls rest ≡ Some r → (text_of_lines ls ++ rest ≡ packet_text r.group r.packet) × HasPacketText r.group r.packet
lines_read [] rest r h = absurd (none-some r h)
lines_read (l ∷ ls) rest r h =
    let are = fields_read (fields_in l) (text_of_lines ls ++ rest) r h in
    let line : l ≡ packet_line r.group r.packet = sym (join_cut 124 l) ∙ ap (join_with_byte 124) are.0 in (
      append_assoc (ended l) (text_of_lines ls) rest ∙ ap₂ (λ t below. ended t ++ below) line are.1,
      are.2,
    )

-- a text that is read is that of what it is read as
pub packet_read : (text : List ℕ) (r : GroupPacket) → packet_in text ≡ Some r → (text ≡ packet_text r.group r.packet) × HasPacketText r.group r.packet
packet_read text r h =
    let p = lines_read (lines_in text).lines (lines_in text).rest r h in
    (sym (lines_give_back text) ∙ p.0, p.1)

-- ---- to reading

abbrev read_as : List ℕ → Packet → Option GroupPacket
read_as group p = Some (record { group = group; packet = p })

-- the fields behind the group's name are read by themselves
pub own_fields : (group : List ℕ) (fs : List (List ℕ)) (below : List ℕ) (p : Packet) → is_group group ≡ true → own_packet_in fs below ≡ Some p → packet_of_fields (codes "P1" ∷ group ∷ fs) below ≡ read_as group p
own_fields group [] below p g h = absurd (none-some p h)
own_fields group (word ∷ numbers) below p g h = simp (g, h)

pub packet_written : (group : List ℕ) (p : Packet) → HasPacketText group p → packet_in (packet_text group p) ≡ read_as group p
packet_written group p h =
    let inner = and_from _ _ (group_is_inner group h.group) (fields_are_inner p) in
    let line = packet_line group p in
    let fields = cut_join 124 (codes "P1") (group ∷ packet_fields p) (bars_lack (line_fields group p) inner) in
    ap packet_in (text_by_line group p)
    ∙ at_first_line (line ++ 10 ∷ text_below p) line (text_below p) (line_first line (text_below p) (line_lacks_feed (line_fields group p) inner))
    ∙ ap (λ fs. packet_of_fields fs (text_below p)) fields
    ∙ own_fields group (packet_fields p) (text_below p) p h.group (own_packet_written p h.packet)
