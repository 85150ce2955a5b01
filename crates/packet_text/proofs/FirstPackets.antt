-- The first packet of a text: its lines are told from those behind them by its first line.
use Rattle.std.proofs.Common.{◌≡◌, ◌≢◌, ℕ, true, List, [], ◌∷◌, ◌++◌, length, take, drop, Option, Some, None, codes, refl, sym, ap, ap₂, ◌∙◌, arith, append_assoc, append-nil}
use Rattle.std.specs.Prelude.{unwrap_or}
use Rattle.std.specs.List.{list_all, join_with_byte}
use Rattle.std.proofs.Math.Seq.{take-append_seam, drop-append_seam}
use Rattle.std.proofs.lemmas.Bool.{and_parts, and_from}
use Rattle.std.proofs.lemmas.List.{length-map, take-append-drop}
use Rattle.std.proofs.lemmas.List.Concat.{flat_map-append}
use Rattle.std.proofs.lemmas.Option.{same_Some, none-some}
use Rattle.metering_model.specs.Batch.{lacks}
use Rattle.metering_model.specs.BatchReading.{Lines, fields_in, lines_in}
use Rattle.metering_model.specs.KeptText.{text_of_lines}
use Rattle.metering_model.specs.World.{Packet, CarriesBatch, Prepare, Promise, Accept, Accepted, Decided}
use Rattle.metering_model.proofs.BatchLaws.{batch_lines, head_of, lines_are_text}
use Rattle.metering_model.proofs.FieldLaws.{whole_written}
use Rattle.metering_model.proofs.LineLaws.{HeadLimits, bars_lack, head_lacks_feed, line_lacks_feed, record_line, records_lack_feed}
use Rattle.metering_model.proofs.Splitting.{cut_join, ended, join_cut, lines_give_back}
use Rattle.packet_text.specs.PacketText.{◌>>=◌, GroupPacket, HasPacketText, IsSent, first_packet_in, first_packet_of_lines, lines_of_batch, lines_said, packet_and_rest, packet_fields, packet_in, packet_of_fields, packet_text, text_below}
use Rattle.packet_text.proofs.OptionSteps.{step_some}
use Rattle.packet_text.proofs.SentNumbers.{group_is_inner}
use Rattle.packet_text.proofs.SentPackets.{fields_are_inner, own_packet_written}
use Rattle.packet_text.proofs.PacketLaws.{fields_read, line_fields, line_first, own_fields, packet_line, packet_read, packet_written, text_by_line}

-- ---- lines above others

-- lines with their line feeds are the first lines of a text
lines_above : (ls : List (List ℕ)) (text : List ℕ) → list_all (lacks 10) ls ≡ true
    → ((lines_in (text_of_lines ls ++ text)).lines ≡ ls ++ (lines_in text).lines) × ((lines_in (text_of_lines ls ++ text)).rest ≡ (lines_in text).rest)
lines_above [] text h = (refl, refl)
lines_above (l ∷ ls) text h =
    let both = and_parts (lacks 10 l) (list_all (lacks 10) ls) h in
    let below = text_of_lines ls ++ text in
    let more = lines_above ls text both.1 in
    let first = ap lines_in (append_assoc (ended l) (text_of_lines ls) text ∙ append_assoc l (10 ∷ []) below) ∙ line_first l below both.0 in (
      ap (λ (x : Lines). x.lines) first ∙ ap (λ xs. l ∷ xs) more.0,
      ap (λ (x : Lines). x.rest) first ∙ more.1,
    )

-- the lines below that of a packet
abbrev lines_below : Packet → List (List ℕ)
lines_below (CarriesBatch b) = batch_lines b
lines_below (Prepare period ballot) = []
lines_below (Promise from period ballot vote) = []
lines_below (Accept period ballot cut) = []
lines_below (Accepted from period ballot cut) = []
lines_below (Decided period cut) = []

below_is_lines : (p : Packet) → text_of_lines (lines_below p) ≡ text_below p
below_is_lines (CarriesBatch b) = lines_are_text b
below_is_lines (Prepare period ballot) = refl
below_is_lines (Promise from period ballot vote) = refl
below_is_lines (Accept period ballot cut) = refl
below_is_lines (Accepted from period ballot cut) = refl
below_is_lines (Decided period cut) = refl

below_lacks_feed : (p : Packet) → IsSent p → list_all (lacks 10) (lines_below p) ≡ true
below_lacks_feed (CarriesBatch b) h =
    let limits : HeadLimits (head_of b) = record { agent = h.agent; seq = h.seq; count = h.count } in
    and_from _ _ (head_lacks_feed (head_of b) limits) (records_lack_feed b.records h.records)
below_lacks_feed (Prepare period ballot) h = refl
below_lacks_feed (Promise from period ballot vote) h = refl
below_lacks_feed (Accept period ballot cut) h = refl
below_lacks_feed (Accepted from period ballot cut) h = refl
below_lacks_feed (Decided period cut) h = refl

-- a packet's line says how many they are
lines_are_said : (group : List ℕ) (p : Packet) → IsSent p → lines_said (line_fields group p) ≡ length (lines_below p)
lines_are_said group (CarriesBatch b) h =
    let few = h.count in
    let size = length-map b.records record_line in
    let same : lines_of_batch b ≡ length (batch_lines b) = omega (arith, size) in
    ap (λ o. unwrap_or o 0) (whole_written 1 1_001 (lines_of_batch b) (omega arith) (omega arith) (omega (arith, few))) ∙ same
lines_are_said group (Prepare period ballot) h = refl
lines_are_said group (Promise from period ballot vote) h = refl
lines_are_said group (Accept period ballot cut) h = refl
lines_are_said group (Accepted from period ballot cut) h = refl
lines_are_said group (Decided period cut) h = refl

-- ---- to reading

abbrev read_as : List ℕ → Packet → List ℕ → Option (GroupPacket × List ℕ)
read_as group p rest = Some (record { group = group; packet = p }, rest)

-- a packet's fields, and its lines above others
fields_first : (group : List ℕ) (p : Packet) (ls : List (List ℕ)) (last : List ℕ) → HasPacketText group p → packet_and_rest (lines_said (line_fields group p)) (line_fields group p) (lines_below p ++ ls) last ≡ read_as group p (text_of_lines ls ++ last)
fields_first group p ls last h =
    let mine = lines_below p in
    let fields = line_fields group p in
    let then_rest : List (List ℕ) → List (List ℕ) → Option (GroupPacket × List ℕ) = λ taken left. packet_of_fields fields (text_of_lines taken) >>= λ r. Some (r, text_of_lines left ++ last) in
    ap (λ n. packet_and_rest n fields (mine ++ ls) last) (lines_are_said group p h.packet)
    ∙ ap₂ then_rest (take-append_seam mine ls) (drop-append_seam mine ls)
    ∙ ap (λ t. packet_of_fields fields t >>= λ r. Some (r, text_of_lines ls ++ last)) (below_is_lines p)
    ∙ ap (λ o. o >>= λ r. Some (r, text_of_lines ls ++ last)) (own_fields group (packet_fields p) (text_below p) p h.group (own_packet_written p h.packet))

pub first_written : (group : List ℕ) (p : Packet) (rest : List ℕ) → HasPacketText group p → first_packet_in (packet_text group p ++ rest) ≡ read_as group p rest
first_written group p rest h =
    let inner = and_from _ _ (group_is_inner group h.group) (fields_are_inner p) in
    let line = packet_line group p in
    let behind = text_of_lines (lines_below p) ++ rest in
    let whole : packet_text group p ++ rest ≡ line ++ 10 ∷ behind =
    ap (λ t. t ++ rest) (text_by_line group p) ∙ append_assoc line (10 ∷ text_below p) rest ∙ ap (λ t. line ++ 10 ∷ (t ++ rest)) (sym (below_is_lines p)) in
    let lines = lines_above (lines_below p) rest (below_lacks_feed p h.packet) in
    let fields = cut_join 124 (codes "P1") (group ∷ packet_fields p) (bars_lack (line_fields group p) inner) in
    let ls = (lines_in rest).lines in
    let last = (lines_in rest).rest in
    ap first_packet_in whole
    ∙ ap (λ (x : Lines). first_packet_of_lines x.lines x.rest) (line_first line behind (line_lacks_feed (line_fields group p) inner))
    ∙ ap₂ (λ xs t. first_packet_of_lines (line ∷ xs) t) lines.0 lines.1
    ∙ ap (λ fs. packet_and_rest (lines_said fs) fs (lines_below p ++ ls) last) fields
    ∙ fields_first group p ls last h
    ∙ ap (read_as group p) (lines_give_back rest)

-- ---- from reading

-- the lines of a text that begins with that of a packet which may be written
abbrev BeginsWith : List ℕ → GroupPacket → List ℕ → Type 0
BeginsWith text r rest = (text ≡ packet_text r.group r.packet ++ rest) × HasPacketText r.group r.packet

-- so many lines and the others are all of them
cut_at : (n : ℕ) (ls : List (List ℕ)) (last : List ℕ) → text_of_lines ls ++ last ≡ text_of_lines (take n ls) ++ (text_of_lines (drop n ls) ++ last)
cut_at n ls last =
    ap (λ xs. text_of_lines xs ++ last) (sym (take-append-drop n ls))
    ∙ ap (λ t. t ++ last) (flat_map-append ended (take n ls) (drop n ls))
    ∙ append_assoc (text_of_lines (take n ls)) (text_of_lines (drop n ls)) last

counted_read : (n : ℕ) (l : List ℕ) (ls : List (List ℕ)) (last : List ℕ) (r : GroupPacket) (rest : List ℕ) → packet_and_rest n (fields_in l) ls last ≡ Some (r, rest) → BeginsWith (text_of_lines (l ∷ ls) ++ last) r rest
counted_read n l ls last r rest h =
    let behind = text_of_lines (drop n ls) ++ last in
    let step = step_some (packet_of_fields (fields_in l) (text_of_lines (take n ls))) (λ (x : GroupPacket). Some (x, behind)) (r, rest) h in
    let same = same_Some (step.0, behind) (r, rest) step.2 in
    let are = fields_read (fields_in l) (text_of_lines (take n ls)) r (step.1 ∙ ap Some (ap (λ (x : GroupPacket × List ℕ). x.0) same)) in
    let line : l ≡ packet_line r.group r.packet = sym (join_cut 124 l) ∙ ap (join_with_byte 124) are.0 in
    let below : text_of_lines ls ++ last ≡ text_below r.packet ++ rest = cut_at n ls last ∙ ap₂ ◌++◌ are.1 (ap (λ (x : GroupPacket × List ℕ). x.1) same) in (
      append_assoc (ended l) (text_of_lines ls) last
          ∙ ap₂ (λ t u. ended t ++ u) line below
          ∙ sym (append_assoc (ended (packet_line r.group r.packet)) (text_below r.packet) rest),
      are.2,
    )

lines_read : (ls : List (List ℕ)) (last : List ℕ) (r : GroupPacket) (rest : List ℕ) → first_packet_of_lines ls last ≡ Some (r, rest) → BeginsWith (text_of_lines ls ++ last) r rest
lines_read [] last r rest h = absurd (none-some (r, rest) h)
lines_read (l ∷ ls) last r rest h = counted_read (lines_said (fields_in l)) l ls last r rest h

pub first_read : (text : List ℕ) (r : GroupPacket) (rest : List ℕ) → first_packet_in text ≡ Some (r, rest) → (text ≡ packet_text r.group r.packet ++ rest) × HasPacketText r.group r.packet
first_read text r rest h =
    let p = lines_read (lines_in text).lines (lines_in text).rest r rest h in
    (sym (lines_give_back text) ∙ p.0, p.1)

-- ---- texts apart

pub texts_apart : (group other : List ℕ) (p q : Packet) (rest more : List ℕ) → HasPacketText group p → HasPacketText other q → packet_text group p ++ rest ≡ packet_text other q ++ more → (group ≡ other) × (p ≡ q) × (rest ≡ more)
texts_apart group other p q rest more h g e =
    let one : GroupPacket = record { group = group; packet = p } in
    let two : GroupPacket = record { group = other; packet = q } in
    let same = same_Some (one, rest) (two, more) (sym (first_written group p rest h) ∙ (ap first_packet_in e ∙ first_written other q more g)) in
    (ap (λ (x : GroupPacket × List ℕ). x.0.group) same, ap (λ (x : GroupPacket × List ℕ). x.0.packet) same, ap (λ (x : GroupPacket × List ℕ). x.1) same)

empty_behind : (xs ys : List ℕ) → [] ≡ xs ++ ys → ys ≡ []
empty_behind [] ys h = sym h
empty_behind (x ∷ xs) ys h = absurd (cc)

-- of a text that breaks off before a packet's end nothing is read
pub piece_unread : (group : List ℕ) (p : Packet) (piece rest : List ℕ) → HasPacketText group p → packet_text group p ≡ piece ++ rest → rest ≢ [] → first_packet_in piece ≡ None
piece_unread group p piece rest h e some = by_first (first_packet_in piece) refl
  where
    by_first : (o : Option (GroupPacket × List ℕ)) → first_packet_in piece ≡ o → o ≡ None
    by_first None is = refl
    by_first (Some x) is =
        let read = first_read piece x.0 x.1 is in
        let whole = append-nil (packet_text group p) ∙ e ∙ ap (λ t. t ++ rest) read.0 ∙ append_assoc (packet_text x.0.group x.0.packet) x.1 rest in
        absurd (some (empty_behind x.1 rest (texts_apart group x.0.group p x.0.packet [] (x.1 ++ rest) h read.1 whole).2))

-- a text is read whole where it is the first packet's, and nothing stands behind
pub whole_is_first : (text : List ℕ) (r : GroupPacket) → packet_in text ≡ Some r → first_packet_in text ≡ Some (r, [])
whole_is_first text r h =
    let is = packet_read text r h in
    ap first_packet_in (is.0 ∙ sym (append-nil (packet_text r.group r.packet))) ∙ first_written r.group r.packet [] is.1

pub first_is_whole : (text : List ℕ) (r : GroupPacket) → first_packet_in text ≡ Some (r, []) → packet_in text ≡ Some r
first_is_whole text r h =
    let is = first_read text r [] h in
    ap packet_in (is.0 ∙ append-nil (packet_text r.group r.packet)) ∙ packet_written r.group r.packet is.1
