-- How long the text of a packet may be.
use Rattle.std.proofs.Common.{◌≡◌, ℕ, ◌+◌, ◌*◌, ◌<◌, ◌≤◌, ◌^◌, true, List, [], ◌∷◌, length, map, All, Option, Some, None, decimal, codes, refl, ap, arith, length-append}
use Rattle.std.specs.List.{join_with_byte}
use Rattle.std.proofs.lemmas.Bool.{and_parts, false≢true, leb-true}
use Rattle.std.specs.Prelude.{◌&&◌, nat_le}
use Rattle.std.specs.List.{list_all}
use Rattle.std.proofs.lemmas.Fmt.{length-decimal-le_wide}
use Rattle.std.proofs.lemmas.List.Elements.{All-head, All-tail}
use Rattle.metering_model.specs.Batch.{Batch}
use Rattle.metering_model.specs.Cut.{Cut}
use Rattle.metering_model.specs.Ballot.{Vote}
use Rattle.metering_model.specs.World.{Packet, CarriesBatch, Prepare, Promise, Accept, Accepted, Decided}
use Rattle.packet_text.specs.PacketText.{HasPacketText, IsSent, IsSentCut, IsSentVote, is_group, is_group_byte, is_line, lines_of_batch, packet_fields, packet_text, text_below, vote_fields}
use Rattle.packet_text.proofs.SentNumbers.{IsLow}
use Rattle.packet_text.proofs.PacketLaws.{packet_line, text_by_line}

-- how long fields are, each with the `|` before it
abbrev bars_length : List (List ℕ) → ℕ
bars_length [] = 0
bars_length (f ∷ fs) = 1 + length f + bars_length fs

joined_length : (f : List ℕ) (fs : List (List ℕ)) → length (join_with_byte 124 (f ∷ fs)) ≡ length f + bars_length fs
joined_length f [] = omega arith
joined_length f (g ∷ gs) =
    let more = joined_length g gs in
    let both = length-append f (124 ∷ join_with_byte 124 (g ∷ gs)) in
    omega (arith, more, both)

-- a number of so many digits
digits : (k n : ℕ) → 0 < k → n < 10 ^ k → n < 10 ^ 64 → length (decimal n) ≤ k
digits k n some fits small = length-decimal-le_wide k n some fits small

entries_length : (cut : Cut) → All IsLow cut → bars_length (map decimal cut) ≤ 8 * length cut
entries_length [] h = omega arith
entries_length (x ∷ xs) h =
    let low = All-head IsLow x xs h in
    let one = digits 7 x (omega arith) (omega (arith, low)) (omega (arith, low)) in
    let more = entries_length xs (All-tail IsLow x xs h) in
    omega (arith, one, more)

cut_length : (cut : Cut) → IsSentCut cut → bars_length (map decimal cut) ≤ 512
cut_length cut h = let all = entries_length cut h.low in let most = h.agents.1 in omega (arith, all, most)

node_length : (n : ℕ) → n ≤ 98 → length (decimal n) ≤ 2
node_length n h = digits 2 n (omega arith) (omega (arith, h)) (omega (arith, h))

period_length : (n : ℕ) → n < 1_200 → length (decimal n) ≤ 4
period_length n h = digits 4 n (omega arith) (omega (arith, h)) (omega (arith, h))

ballot_length : (n : ℕ) → n ≤ 990_098 → length (decimal n) ≤ 6
ballot_length n h = digits 6 n (omega arith) (omega (arith, h)) (omega (arith, h))

vote_length : (vote : Option Vote) → IsSentVote vote → bars_length (vote_fields vote) ≤ 519
vote_length None h = omega arith
vote_length (Some v) h = let ballot = ballot_length v.ballot h.0.1 in let cut = cut_length v.cut h.1 in omega (arith, ballot, cut)

-- a packet's own fields, where it is one line
line_length : (p : Packet) → IsSent p → is_line p ≡ true → bars_length (packet_fields p) ≤ 542
line_length (CarriesBatch b) h one = absurd (false≢true one)
line_length (Prepare period ballot) h one =
    let p = period_length period h.0 in let b = ballot_length ballot h.1.1 in omega (arith, p, b)
line_length (Promise from period ballot vote) h one =
    let i = node_length from h.0 in
    let p = period_length period h.1 in
    let b = ballot_length ballot h.2.1 in
    let v = vote_length vote h.3 in
    omega (arith, i, p, b, v)
line_length (Accept period ballot cut) h one =
    let p = period_length period h.0 in
    let b = ballot_length ballot h.1.1 in
    let c = cut_length cut h.2 in
    omega (arith, p, b, c)
line_length (Accepted from period ballot cut) h one =
    let i = node_length from h.0 in
    let p = period_length period h.1 in
    let b = ballot_length ballot h.2.1 in
    let c = cut_length cut h.3 in
    omega (arith, i, p, b, c)
line_length (Decided period cut) h one = let p = period_length period h.0 in let c = cut_length cut h.1 in omega (arith, p, c)

group_length : (name : List ℕ) → is_group name ≡ true → length name ≤ 32
group_length name h =
    let few = (and_parts (nat_le 1 (length name) && nat_le (length name) 32) (list_all is_group_byte name) h).0 in
    leb-true (length name) 32 (and_parts (nat_le 1 (length name)) (nat_le (length name) 32) few).1

-- a packet's line, its line feed, and what stands below
whole_length : (group : List ℕ) (p : Packet) → length (packet_text group p) ≡ 3 + length group + bars_length (packet_fields p) + 1 + length (text_below p)
whole_length group p =
    let line = packet_line group p in
    let both = length-append line (10 ∷ text_below p) in
    let text = ap length (text_by_line group p) in
    let joined = joined_length (codes "P1") (group ∷ packet_fields p) in
    omega (arith, text, both, joined)

no_lines_below : (p : Packet) → is_line p ≡ true → length (text_below p) ≡ 0
no_lines_below (CarriesBatch b) one = absurd (false≢true one)
no_lines_below (Prepare period ballot) one = refl
no_lines_below (Promise from period ballot vote) one = refl
no_lines_below (Accept period ballot cut) one = refl
no_lines_below (Accepted from period ballot cut) one = refl
no_lines_below (Decided period cut) one = refl

pub lines_are_short : (group : List ℕ) (p : Packet) → HasPacketText group p → is_line p ≡ true → length (packet_text group p) ≤ 578
lines_are_short group p h one =
    let whole = whole_length group p in
    let name = group_length group h.group in
    let line = line_length p h.packet one in
    let none = no_lines_below p one in
    omega (arith, whole, name, line, none)

batch_length : (group : List ℕ) (b : Batch) → HasPacketText group (CarriesBatch b) → length (packet_text group (CarriesBatch b)) ≤ 65_583
batch_length group b h =
    let whole = whole_length group (CarriesBatch b) in
    let name = group_length group h.group in
    let few = h.packet.count in
    let short = h.packet.short in
    let lines = digits 4 (lines_of_batch b) (omega arith) (omega (arith, few)) (omega (arith, few)) in
    omega (arith, whole, name, short, lines)

pub packets_are_short : (group : List ℕ) (p : Packet) → HasPacketText group p → length (packet_text group p) ≤ 65_583
packets_are_short group (CarriesBatch b) h = batch_length group b h
packets_are_short group (Prepare period ballot) h = let line = lines_are_short group (Prepare period ballot) h refl in omega (arith, line)
packets_are_short group (Promise from period ballot vote) h = let line = lines_are_short group (Promise from period ballot vote) h refl in omega (arith, line)
packets_are_short group (Accept period ballot cut) h = let line = lines_are_short group (Accept period ballot cut) h refl in omega (arith, line)
packets_are_short group (Accepted from period ballot cut) h = let line = lines_are_short group (Accepted from period ballot cut) h refl in omega (arith, line)
packets_are_short group (Decided period cut) h = let line = lines_are_short group (Decided period cut) h refl in omega (arith, line)
