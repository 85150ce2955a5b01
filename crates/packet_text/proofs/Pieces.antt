-- A packet's text is put together piece by piece.
use Rattle.std.proofs.Common.{◌≡◌, ℕ, ◌≤◌, List, [], ◌∷◌, ◌++◌, length, map, take, codes, decimal, cond, Option, Some, Result, Ok, Err, OnErr, OnOk, is_ok, sym, ap, ap₂, ◌∙◌, arith, append-nil, append_assoc}
use Rattle.std.specs.List.{join_with_byte}
use Rattle.std.proofs.Math.Seq.{take-append_seam}
use Rattle.std.proofs.lemmas.List.Concat.{flat_map-append}
use Rattle.metering_model.specs.Batch.{batch_text, line_of_fields}
use Rattle.metering_model.specs.BatchReading.{batch_in}
use Rattle.metering_model.specs.Cut.{Cut}
use Rattle.metering_model.specs.Ballot.{Vote}
use Rattle.metering_model.proofs.BatchLaws.{batch_read}
use Rattle.batch_view.specs.Batches.{batch_of}
use Rattle.packet_text.specs.PacketText.{vote_fields}
use Rattle.packet_text.specs.Inner.Pieces.{HasBehind, Puts, barred}

-- what follows where a call has succeeded
pub then_ok : {A E : Type 0} (r : Result A E) (P Q : Type 0) → (P → Q) → OnOk r P → OnOk r Q
then_ok (Ok x) P Q so p = so p
then_ok (Err e) P Q so p = tt

-- a text that did not grow
pub stayed : {old new : List ℕ} → new ≡ old → HasBehind old new
stayed {old} kept = record { more = []; joined = kept ∙ sym (append-nil old) }

-- one that grew by a piece, and perhaps goes on
pub grown : {old mid new : List ℕ} (piece : List ℕ) → mid ≡ old ++ piece → HasBehind mid new → HasBehind old new
grown {old} piece put on = record { more = piece ++ on.more; joined = on.joined ∙ ap (λ t. t ++ on.more) put ∙ append_assoc old piece on.more }

-- what it grew by is cut off again
pub cut_back : (old new : List ℕ) (n : ℕ) → n ≡ length old → HasBehind old new → take n new ≡ old
cut_back old new n size on = ap₂ take size on.joined ∙ take-append_seam old on.more

-- bytes that were appended at once are a piece
pub puts_bytes : {A E : Type 0} (r : Result A E) (old new bytes piece : List ℕ) → new ≡ cond (is_ok r) (old ++ bytes) old → bytes ≡ piece → Puts r old new piece
puts_bytes (Ok x) old new bytes piece put is = put ∙ ap (λ t. old ++ t) is
puts_bytes (Err e) old new bytes piece put is = stayed put

-- so are a word and a number
pub puts_number : {A E : Type 0} (r : Result A E) (old new word piece : List ℕ) (n : ℕ) → OnOk r (new ≡ old ++ (word ++ decimal n)) → OnErr r (new ≡ old) → word ++ decimal n ≡ piece → Puts r old new piece
puts_number (Ok x) old new word piece n put kept is = put ∙ ap (λ t. old ++ t) is
puts_number (Err e) old new word piece n put kept is = stayed kept

-- a piece, and another behind it
pub puts_both : {A E : Type 0} (r : Result A E) (old mid new one two : List ℕ) → mid ≡ old ++ one → Puts r mid new two → Puts r old new (one ++ two)
puts_both (Ok x) old mid new one two first put = put ∙ ap (λ t. t ++ two) first ∙ append_assoc old one two
puts_both (Err e) old mid new one two first behind = grown one first behind

-- fields joined by `|`: the first, and each other with the `|` before it
pub joined_bars : (f : List ℕ) (fs : List (List ℕ)) → join_with_byte 124 (f ∷ fs) ≡ f ++ barred fs
joined_bars f [] = sym (append-nil f)
joined_bars f (g ∷ gs) = ap (λ t. f ++ 124 ∷ t) (joined_bars g gs)

-- a `|` and the line of a cut are the fields of the cut
pub cut_put : (old mid new : List ℕ) (cut : Cut) → 1 ≤ length cut → mid ≡ old ++ 124 ∷ [] → new ≡ mid ++ join_with_byte 124 (map decimal cut) → new ≡ old ++ barred (map decimal cut)
cut_put old mid new [] some bar put = absurd (omega (arith, some))
cut_put old mid new (x ∷ xs) some bar put =
    put
    ∙ ap (λ t. t ++ join_with_byte 124 (map decimal (x ∷ xs))) bar
    ∙ append_assoc old (124 ∷ []) (join_with_byte 124 (map decimal (x ∷ xs)))
    ∙ ap (λ t. old ++ 124 ∷ t) (joined_bars (decimal x) (map decimal xs))

pub puts_cut : {A E : Type 0} (r : Result A E) (old mid new : List ℕ) (cut : Cut) → 1 ≤ length cut → mid ≡ old ++ 124 ∷ [] → OnOk r (new ≡ mid ++ join_with_byte 124 (map decimal cut)) → OnErr r (new ≡ mid) → Puts r old new (barred (map decimal cut))
puts_cut (Ok x) old mid new cut some bar put kept = cut_put old mid new cut some bar put
puts_cut (Err e) old mid new cut some bar put kept = grown (124 ∷ []) bar (stayed kept)

-- fields behind fields
pub bars_both : (fs gs : List (List ℕ)) → barred fs ++ barred gs ≡ barred (fs ++ gs)
bars_both fs gs = sym (flat_map-append (λ (f : List ℕ). 124 ∷ f) fs gs)

-- the fields of a vote
pub vote_bars : (o : Option Vote) (v : Vote) (n : ℕ) (cut : Cut) → o ≡ Some v → n ≡ v.ballot → cut ≡ v.cut → barred (decimal n ∷ map decimal cut) ≡ barred (vote_fields o)
vote_bars o v n cut there number entries = ap₂ (λ m (k : Cut). barred (decimal m ∷ map decimal k)) number entries ∙ ap (λ w. barred (vote_fields w)) (sym there)

-- the bytes of a batch are its text
pub bytes_are_text : (bytes : List ℕ) → batch_in bytes ≡ Ok (batch_of bytes) → bytes ≡ batch_text (batch_of bytes)
bytes_are_text bytes e = (batch_read bytes (batch_of bytes) e).joined

-- format and group, the packet's own fields, a line feed, and what stands below
pub whole_text : (group below : List ℕ) (fields : List (List ℕ)) → codes "P1|" ++ (group ++ (barred fields ++ 10 ∷ below)) ≡ line_of_fields (codes "P1" ∷ group ∷ fields) ++ below
whole_text group below fields =
    let bars = barred fields in
    ap (λ t. codes "P1|" ++ t) (sym (append_assoc (group ++ bars) (10 ∷ []) below ∙ append_assoc group bars (10 ∷ below)))
    ∙ ap (λ t. (t ++ 10 ∷ []) ++ below) (sym (joined_bars (codes "P1") (group ∷ fields)))
