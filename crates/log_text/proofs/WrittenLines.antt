-- Lines of a log are put together piece by piece.
use Rattle.std.proofs.Common.{◌≡◌, ℕ, ◌+◌, ◌-◌, List, [], ◌∷◌, ◌++◌, length, map, codes, decimal, cond, Option, Some, None, Result, Ok, Err, OnOk, is_ok, refl, sym, ap, ◌∙◌, arith, append-nil, append_assoc}
use Rattle.std.specs.Fmt.{digits}
use Rattle.std.specs.Prelude.{◌==◌}
use Rattle.std.specs.List.{flat_map, slice_split}
use Rattle.std.proofs.lemmas.List.Splits.{length-slice_split}
use Rattle.metering_model.specs.Ballot.{Vote, Acceptor}
use Rattle.metering_model.specs.Batch.{line_of_fields}
use Rattle.metering_model.specs.BatchReading.{lines_in, lines_of_parts}
use Rattle.metering_model.specs.KeptText.{KeptAmong, kept_text, promised_number, vote_cuts, vote_number}
use Rattle.metering_model.specs.Transcript.{line_count}
use Rattle.packet_text.specs.PacketText.{vote_fields}
use Rattle.packet_text.specs.Inner.Pieces.{barred}
use Rattle.packet_text.proofs.Pieces.{bars_both, joined_bars}
use Rattle.log_text.specs.LogText.{LogHead, SetsBallots, Learns, base_text, head_text, increment_text, section_line, who_fields}

-- what was appended last ends a text
pub then_put : {A E : Type 0} (r : Result A E) (mid new bytes whole : List ℕ) → new ≡ cond (is_ok r) (mid ++ bytes) mid → mid ++ bytes ≡ whole → OnOk r (new ≡ whole)
then_put (Ok x) mid new bytes whole put is = put ∙ is
then_put (Err e) mid new bytes whole put is = tt

-- barred fields and a line feed behind a first one are a line
line_is : (first : List ℕ) (fs : List (List ℕ)) → (first ++ barred fs) ++ 10 ∷ [] ≡ line_of_fields (first ∷ fs)
line_is first fs = ap (λ t. t ++ 10 ∷ []) (sym (joined_bars first fs))

-- ---- a head line

-- one number behind the other
pub sizes_are : (v o a : List ℕ) → (124 ∷ v) ++ ((124 ∷ o) ++ ((124 ∷ a) ++ 10 ∷ [])) ≡ barred (v ∷ o ∷ a ∷ []) ++ 10 ∷ []
sizes_are v o a =
    let end = append_assoc (124 ∷ a) [] (10 ∷ []) in
    let front = append_assoc (124 ∷ o) ((124 ∷ a) ++ []) (10 ∷ []) ∙ ap (λ t. (124 ∷ o) ++ t) end in
    sym (append_assoc (124 ∷ v) ((124 ∷ o) ++ ((124 ∷ a) ++ [])) (10 ∷ []) ∙ ap (λ t. (124 ∷ v) ++ t) front)

pub head_is : (h : LogHead)
    → codes "G1|" ++ (h.group ++ (barred (who_fields h.who) ++ (barred (decimal h.voters ∷ decimal h.observers ∷ decimal h.agents ∷ []) ++ 10 ∷ []))) ≡ head_text h
head_is h =
    let who = who_fields h.who in
    let sizes = decimal h.voters ∷ decimal h.observers ∷ decimal h.agents ∷ [] in
    let fields = ap (λ t. h.group ++ t) (sym (append_assoc (barred who) (barred sizes) (10 ∷ [])) ∙ ap (λ t. t ++ 10 ∷ []) (bars_both who sizes)) in
    ap (λ t. codes "G1|" ++ t) (fields ∙ sym (append_assoc h.group (barred (who ++ sizes)) (10 ∷ []))) ∙ line_is (codes "G1") (h.group ∷ who ++ sizes)

-- ---- increments

told_vote : (v : Option Vote) → vote_fields v ≡ decimal (vote_number v) ∷ flat_map (λ cut. map decimal cut) (vote_cuts v)
unfolding digits
told_vote None = refl
told_vote (Some v) = ap (λ fs. decimal v.ballot ∷ fs) (sym (append-nil (map decimal v.cut)))

-- the pieces of a promise and a vote
pub ballots_are : (period : ℕ) (a : Acceptor) (n : ℕ) → n ≡ promised_number a.promised
    → (codes "ballot|" ++ decimal period) ++ ((124 ∷ decimal n) ++ (barred (vote_fields a.vote) ++ 10 ∷ [])) ≡ increment_text (SetsBallots period a)
ballots_are period a n is =
    let p = decimal period in
    let q = decimal (promised_number a.promised) in
    let vote = barred (vote_fields a.vote) in
    ap (λ m. (codes "ballot|" ++ p) ++ ((124 ∷ decimal m) ++ (vote ++ 10 ∷ []))) is
    ∙ ap (λ t. codes "ballot|" ++ t) (sym (append_assoc p (124 ∷ (q ++ vote)) (10 ∷ []) ∙ ap (λ t. p ++ 124 ∷ t) (append_assoc q vote (10 ∷ []))))
    ∙ line_is (codes "ballot") (p ∷ q ∷ vote_fields a.vote)
    ∙ ap (λ fs. line_of_fields (codes "ballot" ∷ p ∷ q ∷ fs)) (told_vote a.vote)

-- and of a cut that was learned
pub learned_is : (period : ℕ) (cut : List ℕ) → ((codes "learned|" ++ decimal period) ++ barred (map decimal cut)) ++ 10 ∷ [] ≡ increment_text (Learns period cut)
learned_is period cut = line_is (codes "learned") (decimal period ∷ map decimal cut)

-- a line that counts others, and what stands below it
pub section_put : (word old one two below : List ℕ) (n m : ℕ) → n ≡ m → one ≡ old ++ (word ++ decimal n) → two ≡ one ++ 10 ∷ [] → two ++ below ≡ old ++ (section_line word m ++ below)
section_put word old one two below n m is e1 e2 =
    let all : (((old ++ (word ++ decimal m)) ++ 10 ∷ []) ++ below) ≡ old ++ ((word ++ decimal m ++ 10 ∷ []) ++ below) = simp append_assoc in
    ap (λ t. t ++ below) (e2 ∙ ap (λ t. t ++ 10 ∷ []) (e1 ∙ ap (λ k. old ++ (word ++ decimal k)) is)) ∙ all

-- ---- what is kept

-- each line feed ends a line
pub feeds_end_lines : (t : List ℕ) → line_count t ≡ length (lines_in t).lines
feeds_end_lines t = by_parts (slice_split (λ c. c == 10) t) (line_count t) (length-slice_split (λ (c : ℕ). c == 10) t)
  where
    by_parts : (ps : List (List ℕ)) (n : ℕ) → length ps ≡ n + 1 → n ≡ length (lines_of_parts ps).lines
    by_parts [] n e = absurd (omega (arith, e))
    by_parts (p ∷ []) n e = omega (arith, e)
    by_parts (p ∷ q ∷ ps) n e =
        let last : length (q ∷ ps) ≡ n - 1 + 1 = omega (arith, e) in
        let less = by_parts (q ∷ ps) (n - 1) last in
        omega (arith, e, less)

-- the lines of what is kept, as they are counted
pub kept_put : (k : KeptAmong) (written : List ℕ) → written ≡ kept_text k → section_line (codes "kept ") (line_count written) ++ written ≡ base_text (Some k)
kept_put k written e =
    ap (λ t. section_line (codes "kept ") (line_count t) ++ t) e
    ∙ ap (λ n. section_line (codes "kept ") n ++ kept_text k) (feeds_end_lines (kept_text k))
