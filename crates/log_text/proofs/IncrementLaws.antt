-- A line, with the lines that it says to be below, is read as an increment exactly where they are joined from that.
use Rattle.std.proofs.Common.{◌≡◌, ℕ, zero, suc, ◌≤◌, ◌<◌, ◌^◌, Bool, true, false, ◌&&◌, cond, List, [], ◌∷◌, ◌++◌, length, map, take, drop, flat_map}
use Rattle.std.proofs.Common.{Option, Some, None, Result, Ok, Err, ok_or, decimal, codes, refl, sym, ap, ap₂, ◌∙◌, subst, arith, length-append, eqb-true, eq-eqb, append-nil, append_assoc}
use Rattle.std.specs.Prelude.{◌==◌, nat_le, if◌then◌else◌}
use Rattle.std.specs.List.{list_all, join_with_byte}
use Rattle.std.specs.Option.{option_map}
use Rattle.std.specs.Result.{result_ok}
use Rattle.std.proofs.Math.Seq.{take-append_seam, drop-append_seam}
use Rattle.std.proofs.lemmas.Bool.{and_parts, and_from, cond-true, le-leb}
use Rattle.std.proofs.lemmas.List.{length-map, take-append-drop}
use Rattle.std.proofs.lemmas.List.Concat.{flat_map-append}
use Rattle.std.proofs.lemmas.Option.{same_Some, none-some}
use Rattle.metering_model.specs.Batch.{Batch, IsWellFormed, batch_text, lacks, line_of_fields}
use Rattle.metering_model.specs.BatchReading.{all_some, batch_in, fields_in, is_same, whole_in}
use Rattle.metering_model.specs.Dates.{IsPeriod}
use Rattle.metering_model.specs.Cut.{Cut}
use Rattle.metering_model.specs.Ballot.{Vote}
use Rattle.metering_model.specs.KeptText.{IsBallotNumber, IsCutAmong, ballot_numbered, cut_in, promised_number, text_of_lines, vote_cuts, vote_number}
use Rattle.metering_model.proofs.BatchLaws.{IsWellFormed-read, batch_lines, batch_read, batch_written, head_of, lines_are_text}
use Rattle.metering_model.proofs.Decimals.{decimal_lacks_feed}
use Rattle.metering_model.proofs.FieldBytes.{is_inner}
use Rattle.metering_model.proofs.FieldLaws.{same_read, whole_read, whole_written}
use Rattle.metering_model.proofs.LineLaws.{HeadLimits, bars_lack, head_lacks_feed, line_lacks_feed, record_line, records_lack_feed}
use Rattle.metering_model.proofs.StepLaws.{ok_same}
use Rattle.metering_model.proofs.Splitting.{cut_join, ended, join_cut, list_all_both}
use Rattle.packet_text.specs.PacketText.{lines_of_batch, sent_cut_in}
use Rattle.packet_text.proofs.OptionSteps.{chosen, chosen_first, mapped_some, was_ok}
use Rattle.packet_text.proofs.SentNumbers.{entries_are_inner, number_is_inner, period_read, period_written, sent_cut_read, sent_cut_written}
use Rattle.log_text.specs.LogText.{BadIncrement, BeginsRound, HasIncrementText, Increment, Learns, LogCode, SetsBallots, Takes, Torn, acceptor_fields, acceptor_of}
use Rattle.log_text.specs.LogText.{ballots_in, batch_of_lines, behind_word, first_increment, increment_text, learned_in, line_increment_in, lines_of_increment, round_in, section_in, vote_in}

-- ---- the lines of an increment

-- a word, and how many lines are below
abbrev pub section : List ℕ → ℕ → List ℕ
section word n = word ++ decimal n

abbrev pub lines_of : Increment → List (List ℕ)
lines_of (BeginsRound round) = join_with_byte 124 (codes "round" ∷ decimal round ∷ []) ∷ []
lines_of (SetsBallots period a) = join_with_byte 124 (codes "ballot" ∷ decimal period ∷ acceptor_fields a) ∷ []
lines_of (Learns period cut) = join_with_byte 124 (codes "learned" ∷ decimal period ∷ map decimal cut) ∷ []
lines_of (Takes b) = section (codes "batch ") (lines_of_batch b) ∷ batch_lines b

-- they are its text
pub increment_lines_are_text : (i : Increment) → text_of_lines (lines_of i) ≡ increment_text i
increment_lines_are_text (BeginsRound round) = append-nil _
increment_lines_are_text (SetsBallots period a) = append-nil _
increment_lines_are_text (Learns period cut) = append-nil _
increment_lines_are_text (Takes b) = ap (λ t. ended (section (codes "batch ") (lines_of_batch b)) ++ t) (lines_are_text b)

pub increment_size : (i : Increment) → length (lines_of i) ≡ lines_of_increment i
increment_size (BeginsRound round) = refl
increment_size (SetsBallots period a) = refl
increment_size (Learns period cut) = refl
increment_size (Takes b) = let size = length-map b.records record_line in omega (arith, size)

pub increment_some : (i : Increment) → 1 ≤ lines_of_increment i
increment_some (BeginsRound round) = omega arith
increment_some (SetsBallots period a) = omega arith
increment_some (Learns period cut) = omega arith
increment_some (Takes b) = omega arith

-- ---- how many lines a line says to be below it

-- an option that had to be there was
pub there : {A B : Type 0} (o : Option A) (f : A → Option B) (y : B) → elim o [ None ↦ None | Some x ↦ f x ] ≡ Some y → (x : A) × (o ≡ Some x) × (f x ≡ Some y)
there None f y h = absurd (none-some y h)
there (Some x) f y h = (x, refl, h)

-- a line that says so is the word and that number
pub section_read : (word : List ℕ) (most : ℕ) (l : List ℕ) (n : ℕ) → most < 10 ^ 64 → section_in word most l ≡ Some n → (l ≡ section word n) × (1 ≤ n) × (n ≤ most)
section_read word most l n low h =
    let a = there (behind_word word l) (whole_in 1 most) n h in
    let p = chosen_first (is_same (take (length word) l) word) (Some (drop (length word) l)) a.0 a.1 in
    let number = whole_read 1 most a.0 n low a.2 in (
      sym (take-append-drop (length word) l) ∙ ap₂ ◌++◌ (same_read (take (length word) l) word p.0) (same_Some (drop (length word) l) a.0 p.1 ∙ number.0),
      number.1,
      number.2,
    )

-- ---- cuts

pub cut_fields_read : (agents : ℕ) (fs : List (List ℕ)) (cut : Cut) → (1 ≤ agents) × (agents ≤ 64) → cut_in agents fs ≡ Some cut → (fs ≡ map decimal cut) × IsCutAmong agents cut
cut_fields_read agents fs cut few h =
    let n = length fs in
    let some = few.0 in
    let most = few.1 in
    let test = chosen_first (n == agents) (all_some (map (whole_in 0 1_000_000) fs)) cut h in
    let size = eqb-true n agents test.0 in
    let whole : sent_cut_in fs ≡ Some cut =
    cond-true (nat_le 1 n && nat_le n 64) (cut_in n fs) None (and_from _ _ (le-leb 1 n (omega (arith, size, some))) (le-leb n 64 (omega (arith, size, most))))
    ∙ cond-true (n == n) (all_some (map (whole_in 0 1_000_000) fs)) None (eq-eqb n n refl)
    ∙ test.1 in
    let is = sent_cut_read fs cut whole in
    (is.0, record { size = sym (length-map cut decimal) ∙ ap length (sym is.0) ∙ size; low = is.1.low })

pub cut_fields_written : (agents : ℕ) (cut : Cut) → (1 ≤ agents) × (agents ≤ 64) → IsCutAmong agents cut → cut_in agents (map decimal cut) ≡ Some cut
cut_fields_written agents cut few h =
    let fs = map decimal cut in
    let n = length fs in
    let some = few.0 in
    let most = few.1 in
    let size = h.size in
    let whole = sent_cut_written cut (record { agents = (omega (arith, size, some), omega (arith, size, most)); low = h.low }) in
    let parts = chosen_first (nat_le 1 n && nat_le n 64) (cut_in n fs) cut whole in
    ap (λ k. cut_in k fs) (sym size ∙ sym (length-map cut decimal)) ∙ parts.1

-- ---- one line, from reading

-- these fields are those of the increment's line
abbrev IsLineOf : ℕ → List (List ℕ) → Increment → Type 0
IsLineOf agents fs i = (line_of_fields fs ≡ increment_text i) × HasIncrementText agents i

round_read : (agents : ℕ) (fs : List (List ℕ)) (i : Increment) → round_in fs ≡ Some i → IsLineOf agents (codes "round" ∷ fs) i
round_read agents [] i h = absurd (none-some i h)
round_read agents (t ∷ []) i h =
    let a = mapped_some BeginsRound (whole_in 1 10_000 t) i h in
    let one = whole_read 1 10_000 t a.0 (omega arith) a.1 in
    subst (IsLineOf agents (codes "round" ∷ t ∷ [])) a.2 (ap (λ f. line_of_fields (codes "round" ∷ f ∷ [])) one.0, (one.1, one.2))
round_read agents (t ∷ u ∷ fs) i h = absurd (none-some i h)

promised_back : (n : ℕ) → promised_number (ballot_numbered n) ≡ n
promised_back zero = refl
promised_back (suc n) = refl

promised_low : (n ballot : ℕ) → n ≤ 990_098 → ballot_numbered n ≡ Some ballot → IsBallotNumber ballot
promised_low zero ballot low e = absurd (none-some ballot e)
promised_low (suc n) ballot low e = subst IsBallotNumber (same_Some (suc n) ballot e) (omega arith, low)

-- a vote's ballot and its cut
abbrev vote_fields : Option Vote → List (List ℕ)
vote_fields vote = decimal (vote_number vote) ∷ flat_map (λ cut. map decimal cut) (vote_cuts vote)

abbrev IsVote : ℕ → Option Vote → Type 0
IsVote agents vote = (v : Vote) → vote ≡ Some v → IsBallotNumber v.ballot × IsCutAmong agents v.cut

abbrev voted : ℕ → Cut → Option Vote
voted b cut = Some (record { ballot = b; cut = cut })

vote_read : (agents b : ℕ) (fs : List (List ℕ)) (vote : Option Vote) → (1 ≤ agents) × (agents ≤ 64) → b ≤ 990_098 → vote_in agents b fs ≡ Some vote → (decimal b ∷ fs ≡ vote_fields vote) × IsVote agents vote
vote_read agents zero [] vote few low h =
    subst (λ w. (decimal 0 ∷ [] ≡ vote_fields w) × IsVote agents w) (same_Some None vote h) (refl, λ v e. absurd (none-some v e))
vote_read agents zero (f ∷ fs) vote few low h = absurd (none-some vote h)
vote_read agents (suc b) fs vote few low h =
    let a = mapped_some (voted (suc b)) (cut_in agents fs) vote h in
    let cut = cut_fields_read agents fs a.0 few a.1 in
    let v : Vote = record { ballot = suc b; cut = a.0 } in
    subst (λ w. (decimal (suc b) ∷ fs ≡ vote_fields w) × IsVote agents w) a.2 (
      ap (λ gs. decimal (suc b) ∷ gs) (cut.0 ∙ sym (append-nil (map decimal a.0))),
      λ w e. subst (λ (x : Vote). IsBallotNumber x.ballot × IsCutAmong agents x.cut) (same_Some v w e) ((omega arith, low), cut.1),
    )

-- what is behind the period of a promise or a vote
acceptor_read : (agents period : ℕ) (t u : List ℕ) (fs : List (List ℕ)) (i : Increment) → (1 ≤ agents) × (agents ≤ 64) → IsPeriod period
    → elim (whole_in 0 990_098 t) [
      | None ↦ None
      | Some p ↦ elim (whole_in 0 990_098 u) [ None ↦ None | Some b ↦ option_map (λ vote. SetsBallots period (acceptor_of p vote)) (vote_in agents b fs) ]
    ] ≡ Some i
    → IsLineOf agents (codes "ballot" ∷ decimal period ∷ t ∷ u ∷ fs) i
acceptor_read agents period t u fs i few low h =
    let p = there (whole_in 0 990_098 t) (λ p. elim (whole_in 0 990_098 u) [ None ↦ None | Some b ↦ option_map (λ vote. SetsBallots period (acceptor_of p vote)) (vote_in agents b fs) ]) i h in
    let b = there (whole_in 0 990_098 u) (λ b. option_map (λ vote. SetsBallots period (acceptor_of p.0 vote)) (vote_in agents b fs)) i p.2 in
    let v = mapped_some (λ vote. SetsBallots period (acceptor_of p.0 vote)) (vote_in agents b.0 fs) i b.2 in
    let promised = whole_read 0 990_098 t p.0 (omega arith) p.1 in
    let ballot = whole_read 0 990_098 u b.0 (omega arith) b.1 in
    let vote = vote_read agents b.0 fs v.0 few ballot.2 v.1 in
    subst (IsLineOf agents (codes "ballot" ∷ decimal period ∷ t ∷ u ∷ fs)) v.2 (
      ap₂ (λ f gs. line_of_fields (codes "ballot" ∷ decimal period ∷ f ∷ gs)) (promised.0 ∙ ap decimal (sym (promised_back p.0))) (ap (λ f. f ∷ fs) ballot.0 ∙ vote.0),
      (low, λ n e. promised_low p.0 n promised.2 e, vote.1),
    )

ballots_read : (agents : ℕ) (fs : List (List ℕ)) (i : Increment) → (1 ≤ agents) × (agents ≤ 64) → ballots_in agents fs ≡ Some i → IsLineOf agents (codes "ballot" ∷ fs) i
ballots_read agents [] i few h = absurd (none-some i h)
ballots_read agents (s ∷ []) i few h = absurd (none-some i h)
ballots_read agents (s ∷ t ∷ []) i few h = absurd (none-some i h)
ballots_read agents (s ∷ t ∷ u ∷ fs) i few h =
    let below : ℕ → Option Increment = λ n. elim (whole_in 0 990_098 t) [
      | None ↦ None
      | Some p ↦ elim (whole_in 0 990_098 u) [ None ↦ None | Some b ↦ option_map (λ vote. SetsBallots n (acceptor_of p vote)) (vote_in agents b fs) ]
    ] in
    let n = there (whole_in 0 1_199 s) below i h in
    let period = period_read s n.0 n.1 in
    subst (λ f. IsLineOf agents (codes "ballot" ∷ f ∷ t ∷ u ∷ fs) i) (sym period.0) (acceptor_read agents n.0 t u fs i few period.1 n.2)

learned_read : (agents : ℕ) (fs : List (List ℕ)) (i : Increment) → (1 ≤ agents) × (agents ≤ 64) → learned_in agents fs ≡ Some i → IsLineOf agents (codes "learned" ∷ fs) i
learned_read agents [] i few h = absurd (none-some i h)
learned_read agents (s ∷ fs) i few h =
    let n = there (whole_in 0 1_199 s) (λ n. option_map (Learns n) (cut_in agents fs)) i h in
    let period = period_read s n.0 n.1 in
    let a = mapped_some (Learns n.0) (cut_in agents fs) i n.2 in
    let cut = cut_fields_read agents fs a.0 few a.1 in
    subst (IsLineOf agents (codes "learned" ∷ s ∷ fs)) a.2 (ap₂ (λ f gs. line_of_fields (codes "learned" ∷ f ∷ gs)) period.0 cut.0, (period.1, cut.1))

-- with the word that was tested
under_word : (agents : ℕ) (word known : List ℕ) (fs : List (List ℕ)) (i : Increment) → is_same word known ≡ true → IsLineOf agents (known ∷ fs) i → IsLineOf agents (word ∷ fs) i
under_word agents word known fs i same is = subst (λ t. IsLineOf agents (t ∷ fs) i) (sym (same_read word known same)) is

line_read : (agents : ℕ) (fs : List (List ℕ)) (i : Increment) → (1 ≤ agents) × (agents ≤ 64) → line_increment_in agents fs ≡ Some i → IsLineOf agents fs i
line_read agents [] i few h = absurd (none-some i h)
line_read agents (word ∷ fs) i few h =
    let Is : Type 0 = IsLineOf agents (word ∷ fs) i in
    chosen _ _ _ i Is (λ same k. under_word agents word (codes "round") fs i same (round_read agents fs i k))
    (chosen _ _ _ i Is (λ same k. under_word agents word (codes "ballot") fs i same (ballots_read agents fs i few k))
    (chosen _ _ _ i Is (λ same k. under_word agents word (codes "learned") fs i same (learned_read agents fs i few k)) (λ k. absurd (none-some i k)))) h

-- ---- a batch, from reading

pub batch_lines_read : (n : ℕ) (ls : List (List ℕ)) (b : Batch) → batch_of_lines n ls ≡ Some b → (text_of_lines (take n ls) ≡ batch_text b) × IsWellFormed b × (n ≡ lines_of_batch b)
batch_lines_read n ls b h =
    let front = text_of_lines (take n ls) in
    let a = there (result_ok (batch_in front)) (λ b. cond (n == lines_of_batch b) (Some b) None) b h in
    let t = chosen_first (n == lines_of_batch a.0) (Some a.0) b a.2 in
    let same = same_Some a.0 b t.1 in
    let is = was_ok (batch_in front) a.0 a.1 in
    subst (λ c. (front ≡ batch_text c) × IsWellFormed c × (n ≡ lines_of_batch c)) same
    ((batch_read front a.0 is).joined, IsWellFormed-read front a.0 is, eqb-true n (lines_of_batch a.0) t.0)

-- ---- one increment, from reading

-- the first lines are the increment's text
abbrev pub IsFirst : ℕ → List (List ℕ) → Increment × List (List ℕ) → Type 0
IsFirst agents ls x = (text_of_lines ls ≡ increment_text x.0 ++ text_of_lines x.1) × HasIncrementText agents x.0

pub was_some : {A : Type 0} (code : LogCode) (o : Option A) (x : A) → ok_or o code ≡ Ok x → o ≡ Some x
was_some code (Some y) x h = ap Some (ok_same y x h)
was_some code None x h = absurd (cc)

-- what was answered after a test
pub tested_ok : {A E : Type 0} (b : Bool) (e : E) (r : Result A E) (x : A) → cond b r (Err e) ≡ Ok x → (b ≡ true) × (r ≡ Ok x)
tested_ok true e r x h = (refl, h)
tested_ok false e r x h = absurd (cc)

-- what the lines below are read as, by how many of them the line says to be its own
abbrev pub by_section : ℕ → List ℕ → List (List ℕ) → Option ℕ → Result (Increment × List (List ℕ)) LogCode
by_section agents l ls o = elim o [
  | Some n ↦ if nat_le n (length ls) then ok_or (option_map (λ b. (Takes b, drop n ls)) (batch_of_lines n ls)) BadIncrement else Err Torn
  | None ↦ ok_or (option_map (λ i. (i, ls)) (line_increment_in agents (fields_in l))) BadIncrement
]

pub first_read : (agents : ℕ) (l : List ℕ) (ls : List (List ℕ)) (x : Increment × List (List ℕ)) → (1 ≤ agents) × (agents ≤ 64) → first_increment agents l ls ≡ Ok x → IsFirst agents (l ∷ ls) x
first_read agents l ls x few = read (section_in (codes "batch ") 1_001 l) refl
  where
    read : (o : Option ℕ) → section_in (codes "batch ") 1_001 l ≡ o → by_section agents l ls o ≡ Ok x → IsFirst agents (l ∷ ls) x
    read (Some n) is h =
        let o : Option (Increment × List (List ℕ)) = option_map (λ b. (Takes b, drop n ls)) (batch_of_lines n ls) in
        let t = tested_ok (nat_le n (length ls)) Torn (ok_or o BadIncrement) x h in
        let a = mapped_some (λ b. (Takes b, drop n ls)) (batch_of_lines n ls) x (was_some BadIncrement o x t.1) in
        let batch = batch_lines_read n ls a.0 a.1 in
        let line = section_read (codes "batch ") 1_001 l n (omega arith) is in
        let below : text_of_lines ls ≡ batch_text a.0 ++ text_of_lines (drop n ls) =
        ap text_of_lines (sym (take-append-drop n ls)) ∙ flat_map-append ended (take n ls) (drop n ls) ∙ ap (λ t. t ++ text_of_lines (drop n ls)) batch.0 in
        let first : List ℕ = section (codes "batch ") (lines_of_batch a.0) in
        subst (IsFirst agents (l ∷ ls)) a.2 (
          ap₂ (λ t u. ended t ++ u) (line.0 ∙ ap (section (codes "batch ")) batch.2) below ∙ sym (append_assoc (ended first) (batch_text a.0) (text_of_lines (drop n ls))),
          batch.1,
        )
    read None is h =
        let o : Option (Increment × List (List ℕ)) = option_map (λ i. (i, ls)) (line_increment_in agents (fields_in l)) in
        let a = mapped_some (λ i. (i, ls)) (line_increment_in agents (fields_in l)) x (was_some BadIncrement o x h) in
        let line = line_read agents (fields_in l) a.0 few a.1 in
        subst (IsFirst agents (l ∷ ls)) a.2 (
          ap (λ t. t ++ text_of_lines ls) (ap ended (sym (join_cut 124 l)) ∙ line.0),
          line.1,
        )

-- ---- to reading

pub there_from : {A B : Type 0} (o : Option A) (f : A → Option B) (x : A) (y : Option B) → o ≡ Some x → f x ≡ y → elim o [ None ↦ None | Some x ↦ f x ] ≡ y
there_from o f x y is h = ap (λ r. elim r [ None ↦ None | Some x ↦ f x ]) is ∙ h

promised_again : (o : Option ℕ) → ((ballot : ℕ) → o ≡ Some ballot → IsBallotNumber ballot) → (ballot_numbered (promised_number o) ≡ o) × (promised_number o ≤ 990_098)
promised_again None h = (refl, omega arith)
promised_again (Some zero) h = let some = (h 0 refl).0 in absurd (omega (arith, some))
promised_again (Some (suc b)) h = (refl, (h (suc b) refl).1)

some_vote_written : (agents b : ℕ) (cut : Cut) → (1 ≤ agents) × (agents ≤ 64) → IsBallotNumber b → IsCutAmong agents cut → vote_in agents b (map decimal cut ++ []) ≡ Some (voted b cut)
some_vote_written agents zero cut few n h = let some = n.0 in absurd (omega (arith, some))
some_vote_written agents (suc b) cut few n h = ap (λ fs. option_map (voted (suc b)) (cut_in agents fs)) (append-nil (map decimal cut)) ∙ ap (option_map (voted (suc b))) (cut_fields_written agents cut few h)

vote_written : (agents : ℕ) (vote : Option Vote) → (1 ≤ agents) × (agents ≤ 64) → IsVote agents vote → (vote_in agents (vote_number vote) (flat_map (λ cut. map decimal cut) (vote_cuts vote)) ≡ Some vote) × (vote_number vote ≤ 990_098)
vote_written agents None few h = (refl, omega arith)
vote_written agents (Some v) few h = let is = h v refl in (some_vote_written agents v.ballot v.cut few is.0 is.1, is.0.1)

ballots_written : (agents period : ℕ) (promised : Option ℕ) (vote : Option Vote) → (1 ≤ agents) × (agents ≤ 64) → HasIncrementText agents (SetsBallots period (record { promised = promised; vote = vote }))
    → ballots_in agents (decimal period ∷ acceptor_fields (record { promised = promised; vote = vote })) ≡ Some (SetsBallots period (record { promised = promised; vote = vote }))
ballots_written agents period promised vote few h =
    let p = promised_number promised in
    let b = vote_number vote in
    let fs = flat_map (λ cut. map decimal cut) (vote_cuts vote) in
    let again = promised_again promised h.1 in
    let voting = vote_written agents vote few h.2 in
    let made = λ (n q : ℕ) (w : Option Vote). SetsBallots n (acceptor_of q w) in
    let is : Option Increment = Some (SetsBallots period (record { promised = promised; vote = vote })) in
    let below : ℕ → Option Increment = λ n. elim (whole_in 0 990_098 (decimal p)) [ None ↦ None | Some q ↦ elim (whole_in 0 990_098 (decimal b)) [ None ↦ None | Some b ↦ option_map (made n q) (vote_in agents b fs) ] ] in
    there_from (whole_in 0 1_199 (decimal period)) below period is (period_written period h.0)
    (there_from (whole_in 0 990_098 (decimal p)) (λ q. elim (whole_in 0 990_098 (decimal b)) [ None ↦ None | Some b ↦ option_map (made period q) (vote_in agents b fs) ]) p is (whole_written 0 990_098 p (omega arith) (omega arith) again.1)
    (there_from (whole_in 0 990_098 (decimal b)) (λ b. option_map (made period p) (vote_in agents b fs)) b is (whole_written 0 990_098 b (omega arith) (omega arith) voting.1)
    (ap (option_map (made period p)) voting.0 ∙ ap (λ o. Some (SetsBallots period (record { promised = o; vote = vote }))) again.0)))

learned_written : (agents period : ℕ) (cut : Cut) → (1 ≤ agents) × (agents ≤ 64) → HasIncrementText agents (Learns period cut) → learned_in agents (decimal period ∷ map decimal cut) ≡ Some (Learns period cut)
learned_written agents period cut few h =
    there_from (whole_in 0 1_199 (decimal period)) (λ n. option_map (Learns n) (cut_in agents (map decimal cut))) period (Some (Learns period cut)) (period_written period h.0) (ap (option_map (Learns period)) (cut_fields_written agents cut few h.1))

-- fields of an increment that is one line have no byte at which lines are cut
acceptor_is_inner : (promised : Option ℕ) (vote : Option Vote) → list_all (list_all is_inner) (acceptor_fields (record { promised = promised; vote = vote })) ≡ true
acceptor_is_inner promised None = and_from _ _ (number_is_inner (promised_number promised)) (and_from _ _ (number_is_inner 0) refl)
acceptor_is_inner promised (Some v) =
    and_from _ _ (number_is_inner (promised_number promised)) (and_from _ _ (number_is_inner v.ballot) (ap (list_all (list_all is_inner)) (append-nil (map decimal v.cut)) ∙ entries_are_inner v.cut))

-- a line that says of no lines below it, and whose fields are read
line_written : (agents : ℕ) (word : List ℕ) (fs left : List (List ℕ)) (i : Increment) → list_all (list_all is_inner) (word ∷ fs) ≡ true → section_in (codes "batch ") 1_001 (join_with_byte 124 (word ∷ fs)) ≡ None
    → line_increment_in agents (word ∷ fs) ≡ Some i → first_increment agents (join_with_byte 124 (word ∷ fs)) left ≡ Ok (i, left)
line_written agents word fs left i inner alone is =
    let l = join_with_byte 124 (word ∷ fs) in
    ap (by_section agents l left) alone
    ∙ ap (λ fs. ok_or (option_map (λ i. (i, left)) (line_increment_in agents fs)) BadIncrement) (cut_join 124 word fs (bars_lack (word ∷ fs) inner))
    ∙ ap (λ o. ok_or (option_map (λ i. (i, left)) o) BadIncrement) is

pub batch_size : (b : Batch) → lines_of_batch b ≡ length (batch_lines b)
batch_size b = let size = length-map b.records record_line in omega (arith, size)

batch_lines_written : (b : Batch) (left : List (List ℕ)) → IsWellFormed b → batch_of_lines (lines_of_batch b) (batch_lines b ++ left) ≡ Some b
batch_lines_written b left well =
    let n = lines_of_batch b in
    let ls = batch_lines b ++ left in
    let front : take n ls ≡ batch_lines b = ap (λ k. take k ls) (batch_size b) ∙ take-append_seam (batch_lines b) left in
    let is : batch_in (text_of_lines (take n ls)) ≡ Ok b = ap (λ xs. batch_in (text_of_lines xs)) front ∙ ap batch_in (lines_are_text b) ∙ batch_written (batch_text b) b well in
    there_from (result_ok (batch_in (text_of_lines (take n ls)))) (λ c. cond (n == lines_of_batch c) (Some c) None) b (Some b) (ap result_ok is) (cond-true (n == n) (Some b) None (eq-eqb n n refl))

pub section_written : (b : Batch) → IsWellFormed b → section_in (codes "batch ") 1_001 (section (codes "batch ") (lines_of_batch b)) ≡ Some (lines_of_batch b)
section_written b well = let few = well.count in whole_written 1 1_001 (lines_of_batch b) (omega arith) (omega arith) (omega (arith, few))

-- the first increment of lines
abbrev pub first_in : ℕ → List (List ℕ) → Result (Increment × List (List ℕ)) LogCode
first_in agents [] = Err BadIncrement
first_in agents (l ∷ ls) = first_increment agents l ls

pub first_written : (agents : ℕ) (i : Increment) (left : List (List ℕ)) → (1 ≤ agents) × (agents ≤ 64) → HasIncrementText agents i → first_in agents (lines_of i ++ left) ≡ Ok (i, left)
first_written agents (BeginsRound round) left few h =
    line_written agents (codes "round") (decimal round ∷ []) left (BeginsRound round) (and_from _ _ refl (and_from _ _ (number_is_inner round) refl)) refl
    (ap (option_map BeginsRound) (whole_written 1 10_000 round (omega arith) h.0 h.1))
first_written agents (SetsBallots period a) left few h =
    line_written agents (codes "ballot") (decimal period ∷ acceptor_fields a) left (SetsBallots period a) (and_from _ _ refl (and_from _ _ (number_is_inner period) (acceptor_is_inner a.promised a.vote))) refl
    (ballots_written agents period a.promised a.vote few h)
first_written agents (Learns period cut) left few h =
    line_written agents (codes "learned") (decimal period ∷ map decimal cut) left (Learns period cut) (and_from _ _ refl (and_from _ _ (number_is_inner period) (entries_are_inner cut))) refl (learned_written agents period cut few h)
first_written agents (Takes b) left few h =
    let n = lines_of_batch b in
    let ls = batch_lines b ++ left in
    let l = section (codes "batch ") n in
    let dropped : drop n ls ≡ left = ap (λ k. drop k ls) (batch_size b) ∙ drop-append_seam (batch_lines b) left in
    let size = batch_size b in
    let all = length-append (batch_lines b) left in
    ap (by_section agents l ls) (section_written b h)
    ∙ cond-true (nat_le n (length ls)) (ok_or (option_map (λ b. (Takes b, drop n ls)) (batch_of_lines n ls)) BadIncrement) (Err Torn) (le-leb n (length ls) (omega (arith, size, all)))
    ∙ ap (λ o. ok_or (option_map (λ b. (Takes b, drop n ls)) o) BadIncrement) (batch_lines_written b left h)
    ∙ ap (λ xs. Ok (Takes b, xs)) dropped

-- ---- what else the lines of an increment are

pub all_both : {A : Type 0} (p : A → Bool) (xs ys : List A) → list_all p xs ≡ true → list_all p ys ≡ true → list_all p (xs ++ ys) ≡ true
all_both p [] ys h k = k
all_both p (x ∷ xs) ys h k = let parts = and_parts (p x) (list_all p xs) h in and_from _ _ parts.0 (all_both p xs ys parts.1 k)

pub batch_lacks_feed : (b : Batch) → IsWellFormed b → list_all (lacks 10) (batch_lines b) ≡ true
batch_lacks_feed b h =
    let limits : HeadLimits (head_of b) = record { agent = h.agent; seq = h.seq; count = h.count } in
    and_from _ _ (head_lacks_feed (head_of b) limits) (records_lack_feed b.records h.records)

pub section_lacks_feed : (word : List ℕ) (n : ℕ) → lacks 10 word ≡ true → lacks 10 (section word n) ≡ true
section_lacks_feed word n h = list_all_both _ word (decimal n) h (decimal_lacks_feed n)

pub increment_lacks_feed : (agents : ℕ) (i : Increment) → HasIncrementText agents i → list_all (lacks 10) (lines_of i) ≡ true
increment_lacks_feed agents (BeginsRound round) h = and_from _ _ (line_lacks_feed (codes "round" ∷ decimal round ∷ []) (and_from _ _ refl (and_from _ _ (number_is_inner round) refl))) refl
increment_lacks_feed agents (SetsBallots period a) h =
    and_from _ _ (line_lacks_feed (codes "ballot" ∷ decimal period ∷ acceptor_fields a) (and_from _ _ refl (and_from _ _ (number_is_inner period) (acceptor_is_inner a.promised a.vote)))) refl
increment_lacks_feed agents (Learns period cut) h =
    and_from _ _ (line_lacks_feed (codes "learned" ∷ decimal period ∷ map decimal cut) (and_from _ _ refl (and_from _ _ (number_is_inner period) (entries_are_inner cut)))) refl
increment_lacks_feed agents (Takes b) h = and_from _ _ (section_lacks_feed (codes "batch ") (lines_of_batch b) refl) (batch_lacks_feed b h)

-- the first of these lines, if there is one, is none of what a log begins with
abbrev pub Unkept : List (List ℕ) → Type 0
Unkept [] = Unit {0}
Unkept (l ∷ ls) = section_in (codes "kept ") 4_294_967_295 l ≡ None

pub increment_unkept : (i : Increment) (left : List (List ℕ)) → Unkept (lines_of i ++ left)
increment_unkept (BeginsRound round) left = refl
increment_unkept (SetsBallots period a) left = refl
increment_unkept (Learns period cut) left = refl
increment_unkept (Takes b) left = refl
