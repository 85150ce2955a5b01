-- What a line says to be below it, and how a text is cut behind these lines.
use Rattle.std.proofs.Common.{◌≡◌, ℕ, zero, suc, ◌+◌, ◌<◌, ◌≤◌, ◌==◌, ◌&&◌, Bool, true, false, cond, List, [], ◌∷◌, ◌++◌, length, take, drop, Option, Some, None, Result, Ok, Err, refl, sym, ap, ap₂, subst, ◌∙◌, arith, append-nil, length-take, nat_le, le-leb, eq-eqb, eqb-true}
use Rattle.std.specs.Option.{option_map}
use Rattle.std.specs.Prelude.{ok_or, codes}
use Rattle.std.specs.Result.{result_ok}
use Rattle.std.proofs.lemmas.Bool.{false_from_ne_true}
use Rattle.std.proofs.lemmas.List.{length-take-le, length-drop}
use Rattle.std.proofs.lemmas.Option.{same_Some}
use Rattle.metering_model.specs.Limits.{most_journal_lines}
use Rattle.metering_model.specs.Batch.{Batch}
use Rattle.metering_model.specs.BatchReading.{Lines, batch_in, fields_in, is_same, lines_in, whole_in, with_line}
use Rattle.metering_model.specs.declared.KeptTextFault.{KeptTextFault}
use Rattle.metering_model.specs.KeptText.{KeptAmong, cut_in, kept_in, kept_text, text_of_lines}
use Rattle.metering_model.proofs.FieldLaws.{same_read}
use Rattle.metering_model.proofs.KeptLaws.{kept_read}
use Rattle.byte_text.specs.Lines.{IsPast}
use Rattle.byte_text.proofs.PastLines.{front_length, other_rest, same_front, text_of_front}
use Rattle.packet_text.specs.PacketText.{lines_of_batch}
use Rattle.packet_text.proofs.OptionSteps.{chosen_first}
use Rattle.log_text.specs.LogText.{ReadBase, Increment, BeginsRound, SetsBallots, Learns, Takes, LogCode, LogTextFault, BadIncrement, BadKept, Torn, acceptor_of, at_log_line, ballots_in, base_in, first_increment, learned_in, line_increment_in}
use Rattle.log_text.specs.LogText.{lines_of_increment, most_kept_lines, round_in, section_in, vote_in, without_base}
use Rattle.log_text.specs.declared.faults.LogFault.{LogFault}
use Rattle.log_text.specs.declared.faults.LogFault.TheVariants.{Refused, OutOfMemory}
use Rattle.log_text.specs.declared.faults.Unread.{Unread}
use Rattle.log_text.specs.declared.faults.Unread.TheVariants.{NotThere, NoMemory}
use Rattle.log_text.specs.Inner.Reading.{IfNotThere, IfTold, IsBaseText, IsFirst, base_before, base_of, batch_of_text, fault_at, kept_of_text}
use Rattle.log_text.proofs.IncrementLaws.{section_read, there}

-- ---- the word of a line

abbrev section_of : (most : ℕ) → Option (List ℕ) → Option ℕ
section_of most o = elim o [ None ↦ None | Some number ↦ whole_in 1 most number ]

-- a line shorter than the word does not begin with it
pub too_short : (line word : List ℕ) (most : ℕ) → length line < length word → section_in word most line ≡ None
too_short line word most low =
    let other : is_same (take (length word) line) word ≡ false =
    false_from_ne_true _ (λ e. let same = ap length (same_read (take (length word) line) word e) in omega (arith, same, low, length-take (length word) line)) in
    ap (λ b. section_of most (cond b (Some (drop (length word) line)) None)) other

pub other_word : (line word front : List ℕ) (most : ℕ) → front ≡ take (length word) line → is_same front word ≡ false → section_in word most line ≡ None
other_word line word front most is other = ap (λ b. section_of most (cond b (Some (drop (length word) line)) None)) (ap (λ t. is_same t word) (sym is) ∙ other)

pub that_word : (line word front behind : List ℕ) (most : ℕ) → front ≡ take (length word) line → behind ≡ drop (length word) line → is_same front word ≡ true → section_in word most line ≡ whole_in 1 most behind
that_word line word front behind most is left same =
    ap (λ b. section_of most (cond b (Some (drop (length word) line)) None)) (ap (λ t. is_same t word) (sym is) ∙ same) ∙ ap (whole_in 1 most) (sym left)

-- ---- a text behind so many lines

pub few_lines : (n m : ℕ) → m < n → nat_le n m ≡ false
few_lines n m low = search (arith, low)

module _ (text : List ℕ) (n at : ℕ) (past : IsPast text n at) where
  -- the bytes before are the first lines
  pub front_is : (front : List ℕ) → front ≡ take at text → front ≡ text_of_lines (take n (lines_in text).lines)
  front_is front e = e ∙ ap (λ m. take m text) past.place ∙ text_of_front n text

  pub left_lines : (left : List ℕ) → left ≡ drop at text → (lines_in left).lines ≡ drop n (lines_in text).lines
  left_lines left e = ap (λ t. (lines_in t).lines) e ∙ past.lines

  pub left_rest : (left : List ℕ) → left ≡ drop at text → (lines_in left).rest ≡ (lines_in text).rest
  left_rest left e = ap (λ t. (lines_in t).rest) e ∙ ap (λ m. (lines_in (drop m text)).rest) past.place ∙ other_rest n text

  pub left_count : (left : List ℕ) → left ≡ drop at text → n + length (lines_in left).lines ≡ length (lines_in text).lines
  left_count left e =
      let same = ap length (left_lines left e) ∙ length-drop n (lines_in text).lines in
      let enough = past.enough in
      omega (arith, same, enough)

  -- so many lines are there
  pub front_count : (front : List ℕ) → front ≡ take at text → n ≡ length (lines_in front).lines
  front_count front e =
      let first = take n (lines_in text).lines in
      let whole : front ≡ take (front_length n text) text ++ [] = e ∙ ap (λ m. take m text) past.place ∙ sym (append-nil (take (front_length n text) text)) in
      sym (ap (λ t. length (lines_in t).lines) whole ∙ ap (λ (x : Lines). length x.lines) (same_front n text []) ∙ ap length (append-nil first) ∙ length-take-le n (lines_in text).lines past.enough)

  pub are_enough : nat_le n (length (lines_in text).lines) ≡ true
  are_enough = le-leb _ _ past.enough

-- ---- an increment

-- the increment that is one line, if there is one, has one
abbrev IsOne : Option Increment → Type 0
IsOne o = elim o [ None ↦ Unit {0} | Some i ↦ lines_of_increment i ≡ 1 ]

one_mapped : {A : Type 0} (f : A → Increment) → ((x : A) → lines_of_increment (f x) ≡ 1) → (o : Option A) → IsOne (option_map f o)
one_mapped f one None = tt
one_mapped f one (Some x) = one x

one_there : {A : Type 0} (f : A → Option Increment) → ((x : A) → IsOne (f x)) → (o : Option A) → IsOne (elim o [ None ↦ None | Some x ↦ f x ])
one_there f one None = tt
one_there f one (Some x) = one x

one_of_two : (b : Bool) (o p : Option Increment) → IsOne o → IsOne p → IsOne (cond b o p)
one_of_two true o p one other = one
one_of_two false o p one other = other

one_round : (fs : List (List ℕ)) → IsOne (round_in fs)
one_round [] = tt
one_round (f ∷ []) = one_mapped BeginsRound (λ n. refl) (whole_in 1 10_000 f)
one_round (f ∷ g ∷ fs) = tt

one_ballots : (agents : ℕ) (fs : List (List ℕ)) → IsOne (ballots_in agents fs)
one_ballots agents [] = tt
one_ballots agents (f ∷ []) = tt
one_ballots agents (f ∷ g ∷ []) = tt
one_ballots agents (f ∷ g ∷ h ∷ fs) =
    one_there _ (λ n. one_there _ (λ p. one_there _ (λ b. one_mapped (λ vote. SetsBallots n (acceptor_of p vote)) (λ v. refl) (vote_in agents b fs)) (whole_in 0 990_098 h)) (whole_in 0 990_098 g)) (whole_in 0 1_199 f)

one_learned : (agents : ℕ) (fs : List (List ℕ)) → IsOne (learned_in agents fs)
one_learned agents [] = tt
one_learned agents (f ∷ fs) = one_there _ (λ n. one_mapped (Learns n) (λ cut. refl) (cut_in agents fs)) (whole_in 0 1_199 f)

is_one : (agents : ℕ) (fs : List (List ℕ)) → IsOne (line_increment_in agents fs)
is_one agents [] = tt
is_one agents (word ∷ fs) =
    one_of_two (is_same word (codes "round")) _ _ (one_round fs)
    (one_of_two (is_same word (codes "ballot")) _ _ (one_ballots agents fs) (one_of_two (is_same word (codes "learned")) _ None (one_learned agents fs) tt))

pub one_line : (agents : ℕ) (fs : List (List ℕ)) (i : Increment) → line_increment_in agents fs ≡ Some i → lines_of_increment i ≡ 1
one_line agents fs i read = subst IsOne read (is_one agents fs)

-- a batch has the lines that are said
pub batch_count : (n : ℕ) (t : List ℕ) (b : Batch) → batch_of_text n t ≡ Some b → n ≡ lines_of_batch b
batch_count n t b read =
    let a = there (result_ok (batch_in t)) (λ c. cond (n == lines_of_batch c) (Some c) None) b read in
    let test = chosen_first (n == lines_of_batch a.0) (Some a.0) b a.2 in
    eqb-true n (lines_of_batch a.0) test.0 ∙ ap lines_of_batch (same_Some a.0 b test.1)

abbrev AnIncrement : Type 0
AnIncrement = Result (Increment × List (List ℕ)) LogCode

abbrev of_batch : List (List ℕ) → ℕ → Option Batch → AnIncrement
of_batch ls n o = ok_or (option_map (λ b. (Takes b, drop n ls)) o) BadIncrement

abbrev if_enough : ℕ → List (List ℕ) → AnIncrement → AnIncrement
if_enough n ls r = cond (nat_le n (length ls)) r (Err Torn)

abbrev by_section : (agents : ℕ) (l : List ℕ) (ls : List (List ℕ)) → Option ℕ → AnIncrement
by_section agents l ls o = elim o [
  | Some n ↦ if_enough n ls (of_batch ls n (batch_of_text n (text_of_lines (take n ls))))
  | None ↦ ok_or (option_map (λ i. (i, ls)) (line_increment_in agents (fields_in l))) BadIncrement
]

module _ (agents : ℕ) (l below : List ℕ) where
  abbrev here : AnIncrement
  here = first_increment agents l (lines_in below).lines

  pub line_first : (i : Increment) → section_in (codes "batch ") most_journal_lines l ≡ None → line_increment_in agents (fields_in l) ≡ Some i → IsFirst agents l below i below
  line_first i none read = record {
    read = ap (by_section agents l (lines_in below).lines) none ∙ ap (λ o. ok_or (option_map (λ i. (i, (lines_in below).lines)) o) BadIncrement) read;
    rest = refl;
    lines_of = ap (λ n. n + length (lines_in below).lines) (one_line agents (fields_in l) i read);
  }

  pub no_line : section_in (codes "batch ") most_journal_lines l ≡ None → line_increment_in agents (fields_in l) ≡ None → here ≡ Err BadIncrement
  no_line none read = ap (by_section agents l (lines_in below).lines) none ∙ ap (λ o. ok_or (option_map (λ i. (i, (lines_in below).lines)) o) BadIncrement) read

  module _ (n : ℕ) (said : section_in (codes "batch ") most_journal_lines l ≡ Some n) where
    pub is_torn : length (lines_in below).lines < n → here ≡ Err Torn
    is_torn low = ap (by_section agents l (lines_in below).lines) said ∙ ap (λ b. cond b (of_batch (lines_in below).lines n (batch_of_text n (text_of_lines (take n (lines_in below).lines)))) (Err Torn)) (few_lines n _ low)

    module _ (at : ℕ) (past : IsPast below n at) (front : List ℕ) (is_front : front ≡ take at below) where
      by_front : here ≡ of_batch (lines_in below).lines n (batch_of_text n front)
      by_front =
          ap (by_section agents l (lines_in below).lines) said
          ∙ ap (λ b. cond b (of_batch (lines_in below).lines n (batch_of_text n (text_of_lines (take n (lines_in below).lines)))) (Err Torn)) (are_enough below n at past)
          ∙ ap (λ t. of_batch (lines_in below).lines n (batch_of_text n t)) (sym (front_is below n at past front is_front))

      pub no_batch : batch_of_text n front ≡ None → here ≡ Err BadIncrement
      no_batch none = by_front ∙ ap (of_batch (lines_in below).lines n) none

      pub batch_first : (b : Batch) (left : List ℕ) → batch_of_text n front ≡ Some b → left ≡ drop at below → IsFirst agents l below (Takes b) left
      batch_first b left read e =
          let count = left_count below n at past left e in
          let many = batch_count n front b read in
          record {
            read =
                by_front
                ∙ ap (of_batch (lines_in below).lines n) read
                ∙ ap (λ ls. Ok (Takes b, ls)) (sym (left_lines below n at past left e));
            rest = left_rest below n at past left e;
            lines_of = omega (arith, count, many);
          }

-- ---- what is kept at first

-- a text of what is kept has its own lines
module _ (agents n : ℕ) (t : List ℕ) (counted : n ≡ length (lines_in t).lines) where
  kept_by : (k : KeptAmong) → kept_in t ≡ Ok k → kept_of_text agents n t ≡ cond (k.agents == agents) (Some k) None
  kept_by k h =
      ap (λ (r : Result KeptAmong KeptTextFault). elim (result_ok r) [ None ↦ None | Some k ↦ cond (n == length (lines_in (kept_text k)).lines && (k.agents == agents)) (Some k) None ]) h
      ∙ ap (λ b. cond (b && (k.agents == agents)) (Some k) None) (eq-eqb n _ (counted ∙ ap (λ s. length (lines_in s).lines) (kept_read t k h).joined))

  pub kept_of : (k : KeptAmong) (a : ℕ) → kept_in t ≡ Ok k → a ≡ k.agents → a ≡ agents → kept_of_text agents n t ≡ Some k
  kept_of k a h is same = kept_by k h ∙ ap (λ b. cond b (Some k) None) (eq-eqb k.agents agents (sym is ∙ same))

  pub of_others : (k : KeptAmong) (a : ℕ) → kept_in t ≡ Ok k → a ≡ k.agents → (a == agents) ≡ false → kept_of_text agents n t ≡ None
  of_others k a h is other = kept_by k h ∙ ap (λ b. cond b (Some k) None) (ap (λ m. m == agents) (sym is) ∙ other)

  pub none_kept : (f : KeptTextFault) → kept_in t ≡ Err f → kept_of_text agents n t ≡ None
  none_kept f h = ap (λ (r : Result KeptAmong KeptTextFault). elim (result_ok r) [ None ↦ None | Some k ↦ cond (n == length (lines_in (kept_text k)).lines && (k.agents == agents)) (Some k) None ]) h

abbrev ABase : Type 0
ABase = Result ReadBase LogCode

abbrev of_kept : List (List ℕ) → ℕ → Option KeptAmong → ABase
of_kept ls n o = ok_or (option_map (λ k. record { kept = k; line = 3 + n; left = drop n ls }) o) BadKept

abbrev kept_if_enough : (agents n : ℕ) → List (List ℕ) → Bool → ABase
kept_if_enough agents n ls enough = cond enough (of_kept ls n (kept_of_text agents n (text_of_lines (take n ls)))) (Err Torn)

-- by how many lines the line below the head says to be below it
abbrev base_by : (agents : ℕ) (l : List ℕ) (ls : List (List ℕ)) → Option ℕ → Result ReadBase LogTextFault
base_by agents l ls o = elim o [ None ↦ Ok (without_base agents (l ∷ ls)) | Some n ↦ at_log_line 2 (kept_if_enough agents n ls (nat_le n (length ls))) ]

-- a base that has lines
some_base : (agents n : ℕ) (t : List ℕ) → 1 ≤ n → base_of agents n t ≡ kept_of_text agents n t
some_base agents zero t some = absurd (omega (arith, some))
some_base agents (suc n) t some = refl

pub nothing_first : (text : List ℕ) → (lines_in text).lines ≡ [] → IsBaseText text 0 [] 2 text
nothing_first text none = record {
  read = λ agents. ap (base_in agents) none ∙ ap (λ ls. Ok (without_base agents ls)) (sym none);
  rest = refl;
  lines_of = refl;
  counted = refl;
}

module _ (text l below : List ℕ) (cut : lines_in text ≡ with_line l (lines_in below)) where
  ls : (lines_in text).lines ≡ l ∷ (lines_in below).lines
  ls = ap (λ (x : Lines). x.lines) cut

  pub no_base : section_in (codes "kept ") most_kept_lines l ≡ None → IsBaseText text 0 [] 2 text
  no_base none = record {
    read = λ agents.
        ap (base_in agents) ls ∙ ap (base_by agents l (lines_in below).lines) none ∙ ap (λ xs. Ok (without_base agents xs)) (sym ls);
    rest = refl;
    lines_of = refl;
    counted = refl;
  }

  module _ (n : ℕ) (said : section_in (codes "kept ") most_kept_lines l ≡ Some n) where
    by_said : (agents : ℕ) → base_in agents (lines_in text).lines ≡ at_log_line 2 (kept_if_enough agents n (lines_in below).lines (nat_le n (length (lines_in below).lines)))
    by_said agents = ap (base_in agents) ls ∙ ap (base_by agents l (lines_in below).lines) said

    pub base_torn : length (lines_in below).lines < n → (agents : ℕ) → base_in agents (lines_in text).lines ≡ Err (record { code = Torn; line = 2 })
    base_torn low agents = by_said agents ∙ ap (λ b. at_log_line 2 (kept_if_enough agents n (lines_in below).lines b)) (few_lines n _ low)

    pub base_there : (at : ℕ) → IsPast below n at → (front left : List ℕ) (line : ℕ) → front ≡ take at below → left ≡ drop at below → line ≡ 3 + n → IsBaseText text n front line left
    base_there at past front left line is_front is_left is_line =
        let count = left_count below n at past left is_left in
        let size = ap length ls in
        record {
          read = λ agents.
              by_said agents
              ∙ ap (λ b. at_log_line 2 (kept_if_enough agents n (lines_in below).lines b)) (are_enough below n at past)
              ∙ ap (λ t. at_log_line 2 (of_kept (lines_in below).lines n (kept_of_text agents n t))) (sym (front_is below n at past front is_front))
              ∙ ap (λ o. at_log_line 2 (of_kept (lines_in below).lines n o)) (sym (some_base agents n front (section_read (codes "kept ") most_kept_lines l n (omega arith) said).1))
              ∙ ap₂ (λ m xs. base_before m xs (base_of agents n front)) (sym is_line) (sym (left_lines below n at past left is_left));
          rest = left_rest below n at past left is_left ∙ ap (λ (x : Lines). x.rest) (sym cut);
          lines_of = omega (arith, count, size, is_line);
          counted = front_count below n at past front is_front;
        }

-- ---- faults

-- what is not there is told with the code and the line
pub told_by : (line : ℕ) (code : LogCode) (why : Unread) (fault : LogFault) (P : Type 0) (Q : LogTextFault → Type 0) → fault ≡ fault_at line code why → (P → Q (record { code = code; line = line })) → IfNotThere why P → IfTold fault Q
told_by line code NotThere fault P Q is so p = subst (λ (x : LogFault). IfTold x Q) (sym is) (so p)
told_by line code NoMemory fault P Q is so p = subst (λ (x : LogFault). IfTold x Q) (sym is) tt

-- what is said of what is not there may be said otherwise
pub unread_so : (why : Unread) (P Q : Type 0) → (P → Q) → IfNotThere why P → IfNotThere why Q
unread_so NotThere P Q so p = so p
unread_so NoMemory P Q so p = tt

-- what is said of a fault may be said otherwise
pub told_so : (fault : LogFault) (P Q : LogTextFault → Type 0) → ((f : LogTextFault) → P f → Q f) → IfTold fault P → IfTold fault Q
told_so (Refused code line) P Q so p = so (record { code = code; line = line }) p
told_so OutOfMemory P Q so p = tt
