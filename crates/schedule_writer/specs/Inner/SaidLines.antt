-- Whatever is said of an input has a line, and of one that is too long that alone is said. The proofs stand here and not among the
-- others, since an `impl` of this crate hands them on.
use Rattle.std.proofs.Common.{◌≡◌, ◌<◌, ◌≤◌, ◌⊎◌, ℕ, ◌+◌, Bool, true, false, cond, nat_le, List, [], ◌∷◌, ◌++◌, length, take, codes, Result, Ok, Err, refl, sym, ap, subst, ◌∙◌, inl, inr, ⊎_elim, arith}
use Rattle.std.specs.Prelude.{◌==◌}
use Rattle.std.specs.Fmt.{digits}
use Rattle.std.proofs.lemmas.Bool.{leb-true}
use Rattle.std.proofs.lemmas.List.Sums.{sum_by-append}
use Rattle.metering_model.specs.FirstFailure.{◌>>=◌, holds_or}
use Rattle.metering_model.specs.Limits.{most_input_bytes}
use Rattle.metering_model.specs.RatedAlone.{world_before}
use Rattle.metering_model.specs.Step.{step}
use Rattle.metering_model.specs.Transcript.{line, line_count, with_number}
use Rattle.metering_model.specs.World.{World, Reply, Journaled, Delivered, Started, Restarted, Exported, KeptText, Refused}
use Rattle.metering_model.specs.declared.Refusal.{Refusal}
use Rattle.metering_model.specs.declared.Refusal.TheVariants as refusal
use Rattle.input_sections.specs.declared.faults.ScheduleCode.{ScheduleCode}
use Rattle.input_sections.specs.declared.faults.ScheduleCode.TheVariants.{TooLong}
use Rattle.input_sections.specs.declared.faults.ScheduleFault.{ScheduleFault}
use Rattle.input_sections.specs.declared.faults.ScheduleFault.TheVariants as section
use Rattle.input_sections.specs.RateInput.{RateInput, rate_input_in}
use Rattle.input_sections.specs.Sections.{Unread, whole_of}
use Rattle.answer_words.specs.Words.{section_code_text}
use Rattle.fault_lines.specs.Ahead.{ahead_of_all}
use Rattle.fault_lines.specs.Told.{bad_index, line_within, more_words, reason, said_of_fault, words_of}
use Rattle.fault_lines.specs.UnknownKeys.{unknown_on}
use Rattle.schedule_writer.specs.Checks.{journaled_of, said_of_input, told_of_answer, told_of_batches, warned_of_input}
use Rattle.schedule_writer.specs.Inputs.{Offered, batches_of, items_of, line_of}
use Rattle.schedule_writer.specs.Refusals.{answer_to, journal_of, told_of_offered}

-- ---- what is told of a batch is a line

-- what it says, behind the line
abbrev saying : List ℕ → World → Offered → Refusal → List ℕ
saying input w b why =
    with_number (codes "line ") (line_count (take b.from input) + line_within (bad_index w.sheet w.journals b.text) why)
    ++ codes ": " ++ (words_of why ++ more_words w.sheet b.text (bad_index w.sheet w.journals b.text) why)

pub is_line : (input : List ℕ) (w : World) (b : Offered) (why : Refusal) → (told : List ℕ) × (told_of_offered input w b why ≡ line told)
is_line input w b refusal.BadTarget = (saying input w b refusal.BadTarget, refl)
is_line input w b refusal.Unpriced = (saying input w b refusal.Unpriced, refl)
is_line input w b (refusal.BadBatch fault) = (saying input w b (refusal.BadBatch fault), refl)
is_line input w b (refusal.WrongSeq wanted) = (saying input w b (refusal.WrongSeq wanted), refl)
is_line input w b refusal.NoPacket = (saying input w b refusal.NoPacket, refl)
is_line input w b refusal.NoNode = (saying input w b refusal.NoNode, refl)
is_line input w b (refusal.NotClosed learned) = (saying input w b (refusal.NotClosed learned), refl)
is_line input w b (refusal.Missing agent seq) = (saying input w b (refusal.Missing agent seq), refl)
is_line input w b refusal.AllClosed = (saying input w b refusal.AllClosed, refl)
is_line input w b refusal.NoBallot = (saying input w b refusal.NoBallot, refl)
is_line input w b refusal.WorldFull = (with_number (codes "line ") (line_of input b) ++ codes ": " ++ words_of refusal.WorldFull, refl)
is_line input w b refusal.NoAgent = (saying input w b refusal.NoAgent, refl)
is_line input w b refusal.Observer = (saying input w b refusal.Observer, refl)
is_line input w b (refusal.BadKept fault) = (saying input w b (refusal.BadKept fault), refl)
is_line input w b refusal.NotKept = (saying input w b refusal.NotKept, refl)

-- ---- where nothing is told no line is

IsNoneOrLines : List ℕ → Type 0
IsNoneOrLines t = (t ≡ []) ⊎ (1 ≤ line_count t)

one_line : (t : List ℕ) → 1 ≤ line_count (line t)
one_line t = let all = sum_by-append (λ x. cond (x == 10) 1 0) t (10 ∷ []) in omega (arith, all)

none_or_line : (told : List ℕ) (t : List ℕ) → told ≡ line t → IsNoneOrLines told
unfolding IsNoneOrLines
none_or_line told t is = inr (subst (λ x. 1 ≤ line_count x) (sym is) (one_line t))

both : (a b : List ℕ) → IsNoneOrLines a → IsNoneOrLines b → IsNoneOrLines (a ++ b)
unfolding IsNoneOrLines
both a b one two =
    ⊎_elim (λ none. ⊎_elim (λ too. inl (ap (λ x. x ++ b) none ∙ too)) (λ some. inr (behind some)) two) (λ some. inr (before some)) one
  where
    behind : 1 ≤ line_count b → 1 ≤ line_count (a ++ b)
    behind some = let all = sum_by-append (λ x. cond (x == 10) 1 0) a b in omega (arith, all, some)

    before : 1 ≤ line_count a → 1 ≤ line_count (a ++ b)
    before some = let all = sum_by-append (λ x. cond (x == 10) 1 0) a b in omega (arith, all, some)

of_answer : (input : List ℕ) (w : World) (b : Offered) (r : Reply) → IsNoneOrLines (told_of_answer input w b r)
unfolding IsNoneOrLines
of_answer input w b (Refused why) = let told = is_line input w b why in none_or_line (told_of_offered input w b why) told.0 told.1
of_answer input w b (Journaled k) = inl refl
of_answer input w b (Delivered sent learned) = inl refl
of_answer input w b (Started ballot k) = inl refl
of_answer input w b Restarted = inl refl
of_answer input w b (Exported s) = inl refl
of_answer input w b (KeptText text) = inl refl

of_batches : (input : List ℕ) (w : World) (bs : List Offered) → IsNoneOrLines (told_of_batches input w bs)
unfolding IsNoneOrLines
of_batches input w [] = inl refl
of_batches input w (b ∷ bs) =
    both (told_of_answer input w b (answer_to w b.text)) (told_of_batches input (step w (journal_of b)).1 bs) (of_answer input w b (answer_to w b.text))
    (of_batches input (step w (journal_of b)).1 bs)

-- what is told of a section is one too
pub section_line : (input : List ℕ) (code : ScheduleCode) (n : ℕ) → (told : List ℕ) × (said_of_fault input (section.Refused code n) ≡ line told)
section_line input code n = (with_number (codes "line ") n ++ codes ": " ++ (section_code_text code ++ reason input code n), refl)

of_fault : (input : List ℕ) (fault : ScheduleFault) → IsNoneOrLines (said_of_fault input fault)
unfolding IsNoneOrLines
of_fault input (section.Refused code n) = let told = section_line input code n in none_or_line (said_of_fault input (section.Refused code n)) told.0 told.1
of_fault input section.OutOfMemory = inl refl

pub lines_said : (input : List ℕ) → line_count (said_of_input input) ≡ 0 → said_of_input input ≡ []
unfolding said_of_input IsNoneOrLines
lines_said input is = ⊎_elim (λ none. none) (λ some. absurd (omega (arith, is, some))) (by_input (rate_input_in input))
  where
    by_input : (r : Result RateInput ScheduleFault)
        → IsNoneOrLines (elim r [ Ok given ↦ told_of_batches input (world_before given.sheet given.issuer) (batches_of (items_of input given)) | Err fault ↦ said_of_fault input fault ])
    by_input (Ok given) = of_batches input (world_before given.sheet given.issuer) (batches_of (items_of input given))
    by_input (Err fault) = of_fault input fault

-- ---- where the sections are refused

pub said_of_refused : (input : List ℕ) (fault : ScheduleFault) → rate_input_in input ≡ Err fault → said_of_input input ≡ said_of_fault input fault
unfolding said_of_input
said_of_refused input fault is = ap by_input is
  where
    by_input : Result RateInput ScheduleFault → List ℕ
    by_input r = elim r [ Ok given ↦ told_of_batches input (world_before given.sheet given.issuer) (batches_of (items_of input given)) | Err fault ↦ said_of_fault input fault ]

pub warned_of_refused : (input : List ℕ) (fault : ScheduleFault) → rate_input_in input ≡ Err fault → warned_of_input input ≡ []
unfolding warned_of_input
warned_of_refused input fault is = ap by_input is
  where
    by_input : Result RateInput ScheduleFault → List ℕ
    by_input r =
        elim r [
          | Ok given ↦ unknown_on 1 input ++ ahead_of_all [] (journaled_of input (world_before given.sheet given.issuer) (batches_of (items_of input given)))
          | Err fault ↦ []
        ]

-- ---- an input that is too long

first_fails : {A B E : Type 0} (r : Result A E) (f : A → Result B E) (e : E) → r ≡ Err e → (r >>= f) ≡ Err e
first_fails r f e is = ap (λ x. x >>= f) is

is_longer : (n most : ℕ) → most < n → nat_le n most ≡ false
is_longer n most longer = cases (nat_le n most) refl
  where
    cases : (b : Bool) → nat_le n most ≡ b → nat_le n most ≡ false
    cases true e = absurd (omega (arith, leb-true n most e))
    cases false e = e

pub too_long : (input : List ℕ) → most_input_bytes < length input → rate_input_in input ≡ Err (section.Refused TooLong 1)
unfolding rate_input_in
too_long input longer =
    let fault = section.Refused TooLong 1 in
    let u : Unread = record { text = input; from = 0; line = 1 } in
    let whole : whole_of input ≡ Err fault = ap (λ t. holds_or t fault >>= λ (x : Unit {0}). Ok u) (is_longer (length input) most_input_bytes longer) in
    first_fails (whole_of input) _ fault whole

pub said_of_long : (input : List ℕ) → most_input_bytes < length input → (said_of_input input ≡ codes "line 1: L8" ++ 10 ∷ []) × (warned_of_input input ≡ [])
unfolding digits
said_of_long input longer =
    let refused = too_long input longer in (said_of_refused input (section.Refused TooLong 1) refused, warned_of_refused input (section.Refused TooLong 1) refused)
