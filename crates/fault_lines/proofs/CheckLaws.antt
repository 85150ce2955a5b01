-- What is written of an input that is too long: one line.
use Rattle.std.proofs.Common.{◌≡◌, ◌≢◌, ◌⊎◌, inl, inr, ℕ, zero, suc, ◌<◌, false, Result, Ok, Err, IfErr, List, [], ◌∷◌, ◌++◌, length, Option, Some, None, IfSome, codes, refl, sym, ap, ◌∙◌, subst, arith, append-nil}
use Rattle.std.specs.Io.KnownBytes.{Appends}
use Rattle.counted_io.specs.Writing.{AppendsPrefix}
use Rattle.metering_model.specs.Limits.{most_input_bytes}
use Rattle.metering_model.specs.Transcript.{line_count}
use Rattle.program_input.specs.Faults.{RefusesNothing, tells_of_reader}
use Rattle.program_input.specs.declared.faults.PlayFault.{PlayFault}
use Rattle.program_input.specs.declared.faults.PlayFault.TheVariants.{OutOfMemory, Write}
use Rattle.fault_lines.specs.Checked.{IsSaid, SaysLines, SaysTooLong}

-- ---- an input whose bytes are not known, and which is too long

unfoldable zeros : ℕ → List ℕ
zeros zero = []
zeros (suc n) = 0 ∷ zeros n

length-zeros : (n : ℕ) → length (zeros n) ≡ n
unfolding zeros
length-zeros zero = refl
length-zeros (suc n) = ap suc (length-zeros n)

module _ (said_of warned_of : List ℕ → List ℕ) where
  -- Whatever was read of one that is too long, where it is known at all: that is said of it, and of nothing it is warned.
  said_where_long : SaysTooLong said_of warned_of → (known : Option (List ℕ)) → IfSome known (λ input. most_input_bytes < length input)
      → (input : List ℕ) × IsSaid said_of warned_of known input (codes "line 1: L8" ++ 10 ∷ []) []
  said_where_long too_long (Some input) long =
      let says = too_long input long in
      (input, record { is_input = refl; is_said = sym says.0; is_warned = sym says.1 })
  said_where_long too_long None long =
      let input = zeros 16_777_217 in
      let many : most_input_bytes < length input = omega (arith, length-zeros 16_777_217) in
      let says = too_long input many in
      (input, record { is_input = tt; is_said = sym says.0; is_warned = sym says.1 })

  -- what was written of it, whose lines are counted
  pub written_where_long : SaysTooLong said_of warned_of → (known old new : Option (List ℕ)) (count answer : ℕ)
      → IfSome known (λ input. most_input_bytes < length input) → count ≡ 1 → Appends old new (codes "line 1: L8" ++ 10 ∷ []) × (answer ≡ count)
      → (input said warned : List ℕ) × IsSaid said_of warned_of known input said warned × Appends old new (said ++ warned) × (answer ≡ line_count said)
  written_where_long too_long known old new count answer long one done =
      let is = said_where_long too_long known long in
      (is.0, _, _, is.1, subst (Appends old new) (sym (append-nil (codes "line 1: L8" ++ 10 ∷ []))) done.0, done.1 ∙ one)

  pub written_in_part_where_long : SaysTooLong said_of warned_of → (known old new : Option (List ℕ)) → IfSome known (λ input. most_input_bytes < length input)
      → AppendsPrefix old new (codes "line 1: L8" ++ 10 ∷ [])
      → (input said warned : List ℕ) × IsSaid said_of warned_of known input said warned × AppendsPrefix old new (said ++ warned)
  written_in_part_where_long too_long known old new long part =
      let is = said_where_long too_long known long in
      (is.0, _, _, is.1, subst (AppendsPrefix old new) (sym (append-nil (codes "line 1: L8" ++ 10 ∷ []))) part)

-- ---- an answer that tells of a failed write, or of want of memory

abbrev IsOwn : PlayFault → Type 0
IsOwn fault = (fault ≡ Write) ⊎ (fault ≡ OutOfMemory)

abbrev no_answer : PlayFault → Result ℕ PlayFault
no_answer fault = Err fault

pub no_read : (answer : Result ℕ PlayFault) → IfErr answer IsOwn → tells_of_reader answer ≡ false
no_read (Ok count) own = refl
no_read (Err fault) (inl is) = ap (λ (f : PlayFault). tells_of_reader (no_answer f)) is
no_read (Err fault) (inr is) = ap (λ (f : PlayFault). tells_of_reader (no_answer f)) is

pub refuses_nothing : (answer : Result ℕ PlayFault) → IfErr answer IsOwn → RefusesNothing answer
refuses_nothing (Ok count) own = record { no_section = λ fault is. cc; no_refusal = λ refusal is. cc }
refuses_nothing (Err fault) (inl write) = record { no_section = λ other is. cc; no_refusal = λ refusal is. cc }
refuses_nothing (Err fault) (inr memory) = record { no_section = λ other is. cc; no_refusal = λ refusal is. cc }

pub untouched_but_by_writing : {W : Type 0} (answer : Result ℕ PlayFault) (writer writer' : W) → IfErr answer IsOwn → (answer ≡ Err OutOfMemory → writer' ≡ writer)
    → IfErr answer (λ fault. fault ≢ Write → writer' ≡ writer)
untouched_but_by_writing (Ok count) writer writer' own memory = tt
untouched_but_by_writing (Err fault) writer writer' (inl is) memory = λ other. absurd (other is)
untouched_but_by_writing (Err fault) writer writer' (inr is) memory = λ other. memory (ap Err is)

pub one_line_at_least : ◌≡◌ {A = ℕ} 0 1 → ⊥
one_line_at_least none = omega (arith, none)

-- Where no line is counted, nothing is said, and the warnings were written alone.
pub ahead_alone : (said_of warned_of : List ℕ → List ℕ) (known old new : Option (List ℕ)) → SaysLines said_of → (input : List ℕ) → IsSaid said_of warned_of known input (said_of input) (warned_of input)
    → Appends old new (said_of input ++ warned_of input) × (0 ≡ line_count (said_of input)) → (text warned : List ℕ) × IsSaid said_of warned_of known text [] warned × Appends old new warned
ahead_alone said_of warned_of known old new lines input whole done =
    let none = lines input (sym done.1) in
    (input, warned_of input, record { is_input = whole.is_input; is_said = sym none; is_warned = refl }, subst (λ t. Appends old new (t ++ warned_of input)) none done.0)
