-- Which fault an answer tells.
use Rattle.std.proofs.Common.{◌≡◌, ℕ, ◌<◌, Bool, true, false, Result, Err, refl, ap, arith, leb-true}
use Rattle.std.specs.Prelude.{nat_le}
use Rattle.metering_model.specs.FirstFailure.{◌>>=◌}
use Rattle.metering_model.specs.declared.Refusal.{Refusal}
use Rattle.input_sections.specs.declared.faults.ScheduleFault.{ScheduleFault}
use Rattle.program_input.specs.declared.faults.PlayFault.{PlayFault}
use Rattle.program_input.specs.declared.faults.PlayFault.TheVariants.{Schedule, Refused}

-- a step that fails is the answer
pub first_fails : {A B E : Type 0} (r : Result A E) (f : A → Result B E) (e : E) → r ≡ Err e → (r >>= f) ≡ Err e
first_fails r f e is = ap (λ x. x >>= f) is

pub is_longer : (n most : ℕ) → most < n → nat_le n most ≡ false
is_longer n most longer = cases (nat_le n most) refl
  where
    cases : (b : Bool) → nat_le n most ≡ b → nat_le n most ≡ false
    cases true e = absurd (omega (arith, leb-true n most e))
    cases false e = e

abbrev section_told : {T : Type 0} → Result T PlayFault → ScheduleFault → ScheduleFault
section_told (Err (Schedule fault)) other = fault
section_told r other = other

pub same_section : {T : Type 0} (x y : ScheduleFault) → ◌≡◌ {A = Result T PlayFault} (Err (Schedule x)) (Err (Schedule y)) → x ≡ y
same_section x y is = ap (λ r. section_told r x) is

abbrev refusal_told : {T : Type 0} → Result T PlayFault → Refusal → Refusal
refusal_told (Err (Refused refusal)) other = refusal
refusal_told r other = other

pub same_refusal : {T : Type 0} (x y : Refusal) → ◌≡◌ {A = Result T PlayFault} (Err (Refused x)) (Err (Refused y)) → x ≡ y
same_refusal x y is = ap (λ r. refusal_told r x) is
