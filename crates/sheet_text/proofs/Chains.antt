-- Chains of steps that may fail, of which one fails or all have answered.
use Rattle.std.proofs.Common.{◌≡◌, ◌≢◌, Result, Ok, Err, refl, ap, sym, subst}
use Rattle.metering_model.specs.FirstFailure.{◌>>=◌}
use Rattle.metering_model.specs.Sheet.{Issuer}
use Rattle.sheet_text.specs.Keys.{KeyFault}
use Rattle.sheet_text.specs.declared.keys.KeyFault.TheVariants as key_faults
use Rattle.sheet_text.specs.declared.faults.IssuerFault.TheVariants as issuer_faults
use Rattle.sheet_text.specs.IssuerReading.{issuer_fault, told}
use Rattle.sheet_text.specs.Gives.{Fails}

-- the step that fails
pub fails_here : {A B : Type 0} (e : KeyFault) (r : Result A KeyFault) (f : A → Result B KeyFault) → Fails e r → Fails e (r >>= f)
fails_here key_faults.OutOfMemory r f h = tt
fails_here (key_faults.Missing key) r f h = ap (λ s. s >>= f) h
fails_here (key_faults.BadValue key) r f h = ap (λ s. s >>= f) h

-- a step before it, which has answered
pub fails_behind : {A B : Type 0} (e : KeyFault) (r : Result A KeyFault) (f : A → Result B KeyFault) (x : A) → r ≡ Ok x → Fails e (f x) → Fails e (r >>= f)
fails_behind e r f x h k = subst (λ s. Fails e (s >>= f)) (sym h) k

pub told_fails : (e : KeyFault) (r : Result Issuer KeyFault) → Fails e r → issuer_fault e ≢ issuer_faults.OutOfMemory → told r ≡ Err (issuer_fault e)
told_fails key_faults.OutOfMemory r h told_apart = absurd (told_apart refl)
told_fails (key_faults.Missing key) r h told_apart = ap told h
told_fails (key_faults.BadValue key) r h told_apart = ap told h
