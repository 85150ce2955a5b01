-- What a reader makes of a text that is UTF-8, or not.
use Rattle.std.proofs.Common.{◌≡◌, ℕ, Bool, true, false, List, Result, Ok, Err, refl, ap}
use Rattle.std.specs.Str.{IsUtf8, is_utf8}
use Rattle.std.proofs.lemmas.Str.{IsUtf8-from_is_utf8, is_utf8-from_IsUtf8}
use Rattle.metering_model.specs.FirstFailure.{◌>>=◌, holds_or}
use Rattle.metering_model.proofs.StepLaws.{test_step_from}
use Rattle.input_sections.specs.declared.faults.ScheduleFault.{ScheduleFault}
use Rattle.input_sections.specs.Sections.{told, read_as}

pub not_utf8 : {A E : Type 0} (read : List ℕ → Result A E) (fault : ScheduleFault) (text : List ℕ) → ¬ IsUtf8 text → read_as read fault text ≡ Err fault
unfolding read_as
not_utf8 read fault text none = cases (is_utf8 text) refl
  where
    cases : (b : Bool) → is_utf8 text ≡ b → (holds_or b fault >>= λ _. told fault (read text)) ≡ Err fault
    cases true e = absurd (none (IsUtf8-from_is_utf8 text e))
    cases false e = refl

pub read_well : {A E : Type 0} (read : List ℕ → Result A E) (fault : ScheduleFault) (text : List ℕ) (x : A) → IsUtf8 text → read text ≡ Ok x → read_as read fault text ≡ Ok x
unfolding read_as
read_well read fault text x utf8 is = test_step_from (is_utf8 text) fault _ _ (is_utf8-from_IsUtf8 text utf8) (ap (told fault) is)

pub read_badly : {A E : Type 0} (read : List ℕ → Result A E) (fault : ScheduleFault) (text : List ℕ) (e : E) → IsUtf8 text → read text ≡ Err e → read_as read fault text ≡ Err fault
unfolding read_as
read_badly read fault text e utf8 is = test_step_from (is_utf8 text) fault _ _ (is_utf8-from_IsUtf8 text utf8) (ap (told fault) is)
