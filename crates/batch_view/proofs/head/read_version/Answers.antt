-- The name of a format is two bytes.
use Rattle.std.proofs.Common.{◌≡◌, ℕ, ◌<◌, ◌≤◌, ◌&&◌, Bool, true, false, None, List, [], ◌∷◌, length, refl, sym, arith}
use Rattle.metering_model.specs.BatchReading.{version_in}
use Rattle.batch_view.proofs.head.read_version.Goals as goal

not_both : (b : Bool) → (b && false) ≡ false
not_both true = refl
not_both false = refl

short_name : (t : List ℕ) → length t < 2 → version_in t ≡ None
short_name [] h = refl
short_name (c ∷ []) h = simp not_both
short_name (c ∷ d ∷ ds) h = absurd (omega arith)

long_name : (t : List ℕ) → 3 ≤ length t → version_in t ≡ None
long_name [] h = absurd (omega arith)
long_name (c ∷ []) h = absurd (omega arith)
long_name (c ∷ d ∷ []) h = absurd (omega arith)
long_name (c ∷ d ∷ e ∷ es) h = simp not_both

pub returns-in_default : goal.returns-in_default
returns-in_default c = sym (short_name c.args.text.now c.in_default.len_below)

pub returns-in_default-4 : goal.returns-in_default-4
returns-in_default-4 c = sym (long_name c.args.text.now c.in_default.len_at_least)
