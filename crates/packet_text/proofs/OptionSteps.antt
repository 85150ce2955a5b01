-- What a chain of steps, of which each has to find something, tells of each step, and the way back.
use Rattle.std.proofs.Common.{◌↔◌, ◌≡◌, Bool, true, false, cond, Option, Some, None, refl, ap, ◌∙◌}
use Rattle.std.specs.Option.{option_map}
use Rattle.std.specs.Result.{result_ok}
use Rattle.std.specs.Prelude.{Result, Ok, Err}
use Rattle.std.proofs.lemmas.Option.{same_Some, none-some}
use Rattle.packet_text.specs.PacketText.{◌>>=◌, holds}

pub step_some : {A B : Type 0} (o : Option A) (f : A → Option B) (y : B) → (o >>= f) ≡ Some y → (x : A) × (o ≡ Some x) × (f x ≡ Some y)
step_some (Some x) f y h = (x, refl, h)
step_some None f y h = absurd (none-some y h)

-- a step that has to find something
pub step_iff : {A B : Type 0} (o : Option A) (f : A → Option B) (y : B) → ((o >>= f) ≡ Some y) ↔ ((x : A) × (o ≡ Some x) × (f x ≡ Some y))
step_iff o f y = (step_some o f y, λ p. ap (λ r. r >>= f) p.1 ∙ p.2)

test_some : {B : Type 0} (b : Bool) (f : Unit {0} → Option B) (y : B) → (holds b >>= f) ≡ Some y → (b ≡ true) × (f tt ≡ Some y)
test_some true f y h = (refl, h)
test_some false f y h = absurd (none-some y h)

-- a test that has to hold
pub test_iff : {B : Type 0} (b : Bool) (f : Unit {0} → Option B) (y : B) → ((holds b >>= f) ≡ Some y) ↔ ((b ≡ true) × (f tt ≡ Some y))
test_iff b f y = (test_some b f y, λ p. ap (λ t. holds t >>= f) p.0 ∙ p.1)

-- a choice by a test that found something
pub chosen : {A : Type 0} (b : Bool) (first second : Option A) (y : A) (P : Type 0) → (b ≡ true → first ≡ Some y → P) → (second ≡ Some y → P) → cond b first second ≡ Some y → P
chosen true first second y P here later h = here refl h
chosen false first second y P here later h = later h

-- a choice between something and nothing
pub chosen_first : {A : Type 0} (b : Bool) (o : Option A) (y : A) → cond b o None ≡ Some y → (b ≡ true) × (o ≡ Some y)
chosen_first true o y h = (refl, h)
chosen_first false o y h = absurd (none-some y h)

pub mapped_some : {A B : Type 0} (f : A → B) (o : Option A) (y : B) → option_map f o ≡ Some y → (x : A) × (o ≡ Some x) × (f x ≡ y)
mapped_some f (Some x) y h = (x, refl, same_Some (f x) y h)
mapped_some f None y h = absurd (none-some y h)

pub was_ok : {A E : Type 0} (r : Result A E) (x : A) → result_ok r ≡ Some x → r ≡ Ok x
was_ok (Ok y) x h = ap Ok (same_Some y x h)
was_ok (Err e) x h = absurd (none-some x h)
