-- What a chain of steps that may fail tells of each step where it answers `Ok`, and the way back.
use Rattle.std.proofs.Common.{◌↔◌, ◌≡◌, Bool, true, false, ◌&&◌, Option, Some, None, Result, Ok, Err, ok_or, refl, ap, ◌∙◌}
use Rattle.std.proofs.lemmas.Bool.{and_parts, and_from}
use Rattle.metering_model.specs.FirstFailure.{◌>>=◌, holds_or}

-- the first step answered, and the rest answered with it
pub step_ok : {A B E : Type 0} (r : Result A E) (f : A → Result B E) (y : B) → (r >>= f) ≡ Ok y → (x : A) × (r ≡ Ok x) × (f x ≡ Ok y)
step_ok (Ok x) f y h = (x, refl, h)
step_ok (Err e) f y h = absurd (cc)

-- an option that had to be there was
pub some_step : {A B E : Type 0} (o : Option A) (e : E) (f : A → Result B E) (y : B) → (ok_or o e >>= f) ≡ Ok y → (x : A) × (o ≡ Some x) × (f x ≡ Ok y)
some_step (Some x) e f y h = (x, refl, h)
some_step None e f y h = absurd (cc)

-- a test that had to hold did
pub test_step : {B E : Type 0} (b : Bool) (e : E) (f : Unit {0} → Result B E) (y : B) → (holds_or b e >>= f) ≡ Ok y → (b ≡ true) × (f tt ≡ Ok y)
test_step true e f y h = (refl, h)
test_step false e f y h = absurd (cc)

-- the way back: what each of two steps answers, their chain answers
pub ok_step_from : {A B E : Type 0} (r : Result A E) (f : A → Result B E) (x : A) (y : Result B E) → r ≡ Ok x → f x ≡ y → (r >>= f) ≡ y
ok_step_from r f x y h k = ap (λ s. s >>= f) h ∙ k

pub some_step_from : {A B E : Type 0} (o : Option A) (e : E) (f : A → Result B E) (x : A) (y : Result B E) → o ≡ Some x → f x ≡ y → (ok_or o e >>= f) ≡ y
some_step_from o e f x y h k = ap (λ s. ok_or s e >>= f) h ∙ k

pub test_step_from : {B E : Type 0} (b : Bool) (e : E) (f : Unit {0} → Result B E) (y : Result B E) → b ≡ true → f tt ≡ y → (holds_or b e >>= f) ≡ y
test_step_from b e f y h k = ap (λ s. holds_or s e >>= f) h ∙ k

-- ---- the same both ways, for `simp` to take a whole chain apart or to put it together

-- a step that may fail
pub step_iff : {A B E : Type 0} (r : Result A E) (f : A → Result B E) (y : B) → ((r >>= f) ≡ Ok y) ↔ ((x : A) × (r ≡ Ok x) × (f x ≡ Ok y))
step_iff r f y = (step_ok r f y, λ p. ok_step_from r f p.0 (Ok y) p.1 p.2)

-- a step that wants an option to be there
pub some_iff : {A B E : Type 0} (o : Option A) (e : E) (f : A → Result B E) (y : B) → ((ok_or o e >>= f) ≡ Ok y) ↔ ((x : A) × (o ≡ Some x) × (f x ≡ Ok y))
some_iff o e f y = (some_step o e f y, λ p. some_step_from o e f p.0 (Ok y) p.1 p.2)

-- a step that wants a test to hold
pub test_iff : {B E : Type 0} (b : Bool) (e : E) (f : Unit {0} → Result B E) (y : B) → ((holds_or b e >>= f) ≡ Ok y) ↔ ((b ≡ true) × (f tt ≡ Ok y))
test_iff b e f y = (test_step b e f y, λ p. test_step_from b e f (Ok y) p.0 p.1)

-- two tests hold where each does
pub and_iff : (a b : Bool) → ((a && b) ≡ true) ↔ ((a ≡ true) × (b ≡ true))
and_iff a b = (and_parts a b, λ p. and_from a b p.0 p.1)

-- one answer has one value
pub ok_same : {A E : Type 0} (x y : A) → ◌≡◌ {A = Result A E} (Ok x) (Ok y) → x ≡ y
ok_same x y h = cc
