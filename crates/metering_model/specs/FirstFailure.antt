-- Steps that may fail, one after another: the first failure is the answer.
use Rattle.std.specs.Prelude.{Bool, true, false, Result, Ok, Err}

infixl 10 ◌>>=◌
abbrev pub ◌>>=◌ : {A B E : Type 0} → Result A E → (A → Result B E) → Result B E
(Ok x) >>= f = f x
(Err e) >>= f = Err e

-- goes on where the test holds, and fails with e where it does not
abbrev pub holds_or : {E : Type 0} → Bool → E → Result (Unit {0}) E
holds_or true e = Ok tt
holds_or false e = Err e
