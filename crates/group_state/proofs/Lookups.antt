-- What stands at a place of a list, seen through what each element means.
use Rattle.std.proofs.Common.{◌≡◌, ℕ, ◌<◌, List, length, get_or, map, Option, Some, sym, ap, ◌∙◌}
use Rattle.std.specs.Prelude.{slice_get}
use Rattle.std.specs.Option.{option_map}
use Rattle.std.proofs.lemmas.Option.{slice_get-map, slice_get-get_or}

pub found_at : {A B : Type 0} (f : A → B) (xs : List A) (k : ℕ) (x : A) → k < length xs → x ≡ get_or xs k x → slice_get (map f xs) k ≡ Some (f x)
found_at f xs k x low e = slice_get-map f xs k ∙ ap (option_map f) (slice_get-get_or xs k x low ∙ ap Some (sym e))

-- what an option is seen to have is what it has
pub seen : {A B : Type 0} (f : A → B) (o : Option A) (x : A) (r : Option B) → option_map f o ≡ r → o ≡ Some x → r ≡ Some (f x)
seen f o x r e s = sym e ∙ ap (option_map f) s
