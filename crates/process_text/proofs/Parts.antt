-- A text that is written in parts.
use Rattle.std.proofs.Common.{◌≡◌, ℕ, List, ◌++◌, Option, Result, Ok, Err, OnErr, subst}
use Rattle.std.specs.Io.KnownBytes.{Appends}
use Rattle.counted_io.specs.Writing.{AppendsPrefix}
use Rattle.counted_io.proofs.Prefixes.{prefix_behind}

-- what failed behind a text that went out whole left a prefix of both
pub prefix_of_both : {A E : Type 0} (r : Result A E) (a b c : Option (List ℕ)) (text file whole : List ℕ) → text ++ file ≡ whole → Appends a b text
    → OnErr r (AppendsPrefix b c file) → OnErr r (AppendsPrefix a c whole)
prefix_of_both (Ok x) a b c text file whole is written prefix = tt
prefix_of_both (Err e) a b c text file whole is written prefix = subst (AppendsPrefix a c) is (prefix_behind _ _ _ _ _ written prefix)
