-- What texts that are written one after the other do to a sink.
use Rattle.std.proofs.Common.{ℕ, ◌≡◌, List, [], ◌++◌, Option, sym, ap, ◌∙◌, append_assoc, arith, subst}
use Rattle.std.proofs.lemmas.List.{append-nil}
use Rattle.std.proofs.KnownBytes.{Appends-nil, Appends-trans}
use Rattle.std.specs.Io.KnownBytes.{Appends}
use Rattle.counted_io.specs.Writing.{AppendsPrefix, AppendsSome}
use Rattle.counted_io.proofs.Prefixes.{prefix_behind, prefix_within, some_within}

-- nothing was written
pub none_written : (a : Option (List ℕ)) (all : List ℕ) → AppendsSome a a all
none_written a all = (0, omega arith, Appends-nil a)

-- Behind what was written comes the next text, and then the rest of all.
module _ (a b c : Option (List ℕ)) (written next rest all slice : List ℕ) (is : written ++ (next ++ rest) ≡ all) (same : slice ≡ next) (before : Appends a b written) where
  -- a prefix of the next text went out
  pub next_prefix : AppendsPrefix b c slice → AppendsPrefix a c all
  next_prefix prefix =
      subst (AppendsPrefix a c) is
      (prefix_behind a b c written (next ++ rest) before (prefix_within b c next rest (subst (AppendsPrefix b c) same prefix)))

  -- the next text went out
  pub next_written : Appends b c slice → Appends a c (written ++ next)
  next_written whole = Appends-trans a b c written next before (subst (Appends b c) same whole)

  pub next_some : Appends b c slice → AppendsSome a c all
  next_some whole = subst (AppendsSome a c) (append_assoc written next rest ∙ is) (some_within a c (written ++ next) rest (next_written whole))

  -- and it was the last
  pub last_written : Appends b c slice → rest ≡ [] → Appends a c all
  last_written whole none =
      subst (Appends a c) (sym (append-nil (written ++ next)) ∙ append_assoc written next [] ∙ ap (λ t. written ++ (next ++ t)) (sym none) ∙ is) (next_written whole)

-- The next text was written, and behind it comes what was begun anew.
pub begun_anew : (written next rest all empty text left : List ℕ) → written ++ (next ++ rest) ≡ all → empty ≡ [] → text ++ left ≡ empty ++ rest
    → (written ++ next) ++ (text ++ left) ≡ all
begun_anew written next rest all empty text left is none more =
    ap (λ t. (written ++ next) ++ t) (more ∙ ap (λ t. t ++ rest) none) ∙ append_assoc written next rest ∙ is
