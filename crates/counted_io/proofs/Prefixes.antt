-- What texts that are written one after the other do to a sink.
use Rattle.std.proofs.Common.{ℕ, ◌+◌, List, ◌++◌, Option, length, take, sym, ◌∙◌, arith, subst}
use Rattle.std.proofs.lemmas.List.{length-append, take-append-le}
use Rattle.std.proofs.Math.Seq.{take-append-add, take-length}
use Rattle.std.proofs.KnownBytes.{Appends-trans}
use Rattle.std.specs.Io.KnownBytes.{Appends}
use Rattle.counted_io.specs.Writing.{AppendsPrefix, AppendsSome}

module _ (a b c : Option (List ℕ)) (xs ys : List ℕ) where
  -- a prefix behind a whole text is a prefix of both
  pub prefix_behind : Appends a b xs → AppendsPrefix b c ys → AppendsPrefix a c (xs ++ ys)
  prefix_behind before after =
      let short = after.1 in (
        length xs + after.0,
        omega (arith, length-append xs ys, short),
        subst (Appends a c) (sym (take-append-add xs ys after.0)) (Appends-trans a b c xs (take after.0 ys) before after.2),
      )

  pub some_behind : Appends a b xs → AppendsSome b c ys → AppendsSome a c (xs ++ ys)
  some_behind before after =
      let short = after.1 in (
        length xs + after.0,
        omega (arith, length-append xs ys, short),
        subst (Appends a c) (sym (take-append-add xs ys after.0)) (Appends-trans a b c xs (take after.0 ys) before after.2),
      )

module _ (a b : Option (List ℕ)) (xs ys : List ℕ) where
  -- a prefix of a text is one of the text with more behind it
  pub prefix_within : AppendsPrefix a b xs → AppendsPrefix a b (xs ++ ys)
  prefix_within prefix =
      let short = prefix.1 in (
        prefix.0,
        omega (arith, length-append xs ys, short),
        subst (Appends a b) (sym (take-append-le prefix.0 xs ys (omega (arith, short)))) prefix.2,
      )

  -- a whole text is a prefix of the text with more behind it
  pub some_within : Appends a b xs → AppendsSome a b (xs ++ ys)
  some_within all = (
    length xs,
    omega (arith, length-append xs ys),
    subst (Appends a b) (sym (take-append-le (length xs) xs ys (omega arith) ∙ take-length xs)) all,
  )
