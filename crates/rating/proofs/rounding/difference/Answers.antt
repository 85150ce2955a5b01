-- The difference of two values keeps its width and its limit.
use Rattle.std.proofs.Common.{◌≡◌, ◌∙◌, ℤ, ◌<◌, ◌-ℤ◌, Option, Some, IsSome, FitsSigned, unsigned_abs, refl, sym, ap₂, subst, arith}
use Rattle.std.proofs.lemmas.Int.{fits_signed_from_abs, ints, to_z-of_z}
use Rattle.metering_model.specs.NumberText.{delta_limit, value_limit}
use Rattle.rating.proofs.rounding.difference.Goals as goal
use mir.Syntax.{w64}
use mir.Val.{to_z, of_z}

module _ (now was : ℤ) (now_small : unsigned_abs now < value_limit) (was_small : unsigned_abs was < value_limit) where
  same : (to_z w64 (of_z w64 now) -ℤ to_z w64 (of_z w64 was)) ≡ now -ℤ was
  same =
      ap₂ ◌-ℤ◌ (to_z-of_z w64 now (fits_signed_from_abs w64 now (omega (arith, now_small))))
      (to_z-of_z w64 was (fits_signed_from_abs w64 was (omega (arith, was_small))))

  below : unsigned_abs (now -ℤ was) < delta_limit
  below = omega (arith, ints, now_small, was_small)

  fits : FitsSigned w64 (to_z w64 (of_z w64 now) -ℤ to_z w64 (of_z w64 was))
  fits = subst (FitsSigned w64) (sym same) (fits_signed_from_abs w64 (now -ℤ was) (omega (arith, below)))

  units : to_z w64 (of_z w64 (to_z w64 (of_z w64 now) -ℤ to_z w64 (of_z w64 was))) ≡ now -ℤ was
  units = to_z-of_z w64 _ fits ∙ same

  within : unsigned_abs (to_z w64 (of_z w64 (to_z w64 (of_z w64 now) -ℤ to_z w64 (of_z w64 was)))) < delta_limit
  within = subst (λ (z : ℤ). unsigned_abs z < delta_limit) (sym units) below

-- what was made is what is unwrapped
is_made : {A : Type 0} {r : Option A} {x : A} → r ≡ Some x → IsSome r
is_made {A} made = subst (λ (r : Option A). IsSome r) (sym made) refl

unwrapped : {A : Type 0} {r : Option A} {x y : A} → r ≡ Some x → r ≡ Some y → y ≡ x
unwrapped made out = cc

pub overflow_sub-millionths : goal.overflow_sub-millionths
overflow_sub-millionths c = fits c.millionths.result c.millionths-2.result c.millionths.ensures.within c.millionths-2.ensures.within

pub unwrap-requires : goal.unwrap-requires
unwrap-requires c = is_made (c.new.ensures.within (within c.millionths.result c.millionths-2.result c.millionths.ensures.within c.millionths-2.ensures.within))

pub returns : goal.returns
returns c =
    unwrapped (c.new.ensures.within (within c.millionths.result c.millionths-2.result c.millionths.ensures.within c.millionths-2.ensures.within)) c.unwrap.ensures
    ∙ units c.millionths.result c.millionths-2.result c.millionths.ensures.within c.millionths-2.ensures.within
    ∙ ap₂ ◌-ℤ◌ c.millionths.ensures.value c.millionths-2.ensures.value
