-- The product of a price and a quantity keeps its width and the limit of a cost. Over plain numbers, since the goals have each width's
-- conversions, and a search reads them all.
use Rattle.std.proofs.Common.{◌≡◌, ◌∙◌, ℕ, ℤ, ◌<◌, ◌*ℤ◌, pos, Option, Some, IsSome, FitsSigned, unsigned_abs, refl, sym, ap, ap₂, subst, arith}
use Rattle.std.proofs.lemmas.Int.{fits_signed_from_abs, to_z-of_z, unsigned_abs-mul}
use Rattle.std.proofs.lemmas.Nat.{mul-lt}
use Rattle.metering_model.specs.NumberText.{cost_limit, delta_limit, price_limit}
use Rattle.rating.proofs.rated.cost_at.Goals as goal
use mir.Syntax.{w64, w128}
use mir.Val.{to_z, of_z}

module _ (price : ℕ) (quantity : ℤ) {x y : ℤ} (low : price < price_limit) (small : unsigned_abs quantity < delta_limit) (x_is : x ≡ pos price) (y_is : y ≡ to_z w64 (of_z w64 quantity)) where
  x_same : to_z w128 (of_z w128 x) ≡ pos price
  x_same = ap (λ (z : ℤ). to_z w128 (of_z w128 z)) x_is ∙ to_z-of_z w128 (pos price) (fits_signed_from_abs w128 (pos price) (omega (arith, low)))

  y_same : to_z w128 (of_z w128 y) ≡ quantity
  y_same =
      ap (λ (z : ℤ). to_z w128 (of_z w128 z)) (y_is ∙ to_z-of_z w64 quantity (fits_signed_from_abs w64 quantity (omega (arith, small))))
      ∙ to_z-of_z w128 quantity (fits_signed_from_abs w128 quantity (omega (arith, small)))

  product : (to_z w128 (of_z w128 x) *ℤ to_z w128 (of_z w128 y)) ≡ pos price *ℤ quantity
  product = ap₂ ◌*ℤ◌ x_same y_same

  below : unsigned_abs (pos price *ℤ quantity) < cost_limit
  below = subst (λ (n : ℕ). n < cost_limit) (sym (unsigned_abs-mul (pos price) quantity)) (mul-lt price (unsigned_abs quantity) price_limit delta_limit low small)

  fits : FitsSigned w128 (to_z w128 (of_z w128 x) *ℤ to_z w128 (of_z w128 y))
  fits = subst (FitsSigned w128) (sym product) (fits_signed_from_abs w128 (pos price *ℤ quantity) (omega (arith, below)))

  units : to_z w128 (of_z w128 (to_z w128 (of_z w128 x) *ℤ to_z w128 (of_z w128 y))) ≡ pos price *ℤ quantity
  units = to_z-of_z w128 _ fits ∙ product

  within : unsigned_abs (to_z w128 (of_z w128 (to_z w128 (of_z w128 x) *ℤ to_z w128 (of_z w128 y)))) < cost_limit
  within = subst (λ (z : ℤ). unsigned_abs z < cost_limit) (sym units) below

-- what was made is what is unwrapped
is_made : {A : Type 0} {r : Option A} {x : A} → r ≡ Some x → IsSome r
is_made {A} made = subst (λ (r : Option A). IsSome r) (sym made) refl

unwrapped : {A : Type 0} {r : Option A} {x y : A} → r ≡ Some x → r ≡ Some y → y ≡ x
unwrapped made out = cc

pub overflow_mul-units : goal.overflow_mul-units
overflow_mul-units c = fits c.millionths-price.result c.millionths.result c.millionths-price.ensures.within c.millionths.ensures.within c.from.ensures c.from-2.ensures

pub unwrap-requires : goal.unwrap-requires
unwrap-requires c = is_made (c.new.ensures.within (within c.millionths-price.result c.millionths.result c.millionths-price.ensures.within c.millionths.ensures.within c.from.ensures c.from-2.ensures))

pub returns : goal.returns
returns c =
    unwrapped (c.new.ensures.within (within c.millionths-price.result c.millionths.result c.millionths-price.ensures.within c.millionths.ensures.within c.from.ensures c.from-2.ensures)) c.unwrap.ensures
    ∙ units c.millionths-price.result c.millionths.result c.millionths-price.ensures.within c.millionths.ensures.within c.from.ensures c.from-2.ensures
    ∙ ap₂ (λ (p : ℕ) (q : ℤ). pos p *ℤ q) c.millionths-price.ensures.value c.millionths.ensures.value
