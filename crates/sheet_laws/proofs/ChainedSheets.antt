-- One longer sheet after another.
use Rattle.std.proofs.Common.{◌≡◌, ◌∙◌, ℕ, List, Option, Some, None, ℤ, ◌<ℤ◌, ◌≤ℤ◌, refl, ap, arith, option_map}
use Rattle.std.proofs.lemmas.Int.{ints}
use Rattle.std.proofs.lemmas.Option.{same_Some, none-some}
use Rattle.metering_model.specs.Sheet.{PriceRow, Sheet}
use Rattle.metering_model.specs.PriceInForce.{price_in_force}
use Rattle.sheet_laws.specs.Longer.{GoesOnFrom, NamesAlike, without_from}

-- a price that is there as that one, but for its day
there_as : (o : Option PriceRow) (p : PriceRow) → option_map without_from o ≡ Some (without_from p) → (q : PriceRow) × (o ≡ Some q) × (without_from q ≡ without_from p)
there_as None p is = absurd (none-some (without_from p) is)
there_as (Some q) p is = (q, refl, same_Some (without_from q) (without_from p) is)

sooner : (a b c : ℤ) → a <ℤ b → b ≤ℤ c → a <ℤ c
sooner a b c h k = grind (arith, ints)

pub chained : (day : ℤ) (first second third : Sheet) → GoesOnFrom day first second → GoesOnFrom day second third → GoesOnFrom day first third
chained day first second third one two = record {
  base = two.base ∙ one.base;
  prices = λ sku before p early is.
      let q = there_as (price_in_force second sku before) p (one.prices sku before p early is) in
      two.prices sku before q.0 early q.1 ∙ ap Some q.2;
  commitments = λ id c is. two.commitments id c (one.commitments id c is);
}

pub earlier : (day before : ℤ) (old new : Sheet) → before ≤ℤ day → GoesOnFrom day old new → GoesOnFrom before old new
earlier day before old new order it = record {
  base = it.base;
  prices = λ sku on p early is. it.prices sku on p (sooner on before day early order) is;
  commitments = it.commitments;
}

pub names : (first second third : Sheet) (id : List ℕ) → NamesAlike first second id → NamesAlike second third id → NamesAlike first third id
names first second third id one two = two ∙ one
