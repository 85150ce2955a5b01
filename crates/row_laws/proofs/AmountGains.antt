-- Costs and quantities: a charge from one value to another is the charge at the one value less that at the other.
use Rattle.std.proofs.Common.{◌≡◌, ℕ, ◌<◌, ltb, Option, Some, None, ℤ, pos, ◌-ℤ◌, refl, sym, ap, ◌∙◌, arith}
use Rattle.std.proofs.lemmas.Bool.{cond-true, lt-ltb}
use Rattle.std.proofs.lemmas.Int.{ints}
use Rattle.metering_model.specs.Batch.{Reading}
use Rattle.metering_model.specs.Sheet.{Sheet, Issuer, PriceRow, Commitment}
use Rattle.metering_model.specs.declared.PricedKind.{PricedKind}
use Rattle.metering_model.specs.declared.PricedKind.TheVariants.{Usage, Purchase}
use Rattle.metering_model.specs.Rating.{rated, flat, cost_at, pricing_quantity}
use Rattle.metering_model.specs.Holding.{Holding, Position}
use Rattle.metering_model.specs.ValueAtSequence.{value_at}
use Rattle.metering_model.specs.declared.ChargeClass.{ChargeClass}
use Rattle.metering_model.specs.declared.ChargeClass.TheVariants.{New, Correction}
use Rattle.metering_model.specs.Row.{Row, row, charge, priced_kind, price_of, commitment_of}
use Rattle.metering_model.specs.Totals.{Amounts, amounts_of}
use Rattle.row_laws.specs.Charged.{charged_at_once}
use Rattle.row_laws.proofs.Sums.{times_minus}
use Rattle.row_laws.proofs.ColumnGains.{GrowsBy}

difference : (z a b : ℤ) → a -ℤ b ≡ (a -ℤ z) -ℤ (b -ℤ z)
difference z a b = omega (arith, ints)

cost_difference : (p : ℕ) (z a b : ℤ) → cost_at p (a -ℤ b) ≡ cost_at p (a -ℤ z) -ℤ cost_at p (b -ℤ z)
cost_difference p z a b = ap (cost_at p) (difference z a b) ∙ times_minus p (a -ℤ z) (b -ℤ z)

-- Each amount of x is that of y less that of z.
pub record IsDifference (x y z : Amounts) : Type 0 where
  pub consumed : x.consumed ≡ y.consumed -ℤ z.consumed
  pub priced : x.priced ≡ y.priced -ℤ z.priced
  pub list : x.list ≡ y.list -ℤ z.list
  pub contracted : x.contracted ≡ y.contracted -ℤ z.contracted
  pub billed : x.billed ≡ y.billed -ℤ z.billed
  pub effective : x.effective ≡ y.effective -ℤ z.effective

flat_difference : (was now : ℤ) → IsDifference (amounts_of (flat was now)) (amounts_of (flat (pos 0) now)) (amounts_of (flat (pos 0) was))
flat_difference was now =
    let cost = cost_difference 1_000_000 (pos 0) now was in
    record { consumed = refl; priced = refl; list = cost; contracted = cost; billed = cost; effective = cost }

rated_difference : (p : PriceRow) (c : Option Commitment) (kind : PricedKind) (was now : ℤ) →
    IsDifference (amounts_of (rated p c kind was now)) (amounts_of (rated p c kind (pos 0) now)) (amounts_of (rated p c kind (pos 0) was))
rated_difference p None Usage was now =
    let base = pricing_quantity p.per (pos 0) in
    let q = λ (price : ℕ). cost_difference price base (pricing_quantity p.per now) (pricing_quantity p.per was) in
    record { consumed = difference (pos 0) now was; priced = difference base (pricing_quantity p.per now) (pricing_quantity p.per was); list = q p.list; contracted = q p.contracted; billed = q p.contracted; effective = q p.contracted }
rated_difference p (Some c) Usage was now =
    let base = pricing_quantity p.per (pos 0) in
    let q = λ (price : ℕ). cost_difference price base (pricing_quantity p.per now) (pricing_quantity p.per was) in
    record { consumed = difference (pos 0) now was; priced = difference base (pricing_quantity p.per now) (pricing_quantity p.per was); list = q p.list; contracted = q p.contracted; billed = refl; effective = q c.rate }
rated_difference p None Purchase was now =
    let base = pricing_quantity p.per (pos 0) in
    let q = λ (price : ℕ). cost_difference price base (pricing_quantity p.per now) (pricing_quantity p.per was) in
    record { consumed = refl; priced = difference base (pricing_quantity p.per now) (pricing_quantity p.per was); list = q p.list; contracted = q p.contracted; billed = q p.contracted; effective = q p.contracted }
rated_difference p (Some c) Purchase was now =
    let base = pricing_quantity p.per (pos 0) in
    let q = λ (price : ℕ). cost_difference price base (pricing_quantity p.per now) (pricing_quantity p.per was) in
    record { consumed = refl; priced = difference base (pricing_quantity p.per now) (pricing_quantity p.per was); list = q p.list; contracted = q p.contracted; billed = q p.contracted; effective = refl }

pub charge_difference : (kind : Option PricedKind) (price : Option PriceRow) (c : Option Commitment) (was now : ℤ) →
    IsDifference (amounts_of (charge kind price c was now)) (amounts_of (charge kind price c (pos 0) now)) (amounts_of (charge kind price c (pos 0) was))
charge_difference None price c was now = flat_difference was now
charge_difference (Some kind) None c was now = flat_difference was now
charge_difference (Some kind) (Some price) c was now = rated_difference price c kind was now

-- ---- columns

-- before its own sequence a reading is worth nothing
pub value_before : (h : Holding) (at : Position) (upto : ℕ) → upto < at.seq → value_at h at upto ≡ pos 0
value_before h at upto before = cond-true (ltb upto at.seq) (pos 0) _ (lt-ltb upto at.seq before)

-- a column that is the difference of an amount at the two values
pub grows_by_value : (sheet : Sheet) (issuer : Issuer) (h : Holding) (column : Row → ℤ) (amount : Reading → ℤ → ℤ) →
    ((r : Reading) (period : ℕ) (class : ChargeClass) (was now : ℤ) → column (row sheet issuer r period class was now) ≡ amount r now -ℤ amount r was) →
    GrowsBy sheet issuer h column (λ at r upto. amount r (value_at h at upto))
grows_by_value sheet issuer h column amount e = record {
  charged = λ period at r from to before in_to.
      e r period New (pos 0) (value_at h at to) ∙ ap (λ v. amount r (value_at h at to) -ℤ amount r v) (sym (value_before h at from before));
  corrected = λ period at r from to in_from up. e r period Correction (value_at h at from) (value_at h at to);
  same = λ at r from to in_from up alike. ap (amount r) alike;
  outside = λ at r from to up out. ap (amount r) (value_before h at from (omega arith) ∙ sym (value_before h at to out));
}

pub difference_of : (sheet : Sheet) (r : Reading) (was now : ℤ) →
    IsDifference (amounts_of (charge (priced_kind r.kind) (price_of sheet r) (commitment_of sheet r) was now)) (amounts_of (charged_at_once sheet r now)) (amounts_of (charged_at_once sheet r was))
difference_of sheet r was now = charge_difference (priced_kind r.kind) (price_of sheet r) (commitment_of sheet r) was now
