-- How great the amounts of a charge and of a row can be.
use Rattle.std.proofs.Common.{◌≡◌, ℕ, ◌*◌, ◌<◌, ◌≤◌, Option, Some, None, get_or, ℤ, pos, ◌-ℤ◌, unsigned_abs, refl, arith}
use Rattle.std.specs.Prelude.{All}
use Rattle.std.proofs.Math.Nat.{mul-le-mul_right}
use Rattle.std.proofs.lemmas.Int.{ints, unsigned_abs-mul}
use Rattle.std.proofs.lemmas.List.Elements.{All-weaker}
use Rattle.metering_model.specs.NumberText.{value_limit, delta_limit, price_limit, cost_limit}
use Rattle.metering_model.specs.Batch.{Reading, IsRecord}
use Rattle.metering_model.specs.Cut.{Cut, last_of}
use Rattle.metering_model.specs.Sheet.{Sheet, Issuer, PriceRow, Commitment}
use Rattle.metering_model.specs.SheetRules.{IsSheet, IsPriceRow, IsCommitment}
use Rattle.metering_model.specs.declared.PricedKind.{PricedKind}
use Rattle.metering_model.specs.declared.PricedKind.TheVariants.{Usage, Purchase}
use Rattle.metering_model.specs.Rating.{rated, flat, cost_at, pricing_quantity}
use Rattle.metering_model.specs.Holding.{Holding, IsHolding, Placed}
use Rattle.metering_model.specs.ValueAtSequence.{value_at}
use Rattle.metering_model.specs.declared.ChargeClass.{ChargeClass}
use Rattle.metering_model.specs.declared.ChargeClass.TheVariants.{New, Correction}
use Rattle.metering_model.specs.Row.{row, charge, priced_kind, price_of, commitment_of}
use Rattle.metering_model.specs.Rows.{rows}
use Rattle.metering_model.specs.Totals.{amounts_of, amounts_in, AreWithinLimits}
use Rattle.metering_model.proofs.SheetLaws.{price_has, commitment_has}
use Rattle.metering_model.proofs.QuantityBounds.{pricing_quantity_at_most}
use Rattle.metering_model.proofs.ValueBounds.{value_small}
use Rattle.metering_model.proofs.EachRow.{records_have, rows_have}

difference_small : (a b : ℤ) → unsigned_abs a < value_limit → unsigned_abs b < value_limit → unsigned_abs (a -ℤ b) < delta_limit
difference_small a b h k = omega (arith, ints)

cost_small : (price : ℕ) (q : ℤ) → price < price_limit → unsigned_abs q < delta_limit → unsigned_abs (cost_at price q) < cost_limit
cost_small price q h k =
    let product : unsigned_abs (cost_at price q) ≡ price * unsigned_abs q = unsigned_abs-mul (pos price) q in
    let most : price * unsigned_abs q ≤ price_limit * unsigned_abs q = mul-le-mul_right (unsigned_abs q) (omega arith) in
    omega arith

nothing_small : unsigned_abs (pos 0) < cost_limit
nothing_small = omega arith

flat_small : (was now : ℤ) → unsigned_abs was < value_limit → unsigned_abs now < value_limit → AreWithinLimits (amounts_of (flat was now))
flat_small was now h k =
    let cost = cost_small 1_000_000 (now -ℤ was) (omega arith) (difference_small now was k h) in
    record { consumed = omega arith; priced = omega arith; list = cost; contracted = cost; billed = cost; effective = cost }

rated_small : (p : PriceRow) (c : Option Commitment) (kind : PricedKind) (was now : ℤ) → IsPriceRow p → ((d : Commitment) → c ≡ Some d → d.rate < price_limit) →
    unsigned_abs was < value_limit → unsigned_abs now < value_limit → AreWithinLimits (amounts_of (rated p c kind was now))
rated_small p c kind was now ok rates h k =
    let units = difference_small now was k h in
    let before = pricing_quantity_at_most p.per was in
    let after = pricing_quantity_at_most p.per now in
    let quantity = difference_small (pricing_quantity p.per now) (pricing_quantity p.per was) (omega arith) (omega arith) in
    by_kind kind c rates units quantity
  where
    q : ℤ
    q = pricing_quantity p.per now -ℤ pricing_quantity p.per was

    by_kind : (kind : PricedKind) (c : Option Commitment) → ((d : Commitment) → c ≡ Some d → d.rate < price_limit) → unsigned_abs (now -ℤ was) < delta_limit → unsigned_abs (pricing_quantity p.per now -ℤ pricing_quantity p.per was) < delta_limit → AreWithinLimits (amounts_of (rated p c kind was now))
    by_kind Usage None rates units quantity = record {
      consumed = units;
      priced = quantity;
      list = cost_small p.list _ ok.list quantity;
      contracted = cost_small p.contracted _ ok.contracted quantity;
      billed = cost_small p.contracted _ ok.contracted quantity;
      effective = cost_small p.contracted _ ok.contracted quantity;
    }
    by_kind Usage (Some d) rates units quantity = record { consumed = units; priced = quantity; list = cost_small p.list _ ok.list quantity; contracted = cost_small p.contracted _ ok.contracted quantity; billed = nothing_small; effective = cost_small d.rate _ (rates d refl) quantity }
    by_kind Purchase None rates units quantity = record {
      consumed = omega arith;
      priced = quantity;
      list = cost_small p.list _ ok.list quantity;
      contracted = cost_small p.contracted _ ok.contracted quantity;
      billed = cost_small p.contracted _ ok.contracted quantity;
      effective = cost_small p.contracted _ ok.contracted quantity;
    }
    by_kind Purchase (Some d) rates units quantity = record { consumed = omega arith; priced = quantity; list = cost_small p.list _ ok.list quantity; contracted = cost_small p.contracted _ ok.contracted quantity; billed = cost_small p.contracted _ ok.contracted quantity; effective = nothing_small }

charge_small : (kind : Option PricedKind) (price : Option PriceRow) (c : Option Commitment) (was now : ℤ) → ((p : PriceRow) → price ≡ Some p → IsPriceRow p) → ((d : Commitment) → c ≡ Some d → d.rate < price_limit) →
    unsigned_abs was < value_limit → unsigned_abs now < value_limit → AreWithinLimits (amounts_of (charge kind price c was now))
charge_small None price c was now prices rates h k = flat_small was now h k
charge_small (Some kind) None c was now prices rates h k = flat_small was now h k
charge_small (Some kind) (Some p) c was now prices rates h k = rated_small p c kind was now (prices p refl) rates h k

-- Between values below the limit the amounts are below theirs.
pub charge_within_limits : (sheet : Sheet) (r : Reading) (was now : ℤ) → IsSheet sheet → unsigned_abs was < value_limit → unsigned_abs now < value_limit →
    AreWithinLimits (amounts_of (charge (priced_kind r.kind) (price_of sheet r) (commitment_of sheet r) was now))
charge_within_limits sheet r was now ok h k =
    charge_small (priced_kind r.kind) (price_of sheet r) (commitment_of sheet r) was now
    (λ p e. price_has IsPriceRow sheet r p ok.prices e)
    (λ d e. (commitment_has IsCommitment sheet r d ok.commitments e).rate)
    h k

-- ---- rows

row_within_limits : (sheet : Sheet) (issuer : Issuer) (r : Reading) (period : ℕ) (class : ChargeClass) (was now : ℤ) → IsSheet sheet → unsigned_abs was < value_limit → unsigned_abs now < value_limit →
    AreWithinLimits (amounts_in (row sheet issuer r period class was now))
row_within_limits sheet issuer r period class was now ok h k = charge_within_limits sheet r was now ok h k

pub rows_within_limits : (sheet : Sheet) (issuer : Issuer) (h : Holding) (period : ℕ) (from to : Cut) → IsHolding h → IsSheet sheet → All (λ x. AreWithinLimits (amounts_in x)) (rows sheet issuer h period from to)
rows_within_limits sheet issuer h period from to ok limits =
    rows_have sheet issuer h period from to (λ x. AreWithinLimits (amounts_in x)) (λ (x : Placed). IsRecord x.what)
    (λ at r rule. row_within_limits sheet issuer r period New (pos 0) (value_at h at (last_of to at.agent)) limits (omega arith) (value_small h at _ ok))
    (λ at r rule. row_within_limits sheet issuer r period Correction (value_at h at (last_of from at.agent)) (value_at h at (last_of to at.agent)) limits (value_small h at _ ok) (value_small h at _ ok))
    (records_have (λ (x : Placed). IsRecord x.what) to h (λ k d inside _.
    let b = get_or h k d in
    All-weaker IsRecord (λ r. (i : ℕ) → IsRecord r) (λ r rule i. rule) b.records (ok.batches k d inside).records))
