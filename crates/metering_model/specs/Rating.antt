-- Quantities and costs of a charge. Of a charge by a price, list and contracted cost are unit price times pricing quantity.
-- Quantities are in millionths, costs in units of 10^-12.
use Rattle.std.specs.Prelude.{◌≡◌, ℕ, suc, ◌+◌, ◌*◌, ◌/◌, ◌%◌, ◌≤◌, nat_lt, if◌then◌else◌, Option, Some, None, ℤ, pos, negsuc, neg_ℤ, ◌-ℤ◌, ◌*ℤ◌, unsigned_abs}
use Rattle.std.specs.Option.{is_some}
pub use Rattle.metering_model.specs.declared.PricedKind.{PricedKind}
pub use Rattle.metering_model.specs.declared.PricedKind.TheVariants.{Usage, Purchase}
use Rattle.metering_model.specs.Sheet.{PriceRow, Commitment}
use Rattle.metering_model.specs.Limits.{one_in_millionths}

-- twice the distance from v to per times q
abbrev pub twice_off : ℕ → ℤ → ℤ → ℕ
twice_off per v q = 2 * unsigned_abs (v -ℤ (pos per *ℤ q))

-- For per above 0: q is v / per, rounded to the nearest whole number, and of two such to the even one.
pub record IsRounded (per : ℕ) (v q : ℤ) : Type 0 where
  pub near : twice_off per v q ≤ per
  pub half_to_even : twice_off per v q ≡ per → unsigned_abs q % 2 ≡ 0

-- the same of a value that is not negative, computed
abbrev pub rounded_magnitude : ℕ → ℕ → ℕ
rounded_magnitude per v =
    let q = v / per in
    let twice_rest = 2 * (v % per) in
    if nat_lt twice_rest per then q else (if nat_lt per twice_rest then q + 1 else q + q % 2)

-- the pricing quantity of a value of metered units
abbrev pub pricing_quantity : ℕ → ℤ → ℤ
pricing_quantity per (pos v) = pos (rounded_magnitude per v)
pricing_quantity per (negsuc v) = neg_ℤ (pos (rounded_magnitude per (suc v)))

-- A quantity that a charge does not have is None.
pub record Rated : Type 0 where
  pub consumed : Option ℤ
  pub priced : Option ℤ
  pub list : ℤ
  pub contracted : ℤ
  pub billed : ℤ
  pub effective : ℤ

abbrev pub cost_at : ℕ → ℤ → ℤ
cost_at price quantity = pos price *ℤ quantity

-- Usage under a commitment that the sheet has bills nothing, whether it was bought or not: its effective cost is at the
-- commitment's rate. A purchase of such a commitment is billed, and its effective cost is 0.
abbrev pub costs : PriceRow → Option Commitment → PricedKind → ℤ → ℤ → Rated
costs row None Usage consumed quantity =
    let list = cost_at row.list quantity in
    let cost = cost_at row.contracted quantity in
    record { consumed = Some consumed; priced = Some quantity; list = list; contracted = cost; billed = cost; effective = cost }
costs row (Some c) Usage consumed quantity =
    let list = cost_at row.list quantity in
    let cost = cost_at row.contracted quantity in
    record { consumed = Some consumed; priced = Some quantity; list = list; contracted = cost; billed = pos 0; effective = cost_at c.rate quantity }
costs row c Purchase consumed quantity =
    let list = cost_at row.list quantity in
    let cost = cost_at row.contracted quantity in
    record { consumed = None; priced = Some quantity; list = list; contracted = cost; billed = cost; effective = if is_some c then pos 0 else cost }

-- what a charge by a price is, from an old value of its reading to a new one: the two are rounded, not their difference
abbrev pub rated : PriceRow → Option Commitment → PricedKind → ℤ → ℤ → Rated
rated row c kind was now = costs row c kind (now -ℤ was) (pricing_quantity row.per now -ℤ pricing_quantity row.per was)

-- what a credit, a tax or an adjustment is, from an old amount to a new one: the difference, under all four costs
abbrev pub flat : ℤ → ℤ → Rated
flat was now =
    let amount = cost_at one_in_millionths (now -ℤ was) in
    record { consumed = None; priced = None; list = amount; contracted = amount; billed = amount; effective = amount }
