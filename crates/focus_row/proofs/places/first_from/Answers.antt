use Rattle.std.proofs.Common.{◌+◌, ◌-◌, ◌/◌, map, sym, ◌∙◌, arith}
use Rattle.journal_rules.specs.Stores.{position_of}
use Rattle.focus_row.proofs.PlaceOrder.{before_middle, behind_middle, position_at}
use Rattle.focus_row.proofs.places.first_from.Goals as goal

pub loop-low-preserved-then-stands_before : goal.loop-low-preserved-then-stands_before
loop-low-preserved-then-stands_before c =
    let low = c.loop-low.low in
    let high = c.loop-low.high in
    let at = position_at c.args.places.now (low + (high - low) / 2) _ (omega arith) in
    record {
      ordered = omega arith;
      within = c.loop-low.invariant.within;
      before = λ k q e less. before_middle (map position_of c.args.places.now) _ k _ q _ c.requires at (sym c.stands_before.ensures ∙ c.if-stands_before.true) e less;
      behind = c.loop-low.invariant.behind;
    }

pub loop-low-preserved : goal.loop-low-preserved
loop-low-preserved c =
    let low = c.loop-low.low in
    let high = c.loop-low.high in
    let at = position_at c.args.places.now (low + (high - low) / 2) _ (omega arith) in
    record {
      ordered = omega arith;
      within = omega arith;
      before = c.loop-low.invariant.before;
      behind = λ k q e from. behind_middle (map position_of c.args.places.now) _ k _ q _ c.requires at (sym c.stands_before.ensures ∙ c.if-stands_before.false) e from;
    }
