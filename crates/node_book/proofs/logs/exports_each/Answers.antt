use Rattle.std.proofs.Common.{◌∙◌, refl, sym, arith, below_more}
use Rattle.node_book.proofs.Lists.{no_false}
use Rattle.node_book.proofs.Exports.{each_once, once, never}
use Rattle.node_book.proofs.logs.exports_each.Goals as goal

pub returns-then-not-are_within : goal.returns-then-not-are_within
returns-then-not-are_within c = ((λ t. no_false t), (λ each. c.if-not-are_within.ensures.1 (never c.args.done.now c.args.periods each)))

pub returns-then-export_count-ne1 : goal.returns-then-export_count-ne1
returns-then-export_count-ne1 c = (
  (λ t. no_false t),
  (λ each. absurd (c.if-export_count-ne1.true (c.export_count.ensures ∙ once c.args.done.now c.args.periods each c.loop-period.period c.loop-period-test.true))),
)

pub loop-period-preserved : goal.loop-period-preserved
loop-period-preserved c = below_more _ _ c.loop-period.invariant (sym c.export_count.ensures ∙ c.if-export_count-ne1.false)

pub returns : goal.returns
returns c =
    let over = c.loop-period-test.false in (
      (λ t. each_once c.args.done.now c.args.periods (c.if-not-are_within.ensures.0 refl) (λ period lt. c.loop-period.invariant period (omega (arith, lt, over)))),
      (λ each. refl),
    )
