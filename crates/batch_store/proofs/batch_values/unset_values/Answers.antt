use Rattle.std.proofs.Common.{◌+◌, length, sym, subst, ap, ◌∙◌, arith}
use Rattle.batch_store.proofs.AmendedValues.{AreNone, none_yet, one_none_more, length_more}
use Rattle.batch_store.proofs.batch_values.unset_values.Goals as goal

pub loop-init : goal.loop-init
loop-init c = (ap length c.in_ok-values.ensures.items, subst AreNone (sym c.in_ok-values.ensures.items) none_yet)

pub loop-preserved : goal.loop-preserved
loop-preserved c = (
  ap length c.in_ok-push.ensures.items ∙ (length_more c.loop.values.items ∙ ap (λ n. n + 1) c.loop.invariant.0),
  subst AreNone (sym c.in_ok-push.ensures.items) (one_none_more c.loop.values.items c.loop.invariant.1),
)

pub returns-clause-length : goal.returns-clause-length
returns-clause-length c = let many = c.loop.invariant.0 in let end = c.loop.auto.counter-end in omega (arith, many, end)

pub returns-clause-none : goal.returns-clause-none
returns-clause-none c = c.loop.invariant.1
