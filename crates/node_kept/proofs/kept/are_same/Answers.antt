use Rattle.std.proofs.Common.{sym, ◌∙◌}
use Rattle.std.specs.Arc.{arc_value}
use Rattle.std.proofs.lemmas.Bool.{false≢true}
use Rattle.node_kept.proofs.Limits.{same_at}
use Rattle.node_kept.proofs.kept.are_same.Goals as goal

pub returns-then-not-same : goal.returns-then-not-same
returns-then-not-same c = (
  λ t. absurd (false≢true t),
  λ e.
      let here = same_at arc_value c.args.one.now c.args.two.now c.loop-index.index c.index-one-index.result c.index-two-index.result e c.loop-index-test.true c.index-one-index.is c.index-two-index.is in
      let same = c.same.ensures.1 (c.deref.ensures ∙ here ∙ sym c.deref-in-loop-index.ensures) in
      absurd (false≢true (sym c.if-not-same.true ∙ same)),
)
