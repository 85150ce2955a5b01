use Rattle.std.proofs.Common.{◌≡◌, ◌≤◌, ◌+◌, subst, arith}
use Rattle.metering_model.specs.Cut.{last_of}
use Rattle.focus_row.specs.Inner.Left.{Between, rows_left}
use Rattle.focus_row.proofs.StopLaws.{grows_at, skip_to_named, skip_unnamed, skip_agent}
use Rattle.focus_row.proofs.between.BetweenCuts.next_of_agent.Goals as goal
use Rattle.focus_row.proofs.between.BetweenCuts.next_of_agent.Goals.{then-seq-from, else-seq-from}

pub returns-in-Some-clause-within : goal.returns-in-Some-clause-within
returns-in-Some-clause-within c =
    let next = rw c.deref.ensures.value at c.in-Some.ensures.some in
    let low = (skip_to_named _ c.self.invariant.0 _ c.self.invariant.2 c.args.agent c.args.seq c.in-Some.named next).0 in
    let grows = grows_at _ c.self.invariant.0 c.args.agent in (
      omega (arith, next.not_before),
      subst (λ (b : Between). c.in-Some.named ≤ last_of b.to c.args.agent) c.self.view_is (omega (arith, low, grows)),
      omega (arith, low, c.get-from.ensures.value, c.get-from.ensures.within),
    )

pub returns-in-Some-clause-some : goal.returns-in-Some-clause-some
returns-in-Some-clause-some c =
    let next = rw c.deref.ensures.value at c.in-Some.ensures.some in
    subst (λ (b : Between). rows_left b c.args.agent c.in-Some.named ≡ rows_left b c.args.agent c.args.seq) c.self.view_is
    (skip_to_named _ c.self.invariant.0 _ c.self.invariant.2 c.args.agent c.args.seq c.in-Some.named next).1

pub returns-then-next-get-clause-some : goal.returns-then-next-get-clause-some
returns-then-next-get-clause-some c =
    let none = rw c.deref.ensures.value at c.in_default.ensures.none in
    let from = c.get-from.ensures.value in
    let skipped = skip_unnamed _ c.self.invariant.0 _ c.self.invariant.2 c.args.agent c.args.seq c.if-seq-from.next none in
    subst (λ (b : Between). rows_left b c.args.agent c.if-seq-from.next ≡ rows_left b c.args.agent c.args.seq) c.self.view_is (elim c.if-seq-from.branch [
      | then-seq-from w ↦ skipped (omega arith) (λ less. omega arith)
      | else-seq-from w ↦ skipped (omega arith) (λ less. omega arith)
    ])

pub returns-else-next-get-clause-none : goal.returns-else-next-get-clause-none
returns-else-next-get-clause-none c =
    let none = rw c.deref.ensures.value at c.in_default.ensures.none in
    let from = c.get-from.ensures.value in
    let to = c.get.ensures.value in
    let skipped = skip_agent _ c.self.invariant.0 _ c.self.invariant.2 c.args.agent c.args.seq c.if-seq-from.next none in
    subst (λ (b : Between). rows_left b (c.args.agent + 1) 1 ≡ rows_left b c.args.agent c.args.seq) c.self.view_is (elim c.if-seq-from.branch [
      | then-seq-from w ↦ skipped (omega arith) (λ less. omega arith) (omega arith)
      | else-seq-from w ↦ skipped (omega arith) (λ less. omega arith) (omega arith)
    ])
