use Rattle.std.proofs.Common.{◌≡◌, ◌+◌, suc, refl, sym, arith}
use Rattle.group_process.proofs.Growing.{grow_more, grow_not}
use Rattle.group_process.proofs.exporting.has_growing_cuts.Goals as goal

pub overflow_add-next-end : goal.overflow_add-next-end
overflow_add-next-end c = omega arith

pub loop-next-init : goal.loop-next-init
loop-next-init c = refl

pub returns-then-not-goes_on : goal.returns-then-not-goes_on
returns-then-not-goes_on c =
    let next : c.args.period + 1 ≡ suc c.args.period = omega arith in
    let not = sym c.if-not-goes_on.ensures in
    rw next (sym (grow_not _ _ c.loop-next.next c.args.period (omega arith) c.requires not))

pub loop-next-preserved : goal.loop-next-preserved
loop-next-preserved c =
    let next : c.loop-next.next + 1 ≡ suc c.loop-next.next = omega arith in
    let more = sym c.if-not-goes_on.ensures in
    rw next (grow_more _ _ c.loop-next.next (omega arith) c.loop-next.invariant more)
