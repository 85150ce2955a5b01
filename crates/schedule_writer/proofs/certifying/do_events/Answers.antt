use Rattle.std.proofs.Common.{◌≡◌, ◌+◌, ◌-◌, ◌<◌, ◌≤◌, suc, length, ap, arith}
use Rattle.std.proofs.lemmas.Bool.Decides.{nat_tests}
use Rattle.input_sections.specs.Sections.{left}
use Rattle.schedule_writer.specs.Inner.Plans.{plan_of}
use Rattle.schedule_writer.proofs.PlanLaws.{done_all, done_more, done_none}
use Rattle.schedule_writer.proofs.certifying.do_events.Goals as goal

pub returns-then-is_empty : goal.returns-then-is_empty
returns-then-is_empty c =
    let k = c.args.most - (c.loop.counter + 1) in
    let more : c.args.most - c.loop.counter ≡ suc k = omega (arith, c.loop-test.true) in
    let same = ap length c.left.ensures in
    let none : length (left c.loop.here) ≤ 0 = grind (arith, nat_tests, same, c.is_empty.ensures, c.if-is_empty.true) in
    c.loop.invariant.done _ (done_all (plan_of c.args.plan.now) c.loop.seen c.loop.world k _ c.loop.here more none)

pub loop-preserved : goal.loop-preserved
loop-preserved c =
    let k = c.args.most - (c.loop.counter + 1) in
    let more : c.args.most - c.loop.counter ≡ suc k = omega (arith, c.loop-test.true) in
    let same = ap length c.left.ensures in
    let some : 0 < length (left c.loop.here) = grind (arith, nat_tests, same, c.is_empty.ensures, c.if-is_empty.false) in
    let one = c.in-Ok.ensures in
    record {
      same = one.journals;
      done = λ last is. c.loop.invariant.done last
          (done_more (plan_of c.args.plan.now) c.loop.seen _ last c.loop.world _ k _ c.loop.here _ more some one.done is);
    }

pub returns : goal.returns
returns c =
    let none : c.args.most - c.loop.counter ≡ 0 = omega (arith, c.loop-test.false) in
    c.loop.invariant.done _ (done_none (plan_of c.args.plan.now) c.loop.seen c.loop.world _ c.loop.here none)
