use Rattle.std.proofs.Common.{◌≡◌, ◌+◌, ◌-◌, ◌<◌, ◌≤◌, suc, length, ap, ◌∙◌, subst, arith}
use Rattle.std.specs.Arc.{arc_value}
use Rattle.std.proofs.lemmas.Bool.Decides.{nat_tests}
use Rattle.input_sections.specs.Sections.{left}
use Rattle.schedule_reader.proofs.PackedLaws.{event_ends}
use Rattle.input_check.proofs.FaultLoop.{found_at_end, found_here, found_next, found_none}
use Rattle.input_check.proofs.CountedBatches.{warned_all, warned_at_end, warned_more, warned_whole}
use Rattle.input_check.proofs.SaidLaws.{said_all, said_at_end, said_more, said_whole}
use Rattle.input_check.proofs.events.check_events.Goals as goal

pub returns-then-is_empty : goal.returns-then-is_empty
returns-then-is_empty c =
    let k = c.args.most - (c.loop.counter + 1) in
    let more : c.args.most - c.loop.counter ≡ suc k = omega (arith, c.loop-test.true) in
    let same = ap length c.left.ensures in
    let none : length (left c.loop.here) ≤ 0 = grind (arith, nat_tests, same, c.is_empty.ensures, c.if-is_empty.true) in
    let ahead = c.loop.invariant.2 in
    record {
      said = said_all c.loop.told.items k c.loop.world c.loop.here _ _ more none c.loop.invariant.0;
      ahead = warned_all c.loop.warned.items ahead.0 c.loop.world c.loop.here k _ _ more none ahead.2;
      fault = found_none _ _ k c.loop.here _ more none c.loop.invariant.1;
    }

pub returns-in-Err : goal.returns-in-Err
returns-in-Err c =
    let k = c.args.most - (c.loop.counter + 1) in
    let more : c.args.most - c.loop.counter ≡ suc k = omega (arith, c.loop-test.true) in
    let same = ap length c.left.ensures in
    let some : 0 < length (left c.loop.here) = grind (arith, nat_tests, same, c.is_empty.ensures, c.if-is_empty.false) in
    let ahead = c.loop.invariant.2 in
    record {
      said = said_whole c.loop.told.items k c.loop.world c.loop.here _ _ _ more some c.in-Err.ensures.event c.loop.invariant.0;
      ahead = warned_whole c.loop.warned.items ahead.0 c.loop.world c.loop.here k _ _ _ more some c.in-Err.ensures.event ahead.2;
      fault = found_here _ _ k c.loop.here _ c.in-Err.fault more some c.in-Err.ensures.event c.loop.invariant.1;
    }

-- What is journaled stands before what is left.
pub journal_from-from-requires : goal.journal_from-from-requires
journal_from-from-requires c =
    let rest = c.in-Ok.parts.1 in
    let there : rest.from ≤ length rest.text = omega (arith, c.from.ensures.value, c.from.ensures.within) in
    (event_ends (arc_value c.args.text.now).items c.loop.here rest c.in-Ok.parts.0 c.from.result c.from.ensures.value c.loop.invariant.3.0 c.loop.invariant.3.1
    c.in-Ok.ensures.text there c.in-Ok.ensures.lines c.in-Ok.ensures.event).1.room

pub check_event-requires-clause-there : goal.check_event-requires-clause-there
check_event-requires-clause-there c =
    let rest = c.in-Ok.parts.1 in
    let text = (arc_value c.args.text.now).items in
    let there : rest.from ≤ length rest.text = omega (arith, c.from.ensures.value, c.from.ensures.within) in
    let ends = event_ends text c.loop.here rest c.in-Ok.parts.0 c.from.result c.from.ensures.value c.loop.invariant.3.0 c.loop.invariant.3.1
    c.in-Ok.ensures.text there c.in-Ok.ensures.lines c.in-Ok.ensures.event in
    c.journal_from-from.ensures text ends.1

pub loop-preserved : goal.loop-preserved
loop-preserved c =
    let k = c.args.most - (c.loop.counter + 1) in
    let more : c.args.most - c.loop.counter ≡ suc k = omega (arith, c.loop-test.true) in
    let same = ap length c.left.ensures in
    let some : 0 < length (left c.loop.here) = grind (arith, nat_tests, same, c.is_empty.ensures, c.if-is_empty.false) in
    let said = rw c.line.ensures.value at c.in-Ok-check_event.ensures.said in
    let text = c.in-Ok.ensures.text ∙ c.loop.invariant.3.0 in
    let there : c.in-Ok.parts.1.from ≤ length c.in-Ok.parts.1.text = omega (arith, c.from.ensures.value, c.from.ensures.within) in
    let ahead = c.loop.invariant.2 in (
      said_more c.loop.told.items k c.loop.world c.loop.here _ _ _ _ _ _ more some c.in-Ok.ensures.event said c.in-Ok-check_event.ensures.world c.loop.invariant.0,
      found_next _ _ k c.loop.here _ _ _ more some c.in-Ok.ensures.event c.loop.invariant.1,
      (
        _,
        rw c.line.ensures.value at (c.in-Ok-check_event.ensures.latest ahead.0 ahead.1),
        warned_more c.loop.warned.items ahead.0 c.loop.world c.loop.here k _ _ _ _ _ _ more some c.in-Ok.ensures.event
            (rw c.line.ensures.value at (c.in-Ok-check_event.ensures.ahead ahead.0 ahead.1)) c.in-Ok-check_event.ensures.world ahead.2,
      ),
      (text, subst (λ t. c.in-Ok.parts.1.from ≤ length t) text there),
    )

pub returns : goal.returns
returns c =
    let none : c.args.most - c.loop.counter ≡ 0 = omega (arith, c.loop-test.false) in
    let ahead = c.loop.invariant.2 in
    record {
      said = said_at_end c.loop.told.items c.loop.world c.loop.here _ _ none c.loop.invariant.0;
      ahead = warned_at_end c.loop.warned.items ahead.0 c.loop.world c.loop.here _ _ none ahead.2;
      fault = found_at_end _ _ c.loop.here _ none c.loop.invariant.1;
    }
