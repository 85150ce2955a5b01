use Rattle.std.proofs.Common.{◌≡◌, ◌+◌, ◌-◌, ◌<◌, ◌≤◌, suc, map, length, Ok, sym, ap, ◌∙◌, arith, subst, All}
use Rattle.std.proofs.lemmas.Bool.Decides.{nat_tests}
use Rattle.std.proofs.lemmas.Result.{err_from_is_err_and}
use Rattle.std.proofs.lemmas.List.Elements.{All-push}
use Rattle.input_sections.specs.Sections.{left}
use Rattle.schedule_reader.specs.Schedules.{events_in}
use Rattle.schedule_reader.specs.Inner.Found.{in_front}
use Rattle.schedule_reader.specs.Inner.Packed.{IsPackedIn, unpacked}
use Rattle.schedule_reader.proofs.EventLoop.{found_next, found_fault, found_whole, found_end, map_more}
use Rattle.schedule_reader.proofs.PackedLaws.{event_ends}
use Rattle.schedule_reader.proofs.events.events_in.Goals as goal

pub returns-then-is_empty-clause-taken : goal.returns-then-is_empty-clause-taken
returns-then-is_empty-clause-taken c =
    let found = map (unpacked c.args.text.now) c.loop.packed.items in
    let k = c.args.most - (c.loop.counter + 1) in
    let more : c.args.most - c.loop.counter ≡ suc k = omega (arith, c.loop-test.true) in
    let same = ap length c.left.ensures in
    let none : length (left c.loop.here) ≤ 0 = grind (arith, nat_tests, same, c.is_empty.ensures, c.if-is_empty.true) in
    let are = c.of.ensures.planned in
    c.loop.invariant.events ∙ ap (λ n. in_front found (events_in n c.loop.here)) more ∙ found_whole k c.loop.here found none ∙ ap Ok (sym are)

pub returns-in_err-event-clause-refused : goal.returns-in_err-event-clause-refused
returns-in_err-event-clause-refused c =
    let p = err_from_is_err_and c.from_residual.result c.from_residual.ensures.1 in
    let found = map (unpacked c.args.text.now) c.loop.packed.items in
    let k = c.args.most - (c.loop.counter + 1) in
    let more : c.args.most - c.loop.counter ≡ suc k = omega (arith, c.loop-test.true) in
    let same = ap length c.left.ensures in
    let some : 0 < length (left c.loop.here) = grind (arith, nat_tests, same, c.is_empty.ensures, c.if-is_empty.false) in
    rw (p.1, p.2) (λ _. c.loop.invariant.events ∙ ap (λ n. in_front found (events_in n c.loop.here)) more ∙ found_fault k c.loop.here c.in_err-event.field-0.0 found some c.in_err-event.ensures.event)

pub of-requires-in-loop : goal.of-requires-in-loop
of-requires-in-loop c =
    let inv = c.loop.invariant in
    let event = c.in_ok-event.event in
    let rest = c.in_ok-event.rest in
    let there : rest.from ≤ length rest.text = omega (arith, c.from.ensures.value, c.from.ensures.within) in
    let ends = event_ends c.args.text.now c.loop.here rest event _ c.from.ensures.value inv.text inv.within c.in_ok-event.ensures.text there
    c.in_ok-event.ensures.lines c.in_ok-event.ensures.event in
    (ends.1.room, omega (arith, ends.1.within, ap length c.requires.of, c.requires.short))

pub loop-preserved : goal.loop-preserved
loop-preserved c =
    let inv = c.loop.invariant in
    let event = c.in_ok-event.event in
    let rest = c.in_ok-event.rest in
    let there : rest.from ≤ length rest.text = omega (arith, c.from.ensures.value, c.from.ensures.within) in
    let ends = event_ends c.args.text.now c.loop.here rest event _ c.from.ensures.value inv.text inv.within c.in_ok-event.ensures.text there
    c.in_ok-event.ensures.lines c.in_ok-event.ensures.event in
    let lent = c.args.text.now in
    let kept = c.of-in-loop.ensures lent c.in_ok-event.ensures.lines ends.1.within ends.1.are in
    let found = map (unpacked lent) c.loop.packed.items in
    let k = c.args.most - (c.loop.counter + 1) in
    let more : c.args.most - c.loop.counter ≡ suc k = omega (arith, c.loop-test.true) in
    let same = ap length c.left.ensures in
    let some : 0 < length (left c.loop.here) = grind (arith, nat_tests, same, c.is_empty.ensures, c.if-is_empty.false) in
    let is = c.in_ok-event.ensures.event ∙ ap (λ e. Ok (e, rest)) (sym kept.0) in
    let pushed = ap (map (unpacked lent)) c.in-Ok.ensures.items ∙ map_more (unpacked lent) c.loop.packed.items c.of-in-loop.result in
    let text = c.in_ok-event.ensures.text ∙ inv.text in
    record {
      events = inv.events ∙ ap (λ n. in_front found (events_in n c.loop.here)) more
          ∙ found_next k c.loop.here rest (unpacked lent c.of-in-loop.result) found some is
          ∙ ap (λ es. in_front es (events_in k rest)) (sym pushed);
      packed = subst (All (IsPackedIn lent)) (sym c.in-Ok.ensures.items) (All-push (IsPackedIn lent) c.loop.packed.items c.of-in-loop.result inv.packed kept.1);
      text = text;
      within = subst (λ t. rest.from ≤ length t) text there;
    }

pub returns-clause-taken : goal.returns-clause-taken
returns-clause-taken c =
    let found = map (unpacked c.args.text.now) c.loop.packed.items in
    let none : c.args.most - c.loop.counter ≡ 0 = omega (arith, c.loop-test.false) in
    let are = c.of-2.ensures.planned in
    c.loop.invariant.events ∙ ap (λ n. in_front found (events_in n c.loop.here)) none ∙ found_end c.loop.here found ∙ ap Ok (sym are)
