use Rattle.std.proofs.Common.{◌≡◌, ◌+◌, ◌-◌, ◌<◌, ◌≤◌, ◌∷◌, ◌++◌, suc, map, length, drop, sym, ap, ◌∙◌, arith}
use Rattle.std.proofs.lemmas.List.{append-nil, length-drop}
use Rattle.schedule_writer.specs.Inputs.{batches_of, closes_from, item_at, items_in}
use Rattle.schedule_writer.specs.Inner.Plans.{taken_of}
use Rattle.schedule_writer.proofs.AnswerLaws.{refused_or}
use Rattle.schedule_writer.proofs.ItemLaws.{batches_more, closes_more, item_next, items_end, items_none}
use Rattle.schedule_writer.proofs.JudgedLaws.{refused_here}
use Rattle.schedule_writer.proofs.judging.take_items.Goals as goal

pub loop-preserved : goal.loop-preserved
loop-preserved c =
    let input = c.args.input.now in
    let k = length input - (c.loop.counter + 1) in
    let more : length input - c.loop.counter ≡ suc k = omega (arith, c.loop-test.true) in
    let drops = length-drop c.loop.here input in
    let some : 0 < length (drop c.loop.here input) = omega (arith, c.loop.invariant.here, c.if-here-input.false, drops) in
    let item = item_at input c.loop.here in
    let rest = items_in k input (c.loop.here + c.in-Ok.length) in
    let old = c.loop.items.batches.items in
    let new = c.take_item.new.items.batches.items in
    let next : items_in (length input - c.loop.counter) input c.loop.here ≡ item ∷ rest
    = ap (λ n. items_in n input c.loop.here) more
    ∙ (item_next k input c.loop.here some ∙ ap (λ n. item ∷ items_in k input (c.loop.here + n)) (sym c.in-Ok.ensures.length.is_length)) in
    record {
      here = c.in-Ok.ensures.length.within;
      batches = batches_more _ (map taken_of old) (map taken_of new) item rest
          (ap (λ is. map taken_of old ++ batches_of is) (sym next) ∙ c.loop.invariant.batches) c.in-Ok.ensures.found.batches;
      closes = closes_more _ c.loop.items.closes.items c.take_item.new.items.closes.items (length old) (length new) item rest
          (ap (λ is. c.loop.items.closes.items ++ closes_from (length old) is) (sym next) ∙ c.loop.invariant.closes) c.in-Ok.ensures.found.closes
          c.in-Ok.ensures.found.count;
      judged = λ issuer start. c.in-Ok.ensures.judged issuer (c.loop.invariant.judged issuer start);
      within = c.in-Ok.ensures.found.within;
    }

pub returns-in-Err : goal.returns-in-Err
returns-in-Err c =
    let input = c.args.input.now in
    let k = length input - (c.loop.counter + 1) in
    let more : length input - c.loop.counter ≡ suc k = omega (arith, c.loop-test.true) in
    let drops = length-drop c.loop.here input in
    let some : 0 < length (drop c.loop.here input) = omega (arith, c.loop.invariant.here, c.if-here-input.false, drops) in
    record {
      found = tt;
      within = tt;
      judged = λ issuer start. tt;
      refused = λ issuer start.
          refused_or _ _
          (refused_here input c.args.sheet.now issuer _ (map taken_of c.loop.items.batches.items) k _ c.loop.here c.loop.world
          c.loop.items.asked.agents c.loop.items.asked.last more some c.loop.invariant.batches (c.loop.invariant.judged issuer start))
          _ c.in-Err.ensures.refused;
    }

pub returns-then-here-input : goal.returns-then-here-input
returns-then-here-input c =
    let input = c.args.input.now in
    let found = map taken_of c.loop.items.batches.items in
    let drops = length-drop c.loop.here input in
    let none : length (drop c.loop.here input) ≤ 0 = omega (arith, c.if-here-input.true, drops) in
    let no_more = items_end (length input - c.loop.counter) input c.loop.here none in
    record {
      found = record {
        batches = sym (append-nil found) ∙ (ap (λ is. found ++ batches_of is) (sym no_more) ∙ c.loop.invariant.batches);
        closes = sym (append-nil c.loop.items.closes.items)
            ∙ (ap (λ is. c.loop.items.closes.items ++ closes_from (length c.loop.items.batches.items) is) (sym no_more) ∙ c.loop.invariant.closes);
      };
      within = c.loop.invariant.within;
      judged = c.loop.invariant.judged;
      refused = λ issuer start. tt;
    }

pub returns : goal.returns
returns c =
    let input = c.args.input.now in
    let found = map taken_of c.loop.items.batches.items in
    let none : 0 ≡ length input - c.loop.counter = omega (arith, c.loop-test.false) in
    let no_more = sym (items_none input c.loop.here) ∙ ap (λ n. items_in n input c.loop.here) none in
    record {
      found = record {
        batches = sym (append-nil found) ∙ (ap (λ is. found ++ batches_of is) no_more ∙ c.loop.invariant.batches);
        closes = sym (append-nil c.loop.items.closes.items)
            ∙ (ap (λ is. c.loop.items.closes.items ++ closes_from (length c.loop.items.batches.items) is) no_more ∙ c.loop.invariant.closes);
      };
      within = c.loop.invariant.within;
      judged = c.loop.invariant.judged;
      refused = λ issuer start. tt;
    }
