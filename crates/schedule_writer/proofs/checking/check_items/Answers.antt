use Rattle.std.proofs.Common.{◌≡◌, ◌+◌, ◌-◌, ◌<◌, ◌≤◌, ◌∷◌, ◌++◌, suc, length, drop, sym, ap, ◌∙◌, arith}
use Rattle.std.proofs.lemmas.List.{append-nil, length-drop}
use Rattle.fault_lines.specs.Ahead.{ahead_of_all}
use Rattle.schedule_writer.specs.Checks.{journaled_of, told_of_batches}
use Rattle.schedule_writer.specs.Inputs.{batches_of, item_at, items_in}
use Rattle.schedule_writer.proofs.CheckLaws.{told_more}
use Rattle.schedule_writer.proofs.CountedLaws.{ahead_more, nothing_ahead}
use Rattle.schedule_writer.proofs.ItemLaws.{item_next, items_end, items_none}
use Rattle.schedule_writer.proofs.checking.check_items.Goals as goal

pub loop-preserved : goal.loop-preserved
loop-preserved c =
    let input = c.args.input.now in
    let k = length input - (c.loop.counter + 1) in
    let more : length input - c.loop.counter ≡ suc k = omega (arith, c.loop-test.true) in
    let drops = length-drop c.loop.here input in
    let some : 0 < length (drop c.loop.here input) = omega (arith, c.loop.invariant.place.within, c.if-here-input.false, drops) in
    let item = item_at input c.loop.here in
    let rest = items_in k input (c.loop.here + c.in-Ok.length) in
    let next : items_in (length input - c.loop.counter) input c.loop.here ≡ item ∷ rest
    = ap (λ n. items_in n input c.loop.here) more
    ∙ (item_next k input c.loop.here some ∙ ap (λ n. item ∷ items_in k input (c.loop.here + n)) (sym c.in-Ok.ensures.length.is_length)) in
    let ahead = c.loop.invariant.ahead in
    record {
      place = record { within = c.in-Ok.ensures.length.within; above = c.lines_more-above.ensures };
      told = told_more input _ c.loop.told.items c.check_item.new.told.items c.loop.world c.check_item.new.world item rest
          (ap (λ is. c.loop.told.items ++ told_of_batches input c.loop.world (batches_of is)) (sym next) ∙ c.loop.invariant.told) c.in-Ok.ensures.told
          c.in-Ok.ensures.world;
      ahead = (
        _,
        c.in-Ok.ensures.latest ahead.0 ahead.1,
        ahead_more input _ c.loop.warned.items c.check_item.new.warned.items ahead.0 c.loop.world c.check_item.new.world item rest
            (ap (λ is. c.loop.warned.items ++ ahead_of_all ahead.0 (journaled_of input c.loop.world (batches_of is))) (sym next) ∙ ahead.2)
            (c.in-Ok.ensures.ahead ahead.0 ahead.1) c.in-Ok.ensures.world,
      );
    }

pub returns-then-here-input : goal.returns-then-here-input
returns-then-here-input c =
    let input = c.args.input.now in
    let drops = length-drop c.loop.here input in
    let none : length (drop c.loop.here input) ≤ 0 = omega (arith, c.if-here-input.true, drops) in
    let no_more = items_end (length input - c.loop.counter) input c.loop.here none in
    let ahead = c.loop.invariant.ahead in
    record {
      told = sym (append-nil c.loop.told.items)
          ∙ (ap (λ is. c.loop.told.items ++ told_of_batches input c.loop.world (batches_of is)) (sym no_more) ∙ c.loop.invariant.told);
      ahead = nothing_ahead input c.loop.warned.items _ ahead.0 c.loop.world _ no_more ahead.2;
    }

pub returns : goal.returns
returns c =
    let input = c.args.input.now in
    let none : 0 ≡ length input - c.loop.counter = omega (arith, c.loop-test.false) in
    let no_more = ap (λ n. items_in n input c.loop.here) (sym none) ∙ items_none input c.loop.here in
    let ahead = c.loop.invariant.ahead in
    record {
      told = sym (append-nil c.loop.told.items)
          ∙ (ap (λ is. c.loop.told.items ++ told_of_batches input c.loop.world (batches_of is)) (sym no_more) ∙ c.loop.invariant.told);
      ahead = nothing_ahead input c.loop.warned.items _ ahead.0 c.loop.world _ no_more ahead.2;
    }
