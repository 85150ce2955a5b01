use Rattle.std.proofs.Common.{◌≡◌, ◌+◌, List, ℤ, map, drop, sym, ap, ◌∙◌, subst, arith}
use Rattle.batch_view.specs.Asked.{asked_in, asked_left, record_asked}
use Rattle.batch_view.specs.Batches.{RecordsLeft, batch_of}
use Rattle.fault_lines.specs.Ahead.{latest}
use Rattle.fault_lines.proofs.AheadWalks.{IsWalked, next_asked, none_asked, walk_begins, walk_goes_on, walk_latest, walk_told}
use Rattle.fault_lines.proofs.ahead.put_batch.Goals as goal

pub loop-asked-init : goal.loop-asked-init
loop-asked-init c =
    let at = c.into_iter-asked-iterator.ensures.into_iter_gives ∙ c.asked-asked-items.ensures in
    record {
      can_next = tt;
      is_finite = tt;
      bytes = ap (λ t. t.bytes) at;
      index = ap (λ t. t.index) at;
      walked = λ days is. walk_begins c.args.lines days c.args.told.now.items c.args.told.now.items c.args.told.now.items (batch_of c.args.batch.now).records 0 c.args.above.now c.args.above.now is;
    }

pub overflow_add-index : goal.overflow_add-index
overflow_add-index c =
    let l = c.loop-asked.invariant in
    let rs = (batch_of c.args.batch.now).records in
    let same : asked_left c.loop-asked.asked-iterator ≡ map asked_in (drop c.loop-asked.index rs) =
    ap (λ b. map asked_in (drop c.loop-asked.asked-iterator.index (batch_of b).records)) l.bytes ∙ ap (λ n. map asked_in (drop n rs)) l.index in
    let next = next_asked rs c.loop-asked.index (record_asked c.in-Some.asked) (asked_left c.next.new.self) (sym same ∙ c.in-Some.ensures.steps.first) in
    omega (arith, next.low, c.count-count.ensures.value, c.count-count.ensures.range)

pub loop-asked-preserved : goal.loop-asked-preserved
loop-asked-preserved c =
    let l = c.loop-asked.invariant in
    let rs = (batch_of c.args.batch.now).records in
    let same : asked_left c.loop-asked.asked-iterator ≡ map asked_in (drop c.loop-asked.index rs) =
    ap (λ b. map asked_in (drop c.loop-asked.asked-iterator.index (batch_of b).records)) l.bytes ∙ ap (λ n. map asked_in (drop n rs)) l.index in
    let next = next_asked rs c.loop-asked.index (record_asked c.in-Some.asked) (asked_left c.next.new.self) (sym same ∙ c.in-Some.ensures.steps.first) in
    let walk = c.in-Some.ensures.steps.walk in
    record {
      can_next = tt;
      is_finite = tt;
      bytes = ap (λ (t : RecordsLeft). t.bytes) walk ∙ l.bytes;
      index = ap (λ (t : RecordsLeft). t.index) walk ∙ ap (λ n. n + 1) l.index;
      walked = λ days is.
          let w = subst (λ left. IsWalked c.args.lines days c.args.told.now.items c.loop-asked.told.items rs left c.loop-asked.index c.loop-asked.latest) next.rest (l.walked days is) in
          walk_goes_on c.args.lines days c.args.told.now.items c.loop-asked.told.items c.put_record.new.told.items rs c.loop-asked.index c.loop-asked.latest c.put_record.new.above
          next.r (drop (c.loop-asked.index + 1) rs) w
          (c.in-Ok.ensures.told next.r w.seen next.there next.asked w.is_latest) (c.put_record.ensures.latest next.r w.seen next.asked w.is_latest);
    }

pub returns : goal.returns
returns c =
    let l = c.loop-asked.invariant in
    let rs = (batch_of c.args.batch.now).records in
    let same : asked_left c.loop-asked.asked-iterator ≡ map asked_in (drop c.loop-asked.index rs) =
    ap (λ b. map asked_in (drop c.loop-asked.asked-iterator.index (batch_of b).records)) l.bytes ∙ ap (λ n. map asked_in (drop n rs)) l.index in
    let none = none_asked rs c.loop-asked.index (sym same ∙ c.in-None.ensures.steps.first.0) in
    let walked = λ (days : List ℤ) (is : c.args.above.now ≡ latest days).
    subst (λ left. IsWalked c.args.lines days c.args.told.now.items c.loop-asked.told.items rs left c.loop-asked.index c.loop-asked.latest) none (l.walked days is) in
    record {
      told = λ days is.
          walk_told c.args.lines days c.args.told.now.items c.loop-asked.told.items c.loop-asked.told.items rs c.loop-asked.index c.loop-asked.latest c.loop-asked.latest (walked days is);
      latest = λ days is.
          walk_latest c.args.lines days c.args.told.now.items c.loop-asked.told.items c.loop-asked.told.items rs c.loop-asked.index c.loop-asked.latest c.loop-asked.latest (walked days is);
    }
