use Rattle.std.proofs.Common.{◌≡◌, ◌-◌, ℕ, List, rules, length, take, drop, arith, length-drop, take-add, take_all}
use Rattle.std.proofs.KnownBytes.{Appends-trans}
use Rattle.counted_io.proofs.writing.write_all.Goals as goal

-- what `&bytes[sent..]` holds
rest_slice : (bytes : List ℕ) (sent : ℕ) → take (length bytes - sent) (drop sent bytes) ≡ drop sent bytes
rest_slice bytes sent = take_all (length bytes - sent) (drop sent bytes) (omega (arith, length-drop sent bytes))

-- the bytes that were sent before, and behind them those that the write took
pub loop-sent-preserved : goal.loop-sent-preserved
loop-sent-preserved g c =
    let rest = rest_slice c.args.bytes.now c.loop-sent.sent in
    let took = c.in_ok-sent.ensures in
    let some = rw rest at took.some in
    let appended = rw rest at took.appended in
    record {
      within = omega (arith, some.1, length-drop c.loop-sent.sent c.args.bytes.now);
      written = rw (take-add c.loop-sent.sent c.in_ok-sent.field-0 c.args.bytes.now) (Appends-trans _ _ _ _ _ c.loop-sent.invariant.written appended);
      quiet = search rules;
    }

pub returns-clause-written : goal.returns-clause-written
returns-clause-written g c =
    let all = take_all c.loop-sent.sent c.args.bytes.now (omega (arith, c.loop-sent-test.false)) in
    rw all at c.loop-sent.invariant.written
