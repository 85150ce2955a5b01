use Rattle.std.proofs.Common.{◌≡◌, ◌+◌, ◌<◌, length, subst, arith}
use Rattle.batch_view.specs.Batches.{batch_of}
use Rattle.batch_view.specs.Inner.Lines.{IsBehindLines}
use Rattle.batch_view.proofs.LineLemmas.{one_more_line}
use Rattle.batch_view.proofs.BatchLemmas.{IsRecordOf, never_fails, never_lacks, record_read}
use Rattle.batch_view.proofs.batch.BatchView.look_for.Goals as goal

pub loop-preserved : goal.loop-preserved
loop-preserved c =
    (one_more_line c.self.inside.bytes.now (c.loop.counter + 1) c.loop.at c.in_ok-at.field-0 c.loop.invariant c.in_ok-at.ensures).behind

pub returns-in_err-at-clause-there : goal.returns-in_err-at-clause-there
returns-in_err-at-clause-there c =
    let within : c.loop.counter < length (batch_of c.self.inside.bytes.now).records = omega (arith, c.self.invariant.head.count, c.if-index-self.false, c.loop-test.true) in
    absurd (never_lacks c.self.inside.head.version c.self.inside.bytes.now c.loop.counter c.loop.at c.self.invariant.head.version c.self.invariant.head.are within c.loop.invariant c.in_err-at.ensures)

read : (c : goal.In-Ok) → IsRecordOf c.self.inside.bytes.now c.args.index c.in-Ok.record c.in-Ok.field-0-1
read c =
    let same : c.loop.counter ≡ c.args.index = omega (arith, c.loop.auto.counter-end, c.loop-test.false) in
    let within : c.args.index < length (batch_of c.self.inside.bytes.now).records = omega (arith, c.self.invariant.head.count, c.if-index-self.false) in
    record_read c.self.inside.head.version c.self.inside.bytes.now c.args.index c.loop.at c.in-Ok.record c.in-Ok.field-0-1 c.self.invariant.head.version c.self.invariant.head.are within (subst (λ n. IsBehindLines c.self.inside.bytes.now (n + 1) c.loop.at) same c.loop.invariant) c.in-Ok.ensures

pub returns-in-Ok-clause-record : goal.returns-in-Ok-clause-record
returns-in-Ok-clause-record c = rw (← c.self.view_is) (read c).got

pub returns-in-Ok-clause-lent : goal.returns-in-Ok-clause-lent
returns-in-Ok-clause-lent c = rw (← c.self.view_is) (read c).lent

pub returns-in-Err-clause-there : goal.returns-in-Err-clause-there
returns-in-Err-clause-there c =
    let same : c.loop.counter ≡ c.args.index = omega (arith, c.loop.auto.counter-end, c.loop-test.false) in
    let within : c.args.index < length (batch_of c.self.inside.bytes.now).records = omega (arith, c.self.invariant.head.count, c.if-index-self.false) in
    absurd (never_fails c.self.inside.head.version c.self.inside.bytes.now c.args.index c.loop.at c.in-Err.field-0 c.self.invariant.head.version c.self.invariant.head.are within (subst (λ n. IsBehindLines c.self.inside.bytes.now (n + 1) c.loop.at) same c.loop.invariant) c.in-Err.ensures)
