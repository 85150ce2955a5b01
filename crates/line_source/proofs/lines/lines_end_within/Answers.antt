use Rattle.std.proofs.Common.{◌≡◌, ◌∙◌, ◌⊎◌, inl, inr, ℕ, ◌+◌, ◌-◌, ◌<◌, ◌≤◌, Err, Fits, List, [], ◌++◌, true, arith, ap, drop, length, refl, subst, w64}
use Rattle.std.specs.Io.KnownBytes.{IsAtEnd}
use Rattle.std.proofs.lemmas.List.{length-drop}
use Rattle.std.proofs.lemmas.Result.{IfOk-from_err, err_from_is_err_and}
use Rattle.metering_model.specs.Batch.{lacks}
use Rattle.line_source.specs.Inner.Wants.{IsLineShort}
use Rattle.line_source.specs.Lines.{AreBetween, AreShort, IsLineAt}
use Rattle.line_source.specs.Reading.{ReadsUpTo, ReadsWhile, StopsShort, Takes}
use Rattle.line_source.proofs.Calling.{on_fault, still_quiet, takes_none, within_err, within_ok, within_on}
use Rattle.line_source.proofs.LineTexts.{between_before, between_on, fewer_between, none_between, one_more_between}
use Rattle.line_source.proofs.Taking.{reads_on, stops_on, up_to_on, while_for, while_on}
use Rattle.line_source.proofs.lines.lines_end_within.Given as given
use Rattle.line_source.proofs.lines.lines_end_within.Goals.{After-from_residual, After-line_length, In-Some, In_default}
use Rattle.line_source.proofs.lines.lines_end_within.Goals as goal

-- both parts of a sum fit where the sum does, and the next count where it is no more than another
part_fits : (a b most : ℕ) → a + b ≤ most → most < 18_446_744_073_709_551_616 → Fits w64 b
part_fits a b most few fits = omega (arith, few, fits)

sum_fits : (a b most : ℕ) → a + b ≤ most → most < 18_446_744_073_709_551_616 → Fits w64 (a + b)
sum_fits a b most few fits = omega (arith, few, fits)

next_fits : (passed count : ℕ) → passed < count → Fits w64 count → Fits w64 (passed + 1)
next_fits passed count few fits = omega (arith, few, fits)

one_less : (passed count : ℕ) → passed < count → count - (passed + 1) < count - passed
one_less passed count few = omega (arith, few)

-- the lines are there still, behind which more was read
between : (g : given.Over) (c : After-line_length g) → AreBetween c.args.from c.loop-passed.end c.line_length.new.unread.bytes c.loop-passed.passed
between g c = between_on c.loop-passed.invariant.between c.line_length.ensures.takes

-- no more lines are
none_ends : (g : given.Over) (c : In_default g)
    → (lacks 10 (drop c.loop-passed.end c.line_length.new.unread.bytes) ≡ true)
    × (IsAtEnd (g.S.Source.remaining c.line_length.new.source) ⊎ (c.args.most < length c.line_length.new.unread.bytes))
none_ends g c = rw c.in_default.is at c.in_ok-length.ensures.found

-- where no line ends behind those that were passed, fewer are there
fewer : (g : given.Over) (c : After-line_length g) (came : List ℕ) → IsLineShort c.loop-passed.end c.args.most (c.loop-passed.unread.bytes ++ came) → AreShort c.args.from c.args.count c.args.most (c.loop-passed.unread.bytes ++ came)
fewer g c came short = (fewer_between (between_before c.loop-passed.invariant.between came) c.args.count (omega (arith, c.loop-passed-test.true)) short.0, short.1)

-- so more was read only while too few were ahead
last : (g : given.Over) (c : After-line_length g) → ReadsWhile (AreShort c.args.from c.args.count c.args.most) c.args.unread.now.bytes c.line_length.new.unread.bytes
last g c =
    let here = c.loop-passed.invariant in
    while_on (AreShort c.args.from c.args.count c.args.most) here.takes c.line_length.ensures.takes here.last (while_for (fewer g c) c.line_length.ensures.last)

-- no further than each did
block : (g : given.Over) (c : After-line_length g) → ReadsUpTo c.args.most c.args.unread.now.bytes c.line_length.new.unread.bytes
block g c = up_to_on c.args.most c.args.unread.now.bytes c.loop-passed.unread.bytes c.line_length.new.unread.bytes c.loop-passed.invariant.block c.line_length.ensures.block

-- and nothing was taken
takes : (g : given.Over) (c : After-line_length g) → Takes c.args.unread.now.bytes c.line_length.new.unread.bytes c.args.unread.now.read c.line_length.new.unread.read (g.S.Source.remaining c.args.source.now) (g.S.Source.remaining c.line_length.new.source) []
takes g c = reads_on c.loop-passed.invariant.takes c.line_length.ensures.takes

-- the fault is that of the read
told : (g : given.Over) (c : After-from_residual g) → c.from_residual.result ≡ Err c.in_err-length.field-0.0
told g c = let p = err_from_is_err_and c.from_residual.result c.from_residual.ensures.1 in p.1 ∙ ap Err p.2

pub loop-passed-init : goal.loop-passed-init
loop-passed-init g c = record {
  between = none_between c.args.unread.now.bytes c.args.from c.requires.from;
  few = omega arith;
  takes = takes_none c.args.unread.now.bytes c.args.unread.now.read (g.S.Source.remaining c.args.source.now);
  block = λ longer. absurd (omega (arith, longer));
  last = λ longer. absurd (omega (arith, longer));
  short = c.requires.read;
  quiet = refl;
}

pub line_length-requires-clause-read : goal.line_length-requires-clause-read
line_length-requires-clause-read g c = c.loop-passed.invariant.short

pub line_length-requires-clause-from : goal.line_length-requires-clause-from
line_length-requires-clause-from g c = c.loop-passed.invariant.between.within

pub returns-in_err-length-clause-takes : goal.returns-in_err-length-clause-takes
returns-in_err-length-clause-takes g c = takes g (goal.at.returns-in_err-length-clause-takes g c).After-line_length

pub returns-in_err-length-clause-found : goal.returns-in_err-length-clause-found
returns-in_err-length-clause-found g c = IfOk-from_err c.from_residual.result _ c.from_residual.ensures.0

pub returns-in_err-length-clause-block : goal.returns-in_err-length-clause-block
returns-in_err-length-clause-block g c = block g (goal.at.returns-in_err-length-clause-block g c).After-line_length

pub returns-in_err-length-clause-reads : goal.returns-in_err-length-clause-reads
returns-in_err-length-clause-reads g c = within_err c.in_err-length.field-0.0 (told g c) c.loop-passed.invariant.quiet c.in_err-length.ensures.reads

pub returns-in_err-length-clause-last : goal.returns-in_err-length-clause-last
returns-in_err-length-clause-last g c = last g (goal.at.returns-in_err-length-clause-last g c).After-line_length

pub returns-in_err-length-clause-stopped : goal.returns-in_err-length-clause-stopped
returns-in_err-length-clause-stopped g c =
    let short_of = AreShort c.args.from c.args.count c.args.most in
    on_fault (StopsShort short_of c.args.unread.now.bytes c.line_length.new.unread.bytes) (told g c)
    (stops_on (IsLineShort c.loop-passed.end c.args.most) short_of c.in_err-length.field-0.0 c.loop-passed.invariant.takes c.line_length.ensures.takes
    (fewer g (goal.at.returns-in_err-length-clause-stopped g c).After-line_length) c.in_err-length.ensures.stopped)

pub returns-then-ahead-most-clause-last : goal.returns-then-ahead-most-clause-last
returns-then-ahead-most-clause-last g c = last g (goal.at.returns-then-ahead-most-clause-last g c).After-line_length

pub returns-in_default-clause-last : goal.returns-in_default-clause-last
returns-in_default-clause-last g c = last g (goal.at.returns-in_default-clause-last g c).After-line_length

pub returns-then-ahead-most-clause-takes : goal.returns-then-ahead-most-clause-takes
returns-then-ahead-most-clause-takes g c = takes g (goal.at.returns-then-ahead-most-clause-takes g c).After-line_length

pub returns-then-ahead-most-clause-block : goal.returns-then-ahead-most-clause-block
returns-then-ahead-most-clause-block g c = block g (goal.at.returns-then-ahead-most-clause-block g c).After-line_length

pub returns-then-ahead-most-clause-stopped : goal.returns-then-ahead-most-clause-stopped
returns-then-ahead-most-clause-stopped g c = tt

pub returns-then-ahead-most-clause-reads : goal.returns-then-ahead-most-clause-reads
returns-then-ahead-most-clause-reads g c = within_on c.loop-passed.invariant.quiet c.in_ok-length.ensures.reads

pub returns-in_default-clause-takes : goal.returns-in_default-clause-takes
returns-in_default-clause-takes g c = takes g (goal.at.returns-in_default-clause-takes g c).After-line_length

pub returns-in_default-clause-block : goal.returns-in_default-clause-block
returns-in_default-clause-block g c = block g (goal.at.returns-in_default-clause-block g c).After-line_length

pub returns-in_default-clause-stopped : goal.returns-in_default-clause-stopped
returns-in_default-clause-stopped g c = tt

pub returns-in_default-clause-reads : goal.returns-in_default-clause-reads
returns-in_default-clause-reads g c = within_on c.loop-passed.invariant.quiet c.in_ok-length.ensures.reads

pub returns-then-ahead-most-clause-found : goal.returns-then-ahead-most-clause-found
returns-then-ahead-most-clause-found g c =
    let at = goal.at.returns-then-ahead-most-clause-found g c in
    let none = none_ends g at.In_default in
    (fewer_between (between g at.After-line_length) c.args.count (omega (arith, c.loop-passed-test.true)) none.0, omega (arith, c.if-ahead-most.true, ap length c.ahead.ensures))

pub returns-in_default-clause-found : goal.returns-in_default-clause-found
returns-in_default-clause-found g c =
    let at = goal.at.returns-in_default-clause-found g c in
    let none = none_ends g at.In_default in (
      fewer_between (between g at.After-line_length) c.args.count (omega (arith, c.loop-passed-test.true)) none.0,
      elim none.1 [
        | inl ended ↦ ended
        | inr more ↦ absurd (omega (arith, more, c.if-ahead-most.false, ap length c.ahead.ensures))
      ],
    )

-- and the next one is
next : (g : given.Over) (c : In-Some g) → IsLineAt (drop c.loop-passed.end c.line_length.new.unread.bytes) c.in-Some.length
next g c = rw c.in-Some.is at c.in_ok-length.ensures.found

within : (g : given.Over) (c : In-Some g) (ahead : List ℕ) → ahead ≡ c.line_length.new.unread.bytes → c.loop-passed.end + (c.in-Some.length + 1) ≤ length ahead
within g c ahead is =
    let it = next g c in
    let short = it.within in
    omega (arith, short, length-drop c.loop-passed.end c.line_length.new.unread.bytes, ap length is)

pub overflow_add-end : goal.overflow_add-end
overflow_add-end g c =
    part_fits c.loop-passed.end (c.in-Some.length + 1) (length c.ahead-ahead.result.now) (within g (goal.at.overflow_add-end g c).In-Some c.ahead-ahead.result.now c.ahead-ahead.ensures) c.ahead-ahead.type_inv.0

pub overflow_add-end-in-loop-passed : goal.overflow_add-end-in-loop-passed
overflow_add-end-in-loop-passed g c =
    sum_fits c.loop-passed.end (c.in-Some.length + 1) (length c.ahead-ahead.result.now) (within g (goal.at.overflow_add-end-in-loop-passed g c).In-Some c.ahead-ahead.result.now c.ahead-ahead.ensures) c.ahead-ahead.type_inv.0

pub overflow_add-passed : goal.overflow_add-passed
overflow_add-passed g c = next_fits c.loop-passed.passed c.args.count c.loop-passed-test.true c.ranges.count

pub loop-passed-smaller : goal.loop-passed-smaller
loop-passed-smaller g c = one_less c.loop-passed.passed c.args.count c.loop-passed-test.true

pub loop-passed-preserved : goal.loop-passed-preserved
loop-passed-preserved g c =
    let at = goal.at.loop-passed-preserved g c in
    record {
      between = one_more_between (between g at.After-line_length) c.in-Some.length (next g at.In-Some);
      few = omega (arith, c.loop-passed-test.true);
      takes = takes g at.After-line_length;
      block = block g at.After-line_length;
      last = last g at.After-line_length;
      short = c.in_ok-length.ensures.reads.within;
      quiet = still_quiet c.loop-passed.invariant.quiet c.in_ok-length.ensures.reads;
    }

-- ---- where all are there

pub returns-clause-takes : goal.returns-clause-takes
returns-clause-takes g c = c.loop-passed.invariant.takes

pub returns-clause-found : goal.returns-clause-found
returns-clause-found g c =
    let here = c.loop-passed.invariant in
    subst (AreBetween c.args.from c.loop-passed.end c.loop-passed.unread.bytes) (omega (arith, here.few, c.loop-passed-test.false)) here.between

pub returns-clause-block : goal.returns-clause-block
returns-clause-block g c = c.loop-passed.invariant.block

pub returns-clause-last : goal.returns-clause-last
returns-clause-last g c = c.loop-passed.invariant.last

pub returns-clause-stopped : goal.returns-clause-stopped
returns-clause-stopped g c = tt

pub returns-clause-reads : goal.returns-clause-reads
returns-clause-reads g c = within_ok _ c.loop-passed.invariant.short c.loop-passed.invariant.quiet
