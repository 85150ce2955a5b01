use Rattle.std.proofs.Common.{◌≡◌, ◌+◌, ◌++◌, ◌≤◌, [], length, refl, ap, arith}
use Rattle.metering_model.specs.BatchReading.{Lines, lines_in}
use Rattle.metering_model.specs.Transcript.{line_count}
use Rattle.fault_lines.specs.UnknownKeys.{told_along}
use Rattle.fault_lines.proofs.UnknownLaws.{along_ends, along_goes_on, is_none, left_ends, left_goes_on, lines_fit}
use Rattle.fault_lines.proofs.key_lines.put_along.Goals as goal

pub loop-index-init : goal.loop-index-init
loop-index-init c =
    let here : c.args.opening + 1 ≡ c.args.opening + 1 + 0 = omega arith in (
      ap (λ n. c.args.told.now.items ++ told_along n [] c.args.keys.now.items (lines_in c.args.text.now).lines) here,
      refl,
      omega (arith, lines_fit c.args.text.now),
    )

pub loop-index-preserved : goal.loop-index-preserved
loop-index-preserved c =
    let l = c.loop-index in
    let line = c.in-Some.line.now in
    let rest = ap (λ (ls : Lines). ls.lines) c.in-Some.ensures in
    let n = c.args.opening + 1 + l.index in
    let next : c.args.opening + 1 + (l.index + 1) ≡ n + 1 = omega arith in
    let few : length (lines_in c.in-Some.behind.now).lines + (l.index + 1) ≤ line_count c.args.text.now = omega (arith, ap length rest, l.invariant.2) in (
      along_goes_on _ _ _ l.table.now _ n _ l.keys.items _ _ line _ l.invariant.0 rest c.in-Ok.ensures.told c.in-Ok.ensures.left c.in-Ok.ensures.below next,
      left_goes_on [] [] [] l.table.now _ n n l.keys.items _ _ line _ _ l.invariant.1 rest c.in-Ok.ensures.left c.in-Ok.ensures.below,
      few,
    )

pub returns : goal.returns
returns c =
    let l = c.loop-index in
    let none = is_none (lines_in l.rest.now).lines (omega (arith, l.invariant.2, c.loop-index-test.false, c.line_count-index-end.ensures)) in
    record {
      told = along_ends _ _ [] l.table.now [] (c.args.opening + 1 + l.index) 0 l.keys.items [] _ l.invariant.0 none;
      left = left_ends [] [] [] l.table.now [] 0 0 l.keys.items [] _ _ l.invariant.1 none;
    }

pub returns-in_default : goal.returns-in_default
returns-in_default c =
    let l = c.loop-index in
    record {
      told = along_ends _ _ [] l.table.now [] (c.args.opening + 1 + l.index) 0 l.keys.items [] _ l.invariant.0 c.in_default.ensures;
      left = left_ends [] [] [] l.table.now [] 0 0 l.keys.items [] _ _ l.invariant.1 c.in_default.ensures;
    }
