use Rattle.std.proofs.Common.{subst, arith}
use Rattle.line_source.specs.Lines.{IsLineAt}
use Rattle.line_source.proofs.LineTexts.{one_more_in_front}
use Rattle.line_source.proofs.lines.lines_in_front.Goals as goal

pub loop-count-preserved : goal.loop-count-preserved
loop-count-preserved c =
    let next = subst (λ t. IsLineAt t c.in-Some.length) c.split_at.ensures.back c.in-Some.ensures in
    record {
      passed = one_more_in_front c.args.text.now c.loop-count.count c.loop-count.at c.in-Some.length c.loop-count.invariant.passed next;
      few = omega arith;
      begun = λ is. absurd (omega (arith, is));
    }
