use Rattle.std.proofs.Common.{not, sym, ap, ◌∙◌, arith}
use Rattle.fault_lines.specs.Inner.KeyKinds.{is_of_kind}
use Rattle.fault_lines.proofs.KeyWalks.{first_here, first_later, first_nowhere}
use Rattle.fault_lines.proofs.key_lines.count_in_front.Goals as goal

pub returns-then-not-is_of_kind : goal.returns-then-not-is_of_kind
returns-then-not-is_of_kind c =
    let l = c.loop-index in
    record {
      within = omega (arith, c.loop-index-test.true);
      first_other =
          first_here (λ b. not (is_of_kind c.args.kind b)) c.args.line.now l.index c.loop-index-test.true (ap not (sym c.is_of_kind.ensures ∙ c.if-not-is_of_kind.true)) l.invariant;
    }

pub loop-index-init : goal.loop-index-init
loop-index-init c = omega arith

pub loop-index-preserved : goal.loop-index-preserved
loop-index-preserved c =
    let l = c.loop-index in
    first_later (λ b. not (is_of_kind c.args.kind b)) c.args.line.now l.index c.loop-index-test.true (ap not (sym c.is_of_kind.ensures ∙ c.if-not-is_of_kind.false)) l.invariant

pub returns : goal.returns
returns c =
    let l = c.loop-index in
    record {
      within = omega arith;
      first_other = first_nowhere (λ b. not (is_of_kind c.args.kind b)) c.args.line.now l.index (omega (arith, c.loop-index-test.false, l.auto.index-end)) l.invariant;
    }
