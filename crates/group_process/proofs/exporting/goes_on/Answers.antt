use Rattle.std.proofs.Common.{◌-◌, ◌<◌, length, ap, sym, ◌∙◌, arith}
use Rattle.std.specs.Arc.{arc_value}
use Rattle.group_process.proofs.Growing.{first_goes_on, learned_size, none_absent, test_in_turn}
use Rattle.group_process.proofs.exporting.goes_on.Goals as goal

pub returns-then-period-eq0 : goal.returns-then-period-eq0
returns-then-period-eq0 c =
    rw (c.if-period-eq0.true) (sym (first_goes_on _ _ c.voters.ensures.within.kept.cuts (omega (arith, c.if-period-eq0.true))))

pub returns-in_default : goal.returns-in_default
returns-in_default c =
    let within : c.args.period - 1 < length c.args.node.now.node.kept.learned = omega arith in
    absurd (none_absent c.args.node.now.node.kept.learned (c.args.period - 1) within (sym c.in_default.ensures))

pub returns-in_default-learned : goal.returns-in_default-learned
returns-in_default-learned c = absurd (none_absent c.args.node.now.node.kept.learned c.args.period c.requires (sym c.in_default-learned.ensures))

pub at_least-requires : goal.at_least-requires
at_least-requires c =
    let sizes = c.voters.ensures.within.kept.cuts in
    let before = learned_size _ _ _ _ sizes (sym c.in-Some.ensures) in
    let cut = learned_size _ _ _ _ sizes (sym c.in-Some-learned.ensures) in
    ap length c.deref.ensures ∙ (cut ∙ sym (ap length c.deref-2.ensures ∙ before))

pub returns : goal.returns
returns c =
    let tells = rw (c.deref.ensures, c.deref-2.ensures) at c.at_least.ensures in
    test_in_turn c.at_least.result _ _ c.args.period (arc_value c.in-Some.before.now) (arc_value c.in-Some-learned.cut.now) c.if-period-eq0.false (sym c.in-Some.ensures) (sym c.in-Some-learned.ensures) tells
