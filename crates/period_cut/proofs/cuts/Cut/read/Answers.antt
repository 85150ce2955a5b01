use Rattle.std.proofs.Common.{◌≡◌, suc, ◌<◌, ◌++◌, [], ◌∷◌, sym, subst, ◌∙◌, add-one, arith}
use Rattle.period_cut.specs.Limits.{IsCut}
use Rattle.period_cut.proofs.CutTexts.{at_none, at_some, read_none, read_one, read_ends_early, read_bad, read_goes_on, read_last, read_is_cut}
use Rattle.period_cut.proofs.cuts.Cut.read.Goals as goal

pub returns-then-is_some : goal.returns-then-is_some
returns-then-is_some c =
    let more = at_some c.split_at_bar-2.result _ _ c.split_at_bar-2.ensures (sym c.is_some.ensures ∙ c.if-is_some.true) in
    let last : suc c.loop.counter ≡ c.args.agents = omega (arith, c.loop-test.false, c.loop.auto.counter-end, c.requires.from) in
    sym (read_goes_on c.args.agents c.args.line.now c.loop.counter c.loop.entries.items c.loop.rest.now more.0.0.now more.0.1.now last c.loop.invariant more.1)

pub invariant_of-result : goal.invariant_of-result
invariant_of-result c =
    let alone = at_none c.split_at_bar-2.result _ _ c.split_at_bar-2.ensures (sym c.is_some.ensures ∙ c.if-is_some.false) in
    let last : suc c.loop.counter ≡ c.args.agents = omega (arith, c.loop-test.false, c.loop.auto.counter-end, c.requires.from) in
    let seq = c.in-Some-read_whole-2.seq in
    let read = read_last c.args.agents c.args.line.now c.loop.counter c.loop.entries.items c.loop.rest.now seq last c.loop.invariant alone (sym c.in-Some-read_whole-2.ensures.value) in
    subst IsCut (sym c.in_ok-push-2.ensures.items) (read_is_cut c.args.agents c.args.line.now (c.loop.entries.items ++ seq ∷ []) c.requires.from c.requires.to read)

pub loop-init : goal.loop-init
loop-init c = rw c.in_ok-entries.ensures.items (read_none c.args.agents c.args.line.now)

pub returns-in_default : goal.returns-in_default
returns-in_default c =
    let more : suc c.loop.counter < c.args.agents = omega (arith, c.loop-test.true) in
    sym (read_ends_early c.args.agents c.args.line.now c.loop.counter c.loop.entries.items c.loop.rest.now more c.loop.invariant c.in_default.ensures)

pub returns-in_default-read_whole : goal.returns-in_default-read_whole
returns-in_default-read_whole c =
    sym (read_bad c.args.agents c.args.line.now c.loop.counter c.loop.entries.items c.loop.rest.now _ _ c.loop.invariant c.in-Some.ensures (sym c.in_default-read_whole.ensures.value))

pub loop-preserved : goal.loop-preserved
loop-preserved c =
    let low : c.loop.counter < c.args.agents = omega (arith, c.loop-test.true) in
    let field = c.in-Some.field.now in
    let behind = c.in-Some.behind.now in
    let seq = c.in-Some-read_whole.seq in
    rw (c.in_ok-push.ensures.items, add-one)
    (read_one c.args.agents c.args.line.now c.loop.counter c.loop.entries.items c.loop.rest.now field behind seq low c.loop.invariant c.in-Some.ensures (sym c.in-Some-read_whole.ensures.value))

pub returns-in_default-read_whole-2 : goal.returns-in_default-read_whole-2
returns-in_default-read_whole-2 c =
    let alone = at_none c.split_at_bar-2.result _ _ c.split_at_bar-2.ensures (sym c.is_some.ensures ∙ c.if-is_some.false) in
    sym (read_bad c.args.agents c.args.line.now c.loop.counter c.loop.entries.items c.loop.rest.now _ _ c.loop.invariant alone (sym c.in_default-read_whole-2.ensures.value))

pub returns : goal.returns
returns c =
    let alone = at_none c.split_at_bar-2.result _ _ c.split_at_bar-2.ensures (sym c.is_some.ensures ∙ c.if-is_some.false) in
    let last : suc c.loop.counter ≡ c.args.agents = omega (arith, c.loop-test.false, c.loop.auto.counter-end, c.requires.from) in
    let seq = c.in-Some-read_whole-2.seq in
    let read = read_last c.args.agents c.args.line.now c.loop.counter c.loop.entries.items c.loop.rest.now seq last c.loop.invariant alone (sym c.in-Some-read_whole-2.ensures.value) in
    rw c.in_ok-push-2.ensures.items (sym read)
