-- Each increment is read behind those before it, and nothing is left behind the last.
use Rattle.std.proofs.Common.{sym, ◌∙◌, arith}
use Rattle.node_kept.proofs.WholeTexts.{empty_by_length}
use Rattle.log_text.proofs.ReadSections.{told_so}
use Rattle.log_text.proofs.ReadLogs.{all_read, reads_first, step_fault, step_more, torn_end}
use Rattle.log_text.proofs.reading.add_increments.Goals as goal

pub loop-here-init : goal.loop-here-init
loop-here-init c = reads_first c.args.text.now c.args.first c.args.parts.now c.requires.kept

pub add_step-requires : goal.add_step-requires
add_step-requires c = c.loop-here.invariant.is_kept

pub overflow_add-line : goal.overflow_add-line
overflow_add-line c =
    let l = c.loop-here in
    let most = c.requires.lines in
    let more = step_more c.args.text.now c.args.first c.args.parts.now l.line l.parts l.rest.now l.invariant c.in-Some.here.now c.in-Some.below.now c.in-Some.ensures c.add_step.new.parts c.in-Ok.step.lines c.in-Ok.step.behind.now c.in-Ok.ensures in
    let all = more.lines_of in
    omega (arith, all, most)

pub returns-in-Err : goal.returns-in-Err
returns-in-Err c =
    let l = c.loop-here in
    told_so c.in-Err.fault _ _ (λ f lacking. step_fault c.args.text.now c.args.first c.args.parts.now l.line l.parts l.rest.now l.invariant c.in-Some.here.now c.in-Some.below.now c.in-Some.ensures f lacking) c.in-Err.ensures

pub loop-here-preserved : goal.loop-here-preserved
loop-here-preserved c =
    let l = c.loop-here in
    step_more c.args.text.now c.args.first c.args.parts.now l.line l.parts l.rest.now l.invariant c.in-Some.here.now c.in-Some.below.now c.in-Some.ensures c.add_step.new.parts c.in-Ok.step.lines c.in-Ok.step.behind.now c.in-Ok.ensures

pub returns-then-not-is_empty : goal.returns-then-not-is_empty
returns-then-not-is_empty c =
    let l = c.loop-here in
    torn_end c.args.text.now c.args.first c.args.parts.now l.line l.parts l.rest.now l.invariant c.in_default.ensures (empty_by_length l.rest.now ∙ sym c.is_empty.ensures ∙ c.if-not-is_empty.true)

pub returns : goal.returns
returns c =
    let l = c.loop-here in
    (l.invariant.is_kept, all_read c.args.text.now c.args.first c.args.parts.now l.line l.parts l.rest.now l.invariant c.in_default.ensures (empty_by_length l.rest.now ∙ sym c.is_empty.ensures ∙ c.if-not-is_empty.false))
