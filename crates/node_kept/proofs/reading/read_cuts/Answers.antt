use Rattle.std.proofs.Common.{◌≡◌, ◌+◌, [], ◌∷◌, ◌++◌, map, cond, Err, sym, ap, ◌∙◌, subst}
use Rattle.std.specs.Arc.{arc_value}
use Rattle.std.proofs.lemmas.Result.{err_from_is_err_and}
use Rattle.metering_model.specs.BatchReading.{lines_in}
use Rattle.metering_model.specs.KeptText.{cuts_in}
use Rattle.node_kept.proofs.ReadSteps.{AreReadSoFar, told_so, cut_fault, reads_cut, none_so_far, all_cuts}
use Rattle.node_kept.proofs.WriteSteps.{map_one_more}
use Rattle.node_kept.proofs.reading.read_cuts.Goals as goal

pub returns-in_err-cut : goal.returns-in_err-cut
returns-in_err-cut c =
    let i = c.loop-index.index in
    let p = err_from_is_err_and c.from_residual.result c.from_residual.ensures.1 in
    rw (p.1, p.2) (told_so c.in_err-cut.field-0.0 _ _ (λ f e. cut_fault c.args.text.now 2 c.args.agents c.args.count i (map arc_value c.loop-index.cuts.items) c.loop-index.rest.now f c.loop-index-test.true c.loop-index.invariant
    (subst (λ n. cuts_in (2 + n) c.args.agents 1 (lines_in c.loop-index.rest.now).lines ≡ Err f) c.from-in-loop-index.ensures e)) c.in_err-cut.ensures)

pub loop-index-preserved : goal.loop-index-preserved
loop-index-preserved c =
    let l = c.loop-index in
    let cut = c.in_ok-cut.cut in
    let pushed = c.push.ensures.items ∙ ap (λ b. cond b (l.cuts.items ++ cut ∷ []) l.cuts.items) c.if-is_err.ensures.negation in
    reads_cut c.args.text.now 2 c.args.agents c.args.count l.index _ (map arc_value l.cuts.items) _ l.rest.now (arc_value cut) c.in_ok-cut.behind.now
    (ap (λ n. 2 + n) c.from-in-loop-index.ensures) (ap (map arc_value) pushed ∙ map_one_more arc_value l.cuts.items cut) c.loop-index-test.true l.invariant c.in_ok-cut.ensures

pub loop-index-init : goal.loop-index-init
loop-index-init c =
    let text = c.args.text.now in
    subst (λ cuts. AreReadSoFar text 2 c.args.agents c.args.count 0 cuts text) (sym (ap (map arc_value) c.in-Ok.ensures.items)) (none_so_far text 2 c.args.agents c.args.count)

pub read_cut-requires-clause-from : goal.read_cut-requires-clause-from
read_cut-requires-clause-from c = c.requires.from

pub read_cut-requires-clause-to : goal.read_cut-requires-clause-to
read_cut-requires-clause-to c = c.requires.to

pub returns-in_default : goal.returns-in_default
returns-in_default c = tt

pub returns-then-is_err : goal.returns-then-is_err
returns-then-is_err c = tt

pub returns : goal.returns
returns c =
    let l = c.loop-index in
    all_cuts c.args.text.now 2 c.args.agents c.args.count l.index (map arc_value l.cuts.items) l.rest.now c.loop-index-test.false l.invariant
