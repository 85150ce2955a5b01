use Rattle.std.proofs.Common.{◌≡◌, ◌-◌, ◌++◌, take, drop, arith, subst}
use Rattle.focus_csv.specs.Rows.{batch_lines}
use Rattle.std.proofs.lemmas.Result.{IfOk-from_err}
use Rattle.focus_csv.proofs.BeginningLaws.{on_err, longer_begins}
use Rattle.focus_csv.proofs.FileParts.{one_more_of, none_put}
use Rattle.focus_csv.proofs.files.put_between.Goals as goal

pub loop-k-init : goal.loop-k-init
loop-k-init c = none_put c.args.batches.now c.args.text.now.items c.args.from

pub put_batch-requires : goal.put_batch-requires
put_batch-requires c = omega (arith, c.loop-k-test.true, c.requires.within)

pub returns-in_err-put_batch-clause-put : goal.returns-in_err-put_batch-clause-put
returns-in_err-put_batch-clause-put c = IfOk-from_err c.from_residual.result _ c.from_residual.ensures.0

pub loop-k-preserved : goal.loop-k-preserved
loop-k-preserved c =
    one_more_of c.args.batches.now c.args.from c.loop-k.k _ _ _ (omega arith) (omega arith) c.in_ok-put_batch.ensures.put c.loop-k.invariant

pub returns-in_err-put_batch-clause-begins : goal.returns-in_err-put_batch-clause-begins
returns-in_err-put_batch-clause-begins c =
    on_err c.from_residual.result (longer_begins _ _ _ _ c.loop-k.invariant c.in_err-put_batch.ensures.begins)

pub returns-clause-put : goal.returns-clause-put
returns-clause-put c =
    let at_end : c.loop-k.k ≡ c.args.to = omega (arith, c.loop-k-test.false, c.loop-k.auto.k-end, c.requires.order) in
    subst (λ n. c.loop-k.text.items ≡ c.args.text.now.items ++ batch_lines (take (n - c.args.from) (drop c.args.from c.args.batches.now))) at_end c.loop-k.invariant

pub returns-clause-begins : goal.returns-clause-begins
returns-clause-begins c = tt
