-- A run that ends among the first bytes ends at the first `=`.
use Rattle.std.proofs.Common.{◌==◌, ◌∙◌, arith}
use Rattle.record_view.proofs.PlainTags.{first_before, first_is_before}
use Rattle.record_view.proofs.plain.key_end.Goals as goal

pub returns-then-run-lt-LANES : goal.returns-then-run-lt-LANES
returns-then-run-lt-LANES c =
    first_before (λ x. x == 61) c.args.text.now 16 c.long_key_run-run.result c.args.end c.long_key_run-run.ensures
    c.if-run-lt-LANES.true (omega arith) c.requires

pub returns-then-run-lt-FEW_LANES : goal.returns-then-run-lt-FEW_LANES
returns-then-run-lt-FEW_LANES c =
    first_before (λ x. x == 61) c.args.text.now 8 c.key_run-run.result c.args.end c.key_run-run.ensures
    c.if-run-lt-FEW_LANES.true (omega arith) c.requires

pub returns : goal.returns
returns c =
    first_is_before (λ x. x == 61) c.args.text.now c.args.end c.key_end_by_bytes.result c.requires c.key_end_by_bytes.ensures
    ∙ c.key_end_by_bytes.ensures
