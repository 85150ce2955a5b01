use Rattle.std.proofs.Common.{ap, ◌∙◌, arith}
use Rattle.batch_store.specs.Inner.Rows.{batches_in}
use Rattle.batch_store.proofs.RowLaws.{part_behind, part_there}
use Rattle.batch_store.proofs.row.part_at.Goals as goal

pub returns-then-part-parts : goal.returns-then-part-parts
returns-then-part-parts c =
    c.deref-then-part-parts.ensures.value
    ∙ (ap (λ v. v.items) c.deref.ensures
    ∙ (ap batches_in c.index-parts-part.is ∙ part_there c.args.parts.now c.args.last.now c.args.part c.index-parts-part.result (omega arith)))

pub returns-else-part-parts : goal.returns-else-part-parts
returns-else-part-parts c = part_behind c.args.parts.now c.args.last.now c.args.part (omega arith) (omega arith)
