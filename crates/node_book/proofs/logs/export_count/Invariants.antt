use Rattle.std.proofs.Common.{◌≡◌, take, count_by}
use Rattle.node_book.specs.Agreement.{is_export_of}
use Rattle.node_book.proofs.logs.export_count.Given as goal

abbrev pub invariant-loop-one : goal.invariant-loop-one
invariant-loop-one l = l.count ≡ count_by (λ t. is_export_of l.period t.reply) (take l.one-index l.done)
