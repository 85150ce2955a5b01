use Rattle.std.proofs.Common.{◌+◌, ap₂, ◌∙◌}
use Rattle.schedule_writer.proofs.CountedLaws.{lines_split}
use Rattle.schedule_writer.proofs.checking.lines_more.Goals as goal

pub returns : goal.returns
returns c = ap₂ (λ a b. a + b) c.requires.above c.line_count.ensures ∙ lines_split c.args.from c.args.to c.args.input.now c.requires.within.0
