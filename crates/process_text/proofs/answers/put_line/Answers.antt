use Rattle.std.proofs.Common.{[], ◌∷◌, ◌+◌}
use Rattle.log_text.proofs.WrittenLines.{then_put}
use Rattle.process_text.proofs.Told.{digit_put, line_put}
use Rattle.process_text.proofs.answers.put_line.Goals as goal

pub returns : goal.returns
returns c =
    then_put c.extend_from_slice-2.result c.put_numbered.new.text.items _ (10 ∷ []) _ c.extend_from_slice-2.ensures.items
    (line_put c.args.text.now.items _ c.args.word.now c.from.result c.args.number c.from.ensures c.in-Ok-put_numbered.ensures.put)

pub returns-then-number-lt10 : goal.returns-then-number-lt10
returns-then-number-lt10 c =
    then_put c.extend_from_slice-then-number-lt10.result c.extend_from_slice.new.self.items _ ((48 + c.args.number) ∷ 10 ∷ []) _
    c.extend_from_slice-then-number-lt10.ensures.items
    (digit_put c.args.text.now.items _ c.args.word.now c.args.number c.if-number-lt10.true c.in-Ok.ensures.items)
