use Rattle.std.proofs.Common.{ap, ◌∙◌, ◌++◌, []}
use Rattle.fault_lines.specs.Ahead.{ahead_of_all}
use Rattle.schedule_writer.specs.Checks.{journaled_of}
use Rattle.schedule_writer.specs.Inputs.{batches_of, items_in}
use Rattle.std.specs.Prelude.{length}
use Rattle.schedule_writer.proofs.CheckLaws.{on_ok, said_of_given}
use Rattle.schedule_writer.proofs.checking.check_batches.Goals as goal

pub returns : goal.returns
returns c =
    let input = c.args.input.now in
    let same = said_of_given input c.args.given.batch_from c.args.given.sheet c.args.given.issuer c.in-Ok.world c.requires.given.within c.requires.given.is_read c.in-Ok.ensures in
    record {
      told = on_ok c.check_items-checked.result (λ told. told ∙ ap (λ t. c.args.told.now.items ++ t) same) c.check_items-checked.ensures.told;
      ahead = on_ok c.check_items-checked.result
          (λ ahead. ahead
          ∙ ap (λ w. c.args.warned.now.items ++ ahead_of_all [] (journaled_of input w (batches_of (items_in (length input) input c.args.given.batch_from)))) c.in-Ok.ensures)
          c.check_items-checked.ensures.ahead;
    }
