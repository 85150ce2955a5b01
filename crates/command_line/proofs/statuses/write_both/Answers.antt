use Rattle.std.proofs.Common.{is_err, ap, ◌∙◌}
use Rattle.std.proofs.KnownBytes.{Appends-trans}
use Rattle.std.proofs.lemmas.Result.{on_ok_weaker}
use Rattle.counted_io.specs.Counts.{count_after}
use Rattle.command_line.proofs.PartLaws.{part_of_both}
use Rattle.command_line.proofs.statuses.write_both.Goals as goal

pub returns : goal.returns
returns g c =
    let first = c.in_ok-write_all.ensures in
    let second = c.write_all-2.ensures in
    record {
      written = on_ok_weaker c.write_all-2.result (λ more. Appends-trans _ _ _ c.args.first.now c.args.second.now first.written more) second.written;
      prefix = part_of_both _ _ _ c.args.first.now c.args.second.now c.write_all-2.result first.written second.prefix;
      count = second.count ∙ ap (count_after (is_err c.write_all-2.result)) first.count;
    }
