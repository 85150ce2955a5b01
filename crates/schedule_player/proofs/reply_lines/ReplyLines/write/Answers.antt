use Rattle.std.proofs.Common.{◌≡◌, ◌++◌, rules, subst}
use Rattle.counted_io.specs.Writing.{AppendsPrefix}
use Rattle.counted_io.proofs.Prefixes.{prefix_behind}
use Rattle.schedule_player.proofs.Results.{on_err}
use Rattle.schedule_player.proofs.reply_lines.ReplyLines.write.Goals as goal

pub returns-in_err-write-clause-fails : goal.returns-in_err-write-clause-fails
returns-in_err-write-clause-fails g c =
    let whole : c.deref.result.now ++ c.self.inside.file ≡ c.args.self.now.text = search rules in
    record {
      prefix = on_err c.from_residual-in_err-write.result
          (subst (AppendsPrefix (g.W.Sink.contents c.args.writer.now) (g.W.Sink.contents c.write.new.sink)) whole
          (prefix_behind _ _ _ _ _ c.in_ok-write_all.ensures.written c.in_err-write.ensures.prefix));
      count = search rules;
    }
