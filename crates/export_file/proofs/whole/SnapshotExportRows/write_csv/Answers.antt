-- The batches' rows, joined, are those of the snapshot.
use Rattle.std.proofs.Common.{List, subst}
use Rattle.counted_io.specs.Writing.{AppendsPrefix, AppendsSome}
use Rattle.metering_model.specs.Row.{Row}
use Rattle.metering_model.specs.File.{file}
use Rattle.export_file.proofs.whole.SnapshotExportRows.write_csv.Goals as goal

pub returns-clause-prefix : goal.returns-clause-prefix
returns-clause-prefix g c is =
    subst (λ (rs : List Row). AppendsPrefix (g.W.Sink.contents c.args.sink.now) (g.W.Sink.contents c.write_rows.new.sink) (file rs)) c.in-Ok.ensures (c.write_rows.ensures.prefix is)

pub returns-clause-memory : goal.returns-clause-memory
returns-clause-memory g c is =
    subst (λ (rs : List Row). AppendsSome (g.W.Sink.contents c.args.sink.now) (g.W.Sink.contents c.write_rows.new.sink) (file rs)) c.in-Ok.ensures (c.write_rows.ensures.memory is)
