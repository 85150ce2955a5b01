-- The batches' rows, joined, are those of the snapshot.
use Rattle.std.proofs.Common.{List, subst}
use Rattle.counted_io.specs.Writing.{AppendsPrefix}
use Rattle.metering_model.specs.Row.{Row}
use Rattle.metering_model.specs.File.{file}
use Rattle.export_file.proofs.SnapshotExportFile.write_csv_split.Goals as goal

pub returns-clause-prefix : goal.returns-clause-prefix
returns-clause-prefix g c is =
    subst (λ (rs : List Row). AppendsPrefix (g.W.Sink.contents c.args.sink.now) (g.W.Sink.contents c.write_split.new.sink) (file rs)) c.in-Ok.ensures (c.write_split.ensures.writes.prefix is)
