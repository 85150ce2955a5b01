-- The header line and the lines of all batches are the file.
use Rattle.std.proofs.Common.{subst}
use Rattle.std.specs.Io.KnownBytes.{Appends}
use Rattle.counted_io.specs.Writing.{AppendsPrefix}
use Rattle.export_file.proofs.PartLaws.{file_in}
use Rattle.export_file.proofs.split.write_split.Goals as goal

pub returns-in-Ok-write_rooms-clause-writes : goal.returns-in-Ok-write_rooms-clause-writes
returns-in-Ok-write_rooms-clause-writes g c =
    let batches = c.args.batches.now in
    let whole = file_in batches c.as_slice.result.now c.in-Ok.rooms.items c.as_slice.ensures.value c.in-Ok.ensures (c.a_file_is_written_in_parts.ensures.whole batches) in
    record {
      written = subst (Appends (g.W.Sink.contents c.args.sink.now) (g.W.Sink.contents c.write_rooms.new.sink)) whole c.in-Ok-write_rooms.ensures.written;
      prefix = λ is. absurd (cc);
      fault = λ is. absurd (cc);
      count = c.in-Ok-write_rooms.ensures.count;
    }

pub returns-clause-writes : goal.returns-clause-writes
returns-clause-writes g c =
    let batches = c.args.batches.now in
    let whole = file_in batches c.as_slice.result.now c.in-Ok.rooms.items c.as_slice.ensures.value c.in-Ok.ensures (c.a_file_is_written_in_parts.ensures.whole batches) in
    record {
      written = tt;
      prefix = λ is. subst (AppendsPrefix (g.W.Sink.contents c.args.sink.now) (g.W.Sink.contents c.write_rooms.new.sink)) whole c.in-Err.ensures.prefix;
      fault = λ is. c.in-Err.ensures.fault;
      count = c.in-Err.ensures.count;
    }
