-- The text is the file that is written.
use Rattle.std.proofs.Common.{refl, ◌∙◌, subst}
use Rattle.std.specs.Io.KnownBytes.{Appends}
use Rattle.counted_io.specs.Writing.{AppendsPrefix}
use Rattle.export_file.proofs.split.write_unsplit.Goals as goal

pub returns-in_default-clause-writes : goal.returns-in_default-clause-writes
returns-in_default-clause-writes g c = record {
  written = tt;
  prefix = λ is. absurd (cc);
  fault = λ is. absurd (cc);
  count = refl;
}

pub returns-in_default-clause-kept : goal.returns-in_default-clause-kept
returns-in_default-clause-kept g c = λ other. refl

pub returns-in-Ok-write_all-clause-writes : goal.returns-in-Ok-write_all-clause-writes
returns-in-Ok-write_all-clause-writes g c =
    let whole = c.as_slice.ensures.value ∙ c.in-Ok.ensures in
    record {
      written = subst (Appends (g.W.Sink.contents c.args.sink.now) (g.W.Sink.contents c.write_all.new.sink)) whole c.in-Ok-write_all.ensures.written;
      prefix = λ is. absurd (cc);
      fault = λ is. absurd (cc);
      count = c.in-Ok-write_all.ensures.count;
    }

pub returns-in-Ok-write_all-clause-kept : goal.returns-in-Ok-write_all-clause-kept
returns-in-Ok-write_all-clause-kept g c = tt

pub returns-clause-writes : goal.returns-clause-writes
returns-clause-writes g c =
    let whole = c.as_slice.ensures.value ∙ c.in-Ok.ensures in
    record {
      written = tt;
      prefix = λ is. subst (AppendsPrefix (g.W.Sink.contents c.args.sink.now) (g.W.Sink.contents c.write_all.new.sink)) whole c.in-Err.ensures.prefix;
      fault = λ is. c.in-Err.ensures.fault;
      count = c.in-Err.ensures.count;
    }

pub returns-clause-kept : goal.returns-clause-kept
returns-clause-kept g c = λ other. absurd (other refl)
