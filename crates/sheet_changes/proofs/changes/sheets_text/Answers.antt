use Rattle.std.proofs.Common.{refl, sym, ap, ◌∙◌}
use Rattle.counted_io.specs.Counts.{count_after}
use Rattle.input_sections.specs.declared.faults.ScheduleFault.TheVariants.{OutOfMemory}
use Rattle.program_input.specs.declared.faults.PlayFault.TheVariants.{Refused, Schedule, Write}
use Rattle.sheet_changes.specs.Changes.{two_sheets_in}
use Rattle.sheet_changes.specs.declared.faults.SheetsFault.TheVariants.{Input}
use Rattle.sheet_changes.proofs.InputLaws.{never_too_long, none_read, none_written, not_promised, not_unlike, refused_there, same_fault}
use Rattle.sheet_changes.proofs.SaidLaws.{longer_input}
use Rattle.sheet_changes.proofs.changes.sheets_text.Goals as goal

pub returns-in-Err : goal.returns-in-Err
returns-in-Err g c =
    let fault = c.in-Err.fault in
    let no = c.in-Err.ensures.no_other in
    record {
      said = tt;
      unlike = λ is. not_unlike fault is;
      prefix = λ is. absurd (no.no_write (same_fault fault Write is));
      faults = record {
        section = λ other is.
            let long = c.in-Err.ensures.section other (same_fault fault (Schedule other) is) in
            longer_input (g.R.Source.remaining c.args.reader.now) other long.1 long.0;
        plain_memory = λ is. never_too_long (c.in-Err.ensures.section OutOfMemory (same_fault fault (Schedule OutOfMemory) is)).0;
        unrefused = λ refusal is. no.no_refusal refusal (same_fault fault (Refused refusal) is);
      };
      kept = λ unlike written. refl;
      streams = record {
        read = c.in-Err.ensures.taken;
        end = λ promised. absurd (not_promised fault promised);
        reads = c.in-Err.ensures.count;
        writes = sym (ap (λ b. count_after b (g.W.Sink.failed_calls c.args.writer.now)) (none_written fault no.no_write));
      };
    }

pub returns : goal.returns
returns g c =
    let fault = c.in-Err-compare_input.fault in
    let told = c.in-Err-compare_input.ensures in
    let same = sym c.deref.ensures.value in
    record {
      said = tt;
      unlike = λ is. not_unlike fault is;
      prefix = λ is.
          let part = told.prefix (same_fault fault Write is) in
          (part.0, part.1, part.2, record { input = c.in-Ok.input.items; is_input = c.in-Ok.ensures.whole; are_sheets = ap two_sheets_in same ∙ part.3; is_said = part.4 }, part.5);
      faults = record {
        section = λ other is.
            refused_there (g.R.Source.remaining c.args.reader.now) c.in-Ok.input.items other c.in-Ok.ensures.whole (ap two_sheets_in same ∙ (told.section other (same_fault fault (Schedule other) is)).1);
        plain_memory = λ is. (told.section OutOfMemory (same_fault fault (Schedule OutOfMemory) is)).0 refl;
        unrefused = λ refusal is. told.others.1 refusal (same_fault fault (Refused refusal) is);
      };
      kept = λ unlike written. told.kept (λ is. written (ap Input is));
      streams = record {
        read = c.in-Ok.ensures.taken;
        end = λ promised. absurd (not_promised fault promised);
        reads = c.in-Ok.ensures.count ∙ sym (ap (λ b. count_after b (g.R.Source.failed_calls c.args.reader.now)) (none_read fault told.others.0));
        writes = told.writes;
      };
    }
