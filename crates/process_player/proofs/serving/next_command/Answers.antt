use Rattle.std.proofs.Common.{◌<◌, ap, arith, drop, length}
use Rattle.std.proofs.lemmas.Result.{err_from_is_err_and}
use Rattle.metering_model.specs.BatchReading.{lines_in}
use Rattle.line_source.proofs.Taking.{reads_on}
use Rattle.process_player.proofs.AtHand.{at_hand}
use Rattle.process_player.proofs.CommandTexts.{command_later, passes_twice, some_first, torn_first, torn_later}
use Rattle.process_player.proofs.Failing.{answer_reads, failed_short, handed, none_found, reads_behind, same_fault, source_long, source_reads}
use Rattle.process_player.proofs.Passing.{passes_marked}
use Rattle.process_player.proofs.Refusing.{long_read}
use Rattle.process_player.proofs.serving.next_command.Goals as goal

pub returns-in_default : goal.returns-in_default
returns-in_default g c = record {
  passes = passes_marked c.mark.ensures.bytes c.in_ok-end.ensures.takes;
  found = let few = rw c.in_default.is at c.in_ok-end.ensures.found in
      (few.1, torn_first c.args.process.now c.lines_end.new.unread.bytes few.0);
  reads = answer_reads _ c.in_ok-end.ensures.reads;
  others = tt;
  failed = tt;
}

pub slice_bounds-lines_below-count : goal.slice_bounds-lines_below-count
slice_bounds-lines_below-count g c = some_first (rw c.in-Some.is at c.in_ok-end.ensures.found)

pub returns-in_default-2 : goal.returns-in_default-2
returns-in_default-2 g c = record {
  passes = passes_twice c.mark.ensures.bytes c.in_ok-end.ensures.takes c.in_ok-all.ensures.takes;
  found = let one = rw c.in-Some.is at c.in_ok-end.ensures.found in
      let few = rw c.in_default-2.is at c.in_ok-all.ensures.found in (
        few.1,
        torn_later c.args.process.now c.in-Some.end c.lines_below-lines.result c.from.result c.lines_end.new.unread.bytes c.ahead.result.now c.lines_end-2.new.unread.bytes
            one c.in_ok-all.ensures.takes c.lines_below-lines.ensures.value c.ahead.ensures c.from.ensures few.0,
      );
  reads = reads_behind c.in_ok-end.ensures.reads (answer_reads _ c.in_ok-all.ensures.reads);
  others = tt;
  failed = tt;
}

pub returns : goal.returns
returns g c = record {
  passes = passes_twice c.mark.ensures.bytes c.in_ok-end.ensures.takes c.in_ok-all.ensures.takes;
  found = let one = rw c.in-Some.is at c.in_ok-end.ensures.found in
      let below = rw c.in-Some-2.is at c.in_ok-all.ensures.found in
      command_later c.args.process.now c.in-Some.end c.lines_below-lines.result c.from.result c.in-Some-2.all c.lines_end.new.unread.bytes c.ahead.result.now c.lines_end-2.new.unread.bytes
      one c.in_ok-all.ensures.takes c.lines_below-lines.ensures.value c.ahead.ensures c.from.ensures below
      (at_hand (at_hand (omega (arith, c.requires.at_hand, ap length c.mark.ensures.bytes)) one c.lines_end.ensures.last) below c.lines_end-2.ensures.last);
  reads = reads_behind c.in_ok-end.ensures.reads (answer_reads _ c.in_ok-all.ensures.reads);
  others = tt;
  failed = tt;
}

-- ---- for what the search finds too, and takes long for

pub lines_end-requires-clause-read : goal.lines_end-requires-clause-read
lines_end-requires-clause-read g c = omega (arith, c.mark.ensures.within, c.requires.read)

pub returns-in_err-end : goal.returns-in_err-end
returns-in_err-end g c = record {
  passes = passes_marked c.mark.ensures.bytes c.in_err-end.ensures.takes;
  found = none_found (handed (err_from_is_err_and c.from_residual.result c.from_residual.ensures.1)) _;
  reads = source_reads (handed (err_from_is_err_and c.from_residual.result c.from_residual.ensures.1)) c.in_err-end.ensures.reads;
  others = source_long (handed (err_from_is_err_and c.from_residual.result c.from_residual.ensures.1)) c.in_err-end.ensures.reads (long_read c.mark.ensures.bytes c.in_err-end.ensures.takes c.mark.ensures.read);
  failed = same_fault (handed (err_from_is_err_and c.from_residual.result c.from_residual.ensures.1)) _ (λ is.
      torn_first c.args.process.now c.lines_end.new.unread.bytes
      (failed_short (λ held. length (lines_in held).lines < 1) c.mark.new.self.bytes c.lines_end.new.unread.bytes c.in_err-end.field-0.0 is c.in_err-end.ensures.stopped));
}

pub lines_end-requires-2-clause-read : goal.lines_end-requires-2-clause-read
lines_end-requires-2-clause-read g c = c.in_ok-end.ensures.reads.within

pub lines_end-requires-2-clause-from : goal.lines_end-requires-2-clause-from
lines_end-requires-2-clause-from g c = (rw c.in-Some.is at c.in_ok-end.ensures.found).within

pub returns-in_err-all : goal.returns-in_err-all
returns-in_err-all g c = record {
  passes = passes_twice c.mark.ensures.bytes c.in_ok-end.ensures.takes c.in_err-all.ensures.takes;
  found = none_found (handed (err_from_is_err_and c.from_residual-in_err-all.result c.from_residual-in_err-all.ensures.1)) _;
  reads = reads_behind c.in_ok-end.ensures.reads (source_reads (handed (err_from_is_err_and c.from_residual-in_err-all.result c.from_residual-in_err-all.ensures.1)) c.in_err-all.ensures.reads);
  others = source_long (handed (err_from_is_err_and c.from_residual-in_err-all.result c.from_residual-in_err-all.ensures.1)) c.in_err-all.ensures.reads (long_read c.mark.ensures.bytes (reads_on c.in_ok-end.ensures.takes c.in_err-all.ensures.takes) c.mark.ensures.read);
  failed = same_fault (handed (err_from_is_err_and c.from_residual-in_err-all.result c.from_residual-in_err-all.ensures.1)) _ (λ is.
      torn_later c.args.process.now c.in-Some.end c.lines_below-lines.result c.from.result c.lines_end.new.unread.bytes c.ahead.result.now c.lines_end-2.new.unread.bytes
      (rw c.in-Some.is at c.in_ok-end.ensures.found) c.in_err-all.ensures.takes c.lines_below-lines.ensures.value c.ahead.ensures c.from.ensures
      (failed_short (λ held. length (lines_in (drop c.in-Some.end held)).lines < c.from.result) c.lines_end.new.unread.bytes c.lines_end-2.new.unread.bytes c.in_err-all.field-0.0 is c.in_err-all.ensures.stopped));
}
