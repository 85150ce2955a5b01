-- The line that says what was stored has its line feed, and what it says is taken with it, or refused.
use Rattle.std.proofs.Common.{◌≡◌, ◌-◌, ◌<◌, Ok, Err, Some, length, take, drop, codes, refl, sym, ap, ◌∙◌, subst, arith}
use Rattle.std.proofs.lemmas.Result.{err_from_is_err_and}
use Rattle.metering_model.specs.BatchReading.{is_same, lines_in}
use Rattle.line_source.specs.Lines.{AreBetween}
use Rattle.line_source.proofs.Taking.{reads_on}
use Rattle.log_text.specs.LogText.{IsLogHead, log_in, section_in}
use Rattle.process_player.proofs.AtHand.{at_hand}
use Rattle.process_player.proofs.Between.{between_long}
use Rattle.process_player.specs.Inner.Refusing.{OfAll, RejectsStored}
use Rattle.process_player.proofs.StoredLaws.{few_ahead, log_refused, log_taken, new_taken, none_ahead, none_comes, none_said, too_few}
use Rattle.process_player.proofs.Failing.{answer_reads, failed_short, handed, never_write, no_read, none_found, ok_no_write, read_still, reads_behind, same_fault, silent_reads, source_no_write, source_reads}
use Rattle.process_player.proofs.Refusing.{log_no_read, log_no_write, log_reads, long_read, source_rejects}
use Rattle.process_player.proofs.CommandTexts.{passes_twice}
use Rattle.process_player.proofs.Passing.{passes_marked}
use Rattle.process_player.proofs.stored.read_stored.Given as given
use Rattle.process_player.proofs.stored.read_stored.Goals.{In-Some, In-Some-log_lines}
use Rattle.process_player.proofs.stored.read_stored.Goals as goal

first : (g : given.Over) (c : In-Some g) → AreBetween 0 c.in-Some.end c.lines_end.new.unread.bytes 1
first g c = rw c.in-Some.is at c.in_ok-end.ensures.found

-- less than a block is ahead behind it
behind_first : (g : given.Over) (c : In-Some g) → length (drop c.in-Some.end c.lines_end.new.unread.bytes) < 65_536
behind_first g c = at_hand (omega (arith, c.requires.at_hand, ap length c.mark.ensures.bytes)) (first g c) c.lines_end.ensures.last

says : (g : given.Over) (c : In-Some-log_lines g) → section_in (codes "log ") 4_294_967_295 (take (c.in-Some.end - 1) c.lines_end.new.unread.bytes) ≡ Some c.in-Some-log_lines.lines
says g c = ap (λ t. section_in (codes "log ") 4_294_967_295 (take (c.in-Some.end - 1) t)) (sym c.ahead-2.ensures) ∙ sym c.in-Some-log_lines.ensures

pub slice_bounds-is_same-count : goal.slice_bounds-is_same-count
slice_bounds-is_same-count g c = omega (arith, between_long (first g (goal.at.slice_bounds-is_same-count g c).In-Some))

pub slice_bounds-log_lines-count : goal.slice_bounds-log_lines-count
slice_bounds-log_lines-count g c = omega (arith, between_long (first g (goal.at.slice_bounds-log_lines-count g c).In-Some))

pub returns-then-is_same : goal.returns-then-is_same
returns-then-is_same g c = record {
  taken = let end = c.in-Some.end in
      let is = ap (λ t. is_same (take (end - 1) t) (codes "new")) (sym c.ahead.ensures) ∙ sym c.is_same.ensures ∙ c.if-is_same.true in
      let in_some = (goal.at.returns-then-is_same g c).In-Some in
      new_taken c.args.own.now c.mark.ensures.bytes c.lines_end.ensures.takes (first g in_some) is (c.release.ensures.bytes ∙ c.take.ensures.bytes) (behind_first g in_some);
  refused = tt;
  reads = read_still (c.release.ensures.read ∙ c.take.ensures.read) (answer_reads _ c.in_ok-end.ensures.reads);
  no_write = ok_no_write;
  failed = tt;
}

pub returns : goal.returns
returns g c = record {
  taken = let end = c.in-Some.end in
      let all = c.in-Some-2.all in
      let read = ap (λ t. log_in (take (all - end) (drop end t))) (sym c.ahead-3.ensures) ∙ c.in_ok-kept.ensures.read ∙ ap (λ h. Ok (record { head = h; kept = c.in_ok-kept.kept })) c.head.ensures in
      let in_some = (goal.at.returns g c).In-Some in
      let lines = rw c.in-Some-2.is at c.in_ok-all.ensures.found in
      log_taken c.args.own.now c.mark.ensures.bytes c.lines_end.ensures.takes (first g in_some) c.lines_end-2.ensures.takes lines
      (says g (goal.at.returns g c).In-Some-log_lines) read (c.release-2.ensures.bytes ∙ c.take-2.ensures.bytes)
      (at_hand (behind_first g in_some) lines c.lines_end-2.ensures.last);
  refused = tt;
  reads = read_still (c.release-2.ensures.read ∙ c.take-2.ensures.read) (reads_behind c.in_ok-end.ensures.reads (answer_reads _ c.in_ok-all.ensures.reads));
  no_write = ok_no_write;
  failed = tt;
}

pub returns-in_default-log_lines : goal.returns-in_default-log_lines
returns-in_default-log_lines g c = record {
  taken = tt;
  refused = let end = c.in-Some.end in
      let not_new = ap (λ t. is_same (take (end - 1) t) (codes "new")) (sym c.ahead.ensures) ∙ sym c.is_same.ensures ∙ c.if-is_same.false in
      let none = ap (λ t. section_in (codes "log ") 4_294_967_295 (take (end - 1) t)) (sym c.ahead-2.ensures) ∙ sym c.in_default-log_lines.ensures in
      subst (λ fault. OfAll (RejectsStored c.args.own.now c.args.line fault) c.args.unread.now.bytes (g.S.Source.remaining c.args.source.now)) (sym c.refused_at-in_default-log_lines.ensures)
      (none_said c.args.own.now c.mark.ensures.bytes c.lines_end.ensures.takes (first g (goal.at.returns-in_default-log_lines g c).In-Some) c.args.line not_new none);
  reads = silent_reads (ap Err c.refused_at-in_default-log_lines.ensures) refl c.in_ok-end.ensures.reads;
  no_write = never_write (ap Err c.refused_at-in_default-log_lines.ensures) (λ h. cc);
  failed = no_read c.refused_at-in_default-log_lines.ensures (λ h. cc);
}

pub returns-in_default-2 : goal.returns-in_default-2
returns-in_default-2 g c = record {
  taken = tt;
  refused = let end = c.in-Some.end in
      let not_new = ap (λ t. is_same (take (end - 1) t) (codes "new")) (sym c.ahead.ensures) ∙ sym c.is_same.ensures ∙ c.if-is_same.false in
      subst (λ fault. OfAll (RejectsStored c.args.own.now c.args.line fault) c.args.unread.now.bytes (g.S.Source.remaining c.args.source.now)) (sym c.refused_at-in_default-2.ensures)
      (too_few c.args.own.now c.mark.ensures.bytes c.lines_end.ensures.takes (first g (goal.at.returns-in_default-2 g c).In-Some) c.lines_end-2.ensures.takes
      c.args.line c.in-Some-log_lines.lines not_new (says g (goal.at.returns-in_default-2 g c).In-Some-log_lines) (rw c.in_default-2.is at c.in_ok-all.ensures.found));
  reads = reads_behind c.in_ok-end.ensures.reads (silent_reads (ap Err c.refused_at-in_default-2.ensures) refl c.in_ok-all.ensures.reads);
  no_write = never_write (ap Err c.refused_at-in_default-2.ensures) (λ h. cc);
  failed = no_read c.refused_at-in_default-2.ensures (λ h. cc);
}

pub returns-in_err-kept : goal.returns-in_err-kept
returns-in_err-kept g c = record {
  taken = none_found (handed (err_from_is_err_and c.from_residual-in_err-kept.result c.from_residual-in_err-kept.ensures.1)) _;
  refused = let p = err_from_is_err_and c.from_residual-in_err-kept.result c.from_residual-in_err-kept.ensures.1 in
      let lines = rw c.in-Some-2.is at c.in_ok-all.ensures.found in
      rw (p.1, p.2)
      (log_refused c.args.own.now c.mark.ensures.bytes c.lines_end.ensures.takes (first g (goal.at.returns-in_err-kept g c).In-Some) c.lines_end-2.ensures.takes lines
      c.args.line c.head.result.now c.ahead-3.result.now c.in_err-kept.field-0.0 c.ahead-3.ensures c.head.ensures
      c.mark.ensures.read c.in_ok-all.ensures.reads.within
      (says g (goal.at.returns-in_err-kept g c).In-Some-log_lines) c.in_err-kept.ensures.refused);
  reads = let log = take (c.in-Some-2.all - c.in-Some.end) (drop c.in-Some.end c.ahead-3.result.now) in
      reads_behind c.in_ok-end.ensures.reads (log_reads c.head.result.now log c.in_err-kept.field-0.0 (handed (err_from_is_err_and c.from_residual-in_err-kept.result c.from_residual-in_err-kept.ensures.1)) c.in_err-kept.ensures.refused c.in_ok-all.ensures.reads);
  no_write = let log = take (c.in-Some-2.all - c.in-Some.end) (drop c.in-Some.end c.ahead-3.result.now) in
      never_write (handed (err_from_is_err_and c.from_residual-in_err-kept.result c.from_residual-in_err-kept.ensures.1)) (log_no_write c.head.result.now log c.in_err-kept.ensures.refused);
  failed = let log = take (c.in-Some-2.all - c.in-Some.end) (drop c.in-Some.end c.ahead-3.result.now) in
      same_fault (handed (err_from_is_err_and c.from_residual-in_err-kept.result c.from_residual-in_err-kept.ensures.1)) _ (log_no_read c.head.result.now log c.in_err-kept.ensures.refused);
}

-- ---- for what the search finds too, and takes long for

pub lines_end-requires-clause-read : goal.lines_end-requires-clause-read
lines_end-requires-clause-read g c = omega (arith, c.mark.ensures.within, c.requires.read)

pub returns-in_err-end : goal.returns-in_err-end
returns-in_err-end g c = record {
  taken = none_found (handed (err_from_is_err_and c.from_residual.result c.from_residual.ensures.1)) _;
  refused = same_fault (handed (err_from_is_err_and c.from_residual.result c.from_residual.ensures.1)) (λ fault. OfAll (RejectsStored c.args.own.now c.args.line fault) c.args.unread.now.bytes (g.S.Source.remaining c.args.source.now))
      (source_rejects c.args.own.now c.args.line c.in_err-end.field-0.0 _ c.args.unread.now.bytes (g.S.Source.remaining c.args.source.now) (long_read c.mark.ensures.bytes c.in_err-end.ensures.takes c.mark.ensures.read) c.in_err-end.ensures.reads.reading);
  reads = source_reads (handed (err_from_is_err_and c.from_residual.result c.from_residual.ensures.1)) c.in_err-end.ensures.reads;
  no_write = never_write (handed (err_from_is_err_and c.from_residual.result c.from_residual.ensures.1)) (source_no_write c.in_err-end.field-0.0);
  failed = same_fault (handed (err_from_is_err_and c.from_residual.result c.from_residual.ensures.1)) _ (λ is. record {
    passes = passes_marked c.mark.ensures.bytes c.in_err-end.ensures.takes;
    short = none_ahead c.args.line c.lines_end.new.unread.bytes
        (failed_short (λ held. length (lines_in held).lines < 1) c.mark.new.self.bytes c.lines_end.new.unread.bytes c.in_err-end.field-0.0 is c.in_err-end.ensures.stopped);
  });
}

pub returns-in_default : goal.returns-in_default
returns-in_default g c = record {
  taken = tt;
  refused = subst (λ fault. OfAll (RejectsStored c.args.own.now c.args.line fault) c.args.unread.now.bytes (g.S.Source.remaining c.args.source.now)) (sym c.refused_at.ensures)
      (none_comes c.args.own.now c.args.line c.mark.ensures.bytes c.in_ok-end.ensures.takes (rw c.in_default.is at c.in_ok-end.ensures.found));
  reads = silent_reads (ap Err c.refused_at.ensures) refl c.in_ok-end.ensures.reads;
  no_write = never_write (ap Err c.refused_at.ensures) (λ h. cc);
  failed = no_read c.refused_at.ensures (λ h. cc);
}

pub take-requires : goal.take-requires
take-requires g c = (first g (goal.at.take-requires g c).In-Some).within

pub lines_end-requires-2-clause-read : goal.lines_end-requires-2-clause-read
lines_end-requires-2-clause-read g c = c.in_ok-end.ensures.reads.within

pub lines_end-requires-2-clause-from : goal.lines_end-requires-2-clause-from
lines_end-requires-2-clause-from g c = (first g (goal.at.lines_end-requires-2-clause-from g c).In-Some).within

pub returns-in_err-all : goal.returns-in_err-all
returns-in_err-all g c = record {
  taken = none_found (handed (err_from_is_err_and c.from_residual-in_err-all.result c.from_residual-in_err-all.ensures.1)) _;
  refused = same_fault (handed (err_from_is_err_and c.from_residual-in_err-all.result c.from_residual-in_err-all.ensures.1)) (λ fault. OfAll (RejectsStored c.args.own.now c.args.line fault) c.args.unread.now.bytes (g.S.Source.remaining c.args.source.now))
      (source_rejects c.args.own.now c.args.line c.in_err-all.field-0.0 _ c.args.unread.now.bytes (g.S.Source.remaining c.args.source.now)
      (long_read c.mark.ensures.bytes (reads_on c.in_ok-end.ensures.takes c.in_err-all.ensures.takes) c.mark.ensures.read) c.in_err-all.ensures.reads.reading);
  reads = reads_behind c.in_ok-end.ensures.reads (source_reads (handed (err_from_is_err_and c.from_residual-in_err-all.result c.from_residual-in_err-all.ensures.1)) c.in_err-all.ensures.reads);
  no_write = never_write (handed (err_from_is_err_and c.from_residual-in_err-all.result c.from_residual-in_err-all.ensures.1)) (source_no_write c.in_err-all.field-0.0);
  failed = same_fault (handed (err_from_is_err_and c.from_residual-in_err-all.result c.from_residual-in_err-all.ensures.1)) _ (λ is. record {
    passes = passes_twice c.mark.ensures.bytes c.in_ok-end.ensures.takes c.in_err-all.ensures.takes;
    short = let end = c.in-Some.end in
        let not_new = ap (λ t. is_same (take (end - 1) t) (codes "new")) (sym c.ahead.ensures) ∙ sym c.is_same.ensures ∙ c.if-is_same.false in
        few_ahead c.args.own.now c.mark.ensures.bytes c.lines_end.ensures.takes (first g (goal.at.returns-in_err-all g c).In-Some) c.in_err-all.ensures.takes
        c.args.line c.in-Some-log_lines.lines not_new (says g (goal.at.returns-in_err-all g c).In-Some-log_lines)
        (failed_short (λ held. length (lines_in (drop end held)).lines < c.in-Some-log_lines.lines) c.lines_end.new.unread.bytes c.lines_end-2.new.unread.bytes c.in_err-all.field-0.0 is c.in_err-all.ensures.stopped);
  });
}

pub kept_of-requires : goal.kept_of-requires
kept_of-requires g c = subst IsLogHead (sym c.head.ensures) c.requires.head

pub take-requires-2 : goal.take-requires-2
take-requires-2 g c = (rw c.in-Some-2.is at c.in_ok-all.ensures.found).within
