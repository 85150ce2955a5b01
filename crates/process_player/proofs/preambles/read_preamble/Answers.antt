-- Just what is read as a preamble is taken, and what is judged is refused.
use Rattle.std.proofs.Common.{◌∙◌, ◌≤◌, Err, sym, ap, length, subst, arith}
use Rattle.std.proofs.lemmas.Result.{err_from_is_err_and}
use Rattle.process_player.specs.Inner.Refusing.{OfAll, RejectsPreamble}
use Rattle.process_player.proofs.Ends.{preamble_refused, preamble_taken}
use Rattle.process_player.proofs.Failing.{answers_on, handed, handed_reads, never_write, none_found, ok_no_write, read_still, reading_no_write, same_fault, section_behind, section_no_fail, section_no_write}
use Rattle.process_player.proofs.Passing.{passes_marked}
use Rattle.process_player.proofs.Refusing.{never_long, reading_rejects, section_rejects}
use Rattle.process_player.proofs.preambles.read_preamble.Goals as goal

pub preamble_end-requires-clause-at_hand : goal.preamble_end-requires-clause-at_hand
preamble_end-requires-clause-at_hand g c = omega (arith, c.requires.at_hand, ap length c.mark.ensures.bytes)

pub returns-in-Ok : goal.returns-in-Ok
returns-in-Ok g c = record {
  read = let p = c.in-Ok.preamble in
      preamble_taken c.args.kind c.mark.ensures.bytes c.preamble_end.ensures.takes c.in_ok-judged.judged c.in_ok-judged.ensures.found c.end_of-end.result c.end_of-end.ensures
      p.own p.sheet p.issuer p.line (rw c.ahead.ensures at c.in-Ok.ensures.read) c.take.ensures.bytes;
  refused = tt;
  reads = read_still c.take.ensures.read (answers_on _ c.in_ok-judged.ensures.reads);
  no_write = ok_no_write;
  failed = tt;
}

pub returns-in-Err : goal.returns-in-Err
returns-in-Err g c = record {
  read = tt;
  refused = let left = g.S.Source.remaining c.args.source.now in
      let why = c.in-Err.fault in
      subst (λ fault. OfAll (RejectsPreamble c.args.kind fault) c.args.unread.now.bytes left) (sym c.fault_of_section.ensures)
      (section_rejects c.args.kind c.args.unread.now.bytes left why
      (λ other.
      preamble_refused c.args.kind c.mark.ensures.bytes c.preamble_end.ensures.takes c.in_ok-judged.judged c.in_ok-judged.ensures.found c.end_of-end.result c.end_of-end.ensures
      why (rw c.ahead.ensures at (c.in-Err.ensures.refused other))));
  reads = section_behind c.in-Err.fault (ap Err c.fault_of_section.ensures) c.in_ok-judged.ensures.reads;
  no_write = never_write (ap Err c.fault_of_section.ensures) (section_no_write c.in-Err.fault);
  failed = section_no_fail c.in-Err.fault c.fault_of_section.ensures;
}

pub returns-in_err-judged : goal.returns-in_err-judged
returns-in_err-judged g c = record {
  read = none_found (handed (err_from_is_err_and c.from_residual.result c.from_residual.ensures.1)) _;
  refused = let p = err_from_is_err_and c.from_residual.result c.from_residual.ensures.1 in
      rw (p.1, p.2)
      (reading_rejects c.args.kind (never_long c.preamble_end.ensures.takes c.preamble_end.ensures.block (c.mark.ensures.read ∙ sym (ap length c.mark.ensures.bytes)) (omega (arith, c.mark.ensures.within, c.requires.read)))
      c.in_err-judged.field-0.0 c.args.unread.now.bytes (g.S.Source.remaining c.args.source.now) c.in_err-judged.ensures.others.reading);
  reads = handed_reads (handed (err_from_is_err_and c.from_residual.result c.from_residual.ensures.1)) c.in_err-judged.ensures.reads;
  no_write = never_write (handed (err_from_is_err_and c.from_residual.result c.from_residual.ensures.1)) (reading_no_write _ c.in_err-judged.ensures.others.reading);
  failed = same_fault (handed (err_from_is_err_and c.from_residual.result c.from_residual.ensures.1)) _
      (λ is. record { passes = passes_marked c.mark.ensures.bytes c.preamble_end.ensures.takes; short = c.in_err-judged.ensures.others.short is });
}

-- ---- for what the search finds too, and takes long for

pub preamble_end-requires-clause-read : goal.preamble_end-requires-clause-read
preamble_end-requires-clause-read g c = omega (arith, c.mark.ensures.within, c.requires.read)

pub take-requires : goal.take-requires
take-requires g c = subst (λ n. n ≤ length c.preamble_end.new.unread.bytes) (sym c.end_of-end.ensures) c.in_ok-judged.ensures.within
