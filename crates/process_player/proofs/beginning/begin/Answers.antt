-- What was read and what was stored belong to one process, which goes on with it.
use Rattle.std.proofs.Common.{Err, refl, ap}
use Rattle.std.proofs.lemmas.Result.{err_from_is_err_and}
use Rattle.process_player.proofs.Failing.{answers_on, goes_behind, handed, handed_reads, memory_no_read, never_write, no_read, none_found, ok_no_write, same_fault, silent_behind}
use Rattle.process_player.proofs.Refusing.{memory_rejects, preamble_rejects, stored_rejects}
use Rattle.process_player.proofs.StoredLaws.{has_begun, kept_agents, no_journal, own_head}
use Rattle.process_player.proofs.Unbegun.{no_preamble, no_stored}
use Rattle.process_player.proofs.beginning.begin.Goals as goal

pub returns-in_err-preamble : goal.returns-in_err-preamble
returns-in_err-preamble g c = record {
  begun = none_found (handed (err_from_is_err_and c.from_residual.result c.from_residual.ensures.1)) _;
  refused = let p = err_from_is_err_and c.from_residual.result c.from_residual.ensures.1 in
      rw (p.1, p.2)
      (preamble_rejects c.args.kind c.in_err-preamble.field-0.0 c.args.unread.now.bytes (g.S.Source.remaining c.args.source.now) c.in_err-preamble.ensures.refused);
  reads = handed_reads (handed (err_from_is_err_and c.from_residual.result c.from_residual.ensures.1)) c.in_err-preamble.ensures.reads;
  no_write = never_write (handed (err_from_is_err_and c.from_residual.result c.from_residual.ensures.1)) (λ h. c.in_err-preamble.ensures.no_write (ap Err h));
  failed = same_fault (handed (err_from_is_err_and c.from_residual.result c.from_residual.ensures.1)) _ (λ is. no_preamble c.args.kind (c.in_err-preamble.ensures.failed is));
}

pub read_stored-requires-clause-at_hand : goal.read_stored-requires-clause-at_hand
read_stored-requires-clause-at_hand g c = c.in_ok-preamble.ensures.read.at_hand

pub read_stored-requires-clause-head : goal.read_stored-requires-clause-head
read_stored-requires-clause-head g c = own_head c.in_ok-preamble.ensures.read

pub returns-in-Err : goal.returns-in-Err
returns-in-Err g c = record {
  begun = tt;
  refused = stored_rejects c.in-Err.fault c.in_ok-preamble.ensures.read c.in-Err.ensures.refused;
  reads = goes_behind c.in_ok-preamble.ensures.reads (handed_reads refl c.in-Err.ensures.reads);
  no_write = never_write refl (λ h. c.in-Err.ensures.no_write (ap Err h));
  failed = λ is. no_stored c.in_ok-preamble.ensures.read (c.in-Err.ensures.failed is);
}

pub process_with-requires-clause-head : goal.process_with-requires-clause-head
process_with-requires-clause-head g c = own_head c.in_ok-preamble.ensures.read

pub process_with-requires-clause-kept : goal.process_with-requires-clause-kept
process_with-requires-clause-kept g c = kept_agents c.in_ok-preamble.ensures.read c.in-Ok.ensures.taken

pub returns-in-Some : goal.returns-in-Some
returns-in-Some g c = record {
  begun = has_begun c.in_ok-preamble.ensures.read c.in-Ok.ensures.taken c.in-Some.process (rw c.in-Some.is at c.in-Ok-process_with.ensures);
  refused = tt;
  reads = goes_behind c.in_ok-preamble.ensures.reads (answers_on _ c.in-Ok.ensures.reads);
  no_write = ok_no_write;
  failed = tt;
}

pub returns-in-None : goal.returns-in-None
returns-in-None g c = record {
  begun = tt;
  refused = no_journal c.in_ok-preamble.ensures.read c.in-Ok.ensures.taken (rw c.in-None.is at c.in-Ok-process_with.ensures);
  reads = goes_behind c.in_ok-preamble.ensures.reads (silent_behind refl refl c.in-Ok.ensures.reads);
  no_write = never_write refl (λ h. cc);
  failed = no_read refl (λ h. cc);
}

-- ---- for what the search finds too, and takes long for

pub read_stored-requires-clause-read : goal.read_stored-requires-clause-read
read_stored-requires-clause-read g c = c.in_ok-preamble.ensures.reads.within

pub returns-in_default : goal.returns-in_default
returns-in_default g c = record {
  begun = tt;
  refused = memory_rejects c.args.kind c.args.unread.now.bytes (g.S.Source.remaining c.args.source.now);
  reads = goes_behind c.in_ok-preamble.ensures.reads (silent_behind refl refl c.in-Ok.ensures.reads);
  no_write = never_write refl (λ h. cc);
  failed = memory_no_read refl;
}
