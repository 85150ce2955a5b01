use Rattle.std.proofs.Common.{◌∙◌, ◌≤◌, Err, refl, sym, ap, subst}
use Rattle.std.proofs.lemmas.Result.{err_from_is_err_and}
use Rattle.process_player.proofs.Commands.{serves_it, stops_in_it}
use Rattle.process_player.proofs.CommandTexts.{some_found}
use Rattle.process_player.proofs.Failing.{handed, memory_no_read, never_write, no_answer, ok_no_write, one_fault, reading_no_write, same_fault}
use Rattle.process_player.proofs.Stopping.{answer_calls, answering_calls, reading_calls, serving_answer, serving_of}
use Rattle.process_player.proofs.serving.serve_one.Goals as goal

pub returns-in_err-answer : goal.returns-in_err-answer
returns-in_err-answer g c = record {
  served = λ is. no_answer (handed (err_from_is_err_and c.from_residual-in_err-answer.result c.from_residual-in_err-answer.ensures.1)) _ is;
  ended = λ is. no_answer (handed (err_from_is_err_and c.from_residual-in_err-answer.result c.from_residual-in_err-answer.ensures.1)) _ is;
  stopped = same_fault (handed (err_from_is_err_and c.from_residual-in_err-answer.result c.from_residual-in_err-answer.ensures.1)) _ (λ other. record {
    written = ap g.W.Sink.contents (c.in_err-answer.ensures.others other).1;
    passes = c.in_ok-end.ensures.passes;
    torn = memory_no_read (c.in_err-answer.ensures.others other).0;
  });
  torn = λ is. let here = some_found _ _ c.in_ok-end.field-0 (c.in-Some.end, c.in-Some.all) c.in_ok-end.ensures.found c.in-Some.is in
      stops_in_it _ _ c.in-Some.end c.in-Some.all c.ahead-ahead.result.now here c.in_ok-end.ensures.passes c.ahead-ahead.ensures
      (c.in_err-answer.ensures.torn (ap Err (one_fault (sym (handed (err_from_is_err_and c.from_residual-in_err-answer.result c.from_residual-in_err-answer.ensures.1)) ∙ is))));
  calls = answering_calls (Unit {0}) _ c.in_err-answer.field-0.0 (handed (err_from_is_err_and c.from_residual-in_err-answer.result c.from_residual-in_err-answer.ensures.1)) c.in_err-answer.ensures.others c.in_ok-end.ensures.reads
      c.in_err-answer.ensures.count;
  others = same_fault (handed (err_from_is_err_and c.from_residual-in_err-answer.result c.from_residual-in_err-answer.ensures.1)) _ (serving_answer _ _ c.in_err-answer.field-0.0 c.in_err-answer.ensures.others);
}

pub returns : goal.returns
returns g c = record {
  served = λ is. let here = some_found _ _ c.in_ok-end.field-0 (c.in-Some.end, c.in-Some.all) c.in_ok-end.ensures.found c.in-Some.is in
      serves_it _ _ c.in-Some.end c.in-Some.all c.ahead-ahead.result.now here c.in_ok-end.ensures.passes c.ahead-ahead.ensures c.take.ensures.bytes
      c.in_ok-answer.ensures.answered.0 c.in_ok-answer.ensures.answered.1;
  ended = λ is. absurd (cc);
  stopped = tt;
  torn = λ is. absurd (ok_no_write is);
  calls = record {
    within = subst (λ n. n ≤ 4_294_967_296) (sym c.take.ensures.read) c.in_ok-end.ensures.reads.within;
    reads = c.in_ok-end.ensures.reads.count;
    writes = c.in_ok-answer.ensures.count;
  };
  others = tt;
}

-- ---- for what the search finds too, and takes long for

pub returns-in_err-end : goal.returns-in_err-end
returns-in_err-end g c = record {
  served = λ is. no_answer (handed (err_from_is_err_and c.from_residual.result c.from_residual.ensures.1)) _ is;
  ended = λ is. no_answer (handed (err_from_is_err_and c.from_residual.result c.from_residual.ensures.1)) _ is;
  stopped = same_fault (handed (err_from_is_err_and c.from_residual.result c.from_residual.ensures.1)) _ (λ other. record { written = refl; passes = c.in_err-end.ensures.passes; torn = c.in_err-end.ensures.failed });
  torn = λ is. absurd (never_write (handed (err_from_is_err_and c.from_residual.result c.from_residual.ensures.1)) (reading_no_write _ c.in_err-end.ensures.others) is);
  calls = reading_calls _ c.in_err-end.field-0.0 _ (handed (err_from_is_err_and c.from_residual.result c.from_residual.ensures.1)) c.in_err-end.ensures.others c.in_err-end.ensures.reads;
  others = same_fault (handed (err_from_is_err_and c.from_residual.result c.from_residual.ensures.1)) _ (serving_of _ c.in_err-end.field-0.0 c.in_err-end.ensures.others);
}

pub returns-in_default : goal.returns-in_default
returns-in_default g c = record {
  served = λ is. absurd (cc);
  ended = λ is.
      let found = rw c.in_default.is at c.in_ok-end.ensures.found in
      record { process = refl; written = refl; passes = c.in_ok-end.ensures.passes; end = found.0; torn = found.1 };
  stopped = tt;
  torn = λ is. absurd (ok_no_write is);
  calls = answer_calls _ _ c.in_ok-end.ensures.reads;
  others = tt;
}

pub take-requires : goal.take-requires
take-requires g c = (some_found _ _ c.in_ok-end.field-0 (c.in-Some.end, c.in-Some.all) c.in_ok-end.ensures.found c.in-Some.is).within
