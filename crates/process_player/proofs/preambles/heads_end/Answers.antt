-- A line that is there has its line feed, and it is judged with nothing behind it where it is another.
use Rattle.std.proofs.lemmas.Result.{err_from_is_err_and}
use Rattle.std.proofs.Common.{◌-◌, ◌≡◌, true, take, drop, length, refl, ap, ◌∙◌, sym, arith}
use Rattle.metering_model.specs.BatchReading.{is_same}
use Rattle.line_source.specs.Lines.{AreBetween, AreShort}
use Rattle.line_source.proofs.Taking.{reads_on, up_to_on}
use Rattle.process_player.specs.Starts.{heads_log, kind_word}
use Rattle.process_player.proofs.AtHand.{at_hand_within}
use Rattle.process_player.proofs.Between.{between_long}
use Rattle.process_player.proofs.Ends.{absent, first_short, heads_found, no_first, no_second, other_first, other_second, second_short}
use Rattle.process_player.proofs.Failing.{answer_reads, handed, memory_stops, none_found, reads_behind, silent_reads, source_reads, source_stops}
use Rattle.process_player.proofs.preambles.heads_end.Given as given
use Rattle.process_player.proofs.preambles.heads_end.Goals.{In-Lines, In-Lines-2, In-Ok}
use Rattle.process_player.proofs.preambles.heads_end.Goals as goal

first : (g : given.Over) (c : In-Lines g) → AreBetween 0 c.in-Lines.first c.lines_end_within.new.unread.bytes 1
first g c = rw c.in-Lines.is at c.in_ok-first.ensures.found

second : (g : given.Over) (c : In-Lines-2 g) → AreBetween c.in-Lines.first c.in-Lines-2.both c.lines_end_within-2.new.unread.bytes 1
second g c = rw c.in-Lines-2.is at c.in_ok-both.ensures.found

pub slice_bounds-is_same-count : goal.slice_bounds-is_same-count
slice_bounds-is_same-count g c = omega (arith, between_long (first g (goal.at.slice_bounds-is_same-count g c).In-Lines))

pub returns-then-not-is_same : goal.returns-then-not-is_same
returns-then-not-is_same g c = record {
  takes = c.in_ok-first.ensures.takes;
  found = let end = c.in-Lines.first in
      other_first c.args.kind (first g (goal.at.returns-then-not-is_same g c).In-Lines)
      (ap (λ t. is_same (take (end - 1) t) (kind_word c.args.kind)) (sym c.ahead-2.ensures) ∙ ap (is_same (take (end - 1) c.ahead-2.result.now)) (sym c.first_word.ensures)
      ∙ sym c.is_same.ensures ∙ c.if-not-is_same.true);
  within = (first g (goal.at.returns-then-not-is_same g c).In-Lines).within;
  block = c.in_ok-first.ensures.block;
  reads = answer_reads _ c.in_ok-first.ensures.reads;
  others = tt;
}

pub returns-in_default-2 : goal.returns-in_default-2
returns-in_default-2 g c = record {
  takes = reads_on c.in_ok-first.ensures.takes c.in_ok-both.ensures.takes;
  found = no_second c.args.kind (first g (goal.at.returns-in_default-2 g c).In-Lines) c.in_ok-both.ensures.takes (length c.ahead-in_default-2.result.now) (ap length c.ahead-in_default-2.ensures)
      (absent c.in-Lines.first 1 c.lines_end_within-2.new.unread.bytes (g.S.Source.remaining c.lines_end_within-2.new.source) c.in_ok-both.field-0 c.in_ok-both.ensures.found c.in_default-2.not-Lines);
  within = omega (arith, ap length c.ahead-in_default-2.ensures);
  block = up_to_on 16_777_216 c.args.unread.now.bytes c.lines_end_within.new.unread.bytes c.lines_end_within-2.new.unread.bytes c.in_ok-first.ensures.block c.in_ok-both.ensures.block;
  reads = reads_behind c.in_ok-first.ensures.reads (answer_reads _ c.in_ok-both.ensures.reads);
  others = tt;
}

pub slice_bounds-heads_log-count : goal.slice_bounds-heads_log-count
slice_bounds-heads_log-count g c = omega (arith, between_long (second g (goal.at.slice_bounds-heads_log-count g c).In-Lines-2))

pub slice_bounds-heads_log-start : goal.slice_bounds-heads_log-start
slice_bounds-heads_log-start g c = omega (arith, between_long (second g (goal.at.slice_bounds-heads_log-start g c).In-Lines-2))

-- whether the second line heads a log of such a process
said : (g : given.Over) (c : In-Ok g)
    → heads_log c.args.kind (take (c.in-Lines-2.both - 1 - c.in-Lines.first) (drop c.in-Lines.first c.lines_end_within-2.new.unread.bytes)) ≡ c.in-Ok.is_head
said g c =
    let from = c.in-Lines.first in
    let both = c.in-Lines-2.both in
    ap (λ t. heads_log c.args.kind (take (both - 1 - from) (drop from t))) (sym c.ahead-3.ensures) ∙ sym c.in-Ok.ensures

-- the first is the kind's
is_kinds : (g : given.Over) (c : In-Ok g) → is_same (take (c.in-Lines.first - 1) c.lines_end_within.new.unread.bytes) (kind_word c.args.kind) ≡ true
is_kinds g c =
    let end = c.in-Lines.first in
    ap (λ t. is_same (take (end - 1) t) (kind_word c.args.kind)) (sym c.ahead-2.ensures) ∙ ap (is_same (take (end - 1) c.ahead-2.result.now)) (sym c.first_word.ensures)
    ∙ sym c.is_same.ensures ∙ c.if-not-is_same.false

pub returns-then-not-is_head : goal.returns-then-not-is_head
returns-then-not-is_head g c = record {
  takes = reads_on c.in_ok-first.ensures.takes c.in_ok-both.ensures.takes;
  found = let at = goal.at.returns-then-not-is_head g c in
      other_second c.args.kind (first g at.In-Lines) c.in_ok-both.ensures.takes (second g at.In-Lines-2) (is_kinds g at.In-Ok) (said g at.In-Ok ∙ c.if-not-is_head.true);
  within = (second g (goal.at.returns-then-not-is_head g c).In-Lines-2).within;
  block = up_to_on 16_777_216 c.args.unread.now.bytes c.lines_end_within.new.unread.bytes c.lines_end_within-2.new.unread.bytes c.in_ok-first.ensures.block c.in_ok-both.ensures.block;
  reads = reads_behind c.in_ok-first.ensures.reads (answer_reads _ c.in_ok-both.ensures.reads);
  others = tt;
}

pub returns : goal.returns
returns g c = record {
  takes = reads_on c.in_ok-first.ensures.takes c.in_ok-both.ensures.takes;
  found = let at = goal.at.returns g c in
      heads_found c.args.kind (first g at.In-Lines) c.in_ok-both.ensures.takes (second g at.In-Lines-2) (is_kinds g at.In-Ok) (said g at.In-Ok ∙ c.if-not-is_head.false)
      (at_hand_within (at_hand_within c.requires.at_hand (first g at.In-Lines) 16_777_216 c.lines_end_within.ensures.last) (second g at.In-Lines-2) 16_777_216 c.lines_end_within-2.ensures.last);
  within = (second g (goal.at.returns g c).In-Lines-2).within;
  block = up_to_on 16_777_216 c.args.unread.now.bytes c.lines_end_within.new.unread.bytes c.lines_end_within-2.new.unread.bytes c.in_ok-first.ensures.block c.in_ok-both.ensures.block;
  reads = reads_behind c.in_ok-first.ensures.reads (answer_reads _ c.in_ok-both.ensures.reads);
  others = tt;
}

-- ---- for what the search finds too, and takes long for

pub lines_end_within-requires-2-clause-read : goal.lines_end_within-requires-2-clause-read
lines_end_within-requires-2-clause-read g c = c.in_ok-first.ensures.reads.within

pub lines_end_within-requires-2-clause-from : goal.lines_end_within-requires-2-clause-from
lines_end_within-requires-2-clause-from g c = (first g (goal.at.lines_end_within-requires-2-clause-from g c).In-Lines).within

pub overflow_sub-both : goal.overflow_sub-both
overflow_sub-both g c = omega (arith, between_long (second g (goal.at.overflow_sub-both g c).In-Lines-2))

pub slice_bounds-heads_log-end : goal.slice_bounds-heads_log-end
slice_bounds-heads_log-end g c = let within = (second g (goal.at.slice_bounds-heads_log-end g c).In-Lines-2).within in omega (arith, within, ap length c.ahead-3.ensures)

pub returns-in_err-first : goal.returns-in_err-first
returns-in_err-first g c = record {
  takes = c.in_err-first.ensures.takes;
  found = none_found (handed (err_from_is_err_and c.from_residual.result c.from_residual.ensures.1)) _;
  within = none_found (handed (err_from_is_err_and c.from_residual.result c.from_residual.ensures.1)) _;
  block = c.in_err-first.ensures.block;
  reads = source_reads (handed (err_from_is_err_and c.from_residual.result c.from_residual.ensures.1)) c.in_err-first.ensures.reads;
  others = source_stops (AreShort 0 1 16_777_216) c.args.unread.now.bytes c.lines_end_within.new.unread.bytes c.in_err-first.field-0.0 (handed (err_from_is_err_and c.from_residual.result c.from_residual.ensures.1)) c.in_err-first.ensures.reads
      c.in_err-first.ensures.stopped (λ few. first_short c.lines_end_within.new.unread.bytes few.0);
}

pub returns-in_err-both : goal.returns-in_err-both
returns-in_err-both g c = record {
  takes = reads_on c.in_ok-first.ensures.takes c.in_err-both.ensures.takes;
  found = none_found (handed (err_from_is_err_and c.from_residual-in_err-both.result c.from_residual-in_err-both.ensures.1)) _;
  within = none_found (handed (err_from_is_err_and c.from_residual-in_err-both.result c.from_residual-in_err-both.ensures.1)) _;
  block = up_to_on 16_777_216 c.args.unread.now.bytes c.lines_end_within.new.unread.bytes c.lines_end_within-2.new.unread.bytes c.in_ok-first.ensures.block c.in_err-both.ensures.block;
  reads = reads_behind c.in_ok-first.ensures.reads (source_reads (handed (err_from_is_err_and c.from_residual-in_err-both.result c.from_residual-in_err-both.ensures.1)) c.in_err-both.ensures.reads);
  others = source_stops (AreShort c.in-Lines.first 1 16_777_216) c.lines_end_within.new.unread.bytes c.lines_end_within-2.new.unread.bytes c.in_err-both.field-0.0
      (handed (err_from_is_err_and c.from_residual-in_err-both.result c.from_residual-in_err-both.ensures.1)) c.in_err-both.ensures.reads c.in_err-both.ensures.stopped
      (λ few. second_short c.args.kind (first g (goal.at.returns-in_err-both g c).In-Lines) c.in_err-both.ensures.takes few.0);
}

pub returns-in_default : goal.returns-in_default
returns-in_default g c = record {
  takes = c.in_ok-first.ensures.takes;
  found = no_first c.args.kind (length c.ahead.result.now) _ _ (ap length c.ahead.ensures)
      (absent 0 1 c.lines_end_within.new.unread.bytes (g.S.Source.remaining c.lines_end_within.new.source) c.in_ok-first.field-0 c.in_ok-first.ensures.found c.in_default.not-Lines);
  within = omega (arith, ap length c.ahead.ensures);
  block = c.in_ok-first.ensures.block;
  reads = answer_reads _ c.in_ok-first.ensures.reads;
  others = tt;
}

pub returns-in_default-heads_log : goal.returns-in_default-heads_log
returns-in_default-heads_log g c = record {
  takes = reads_on c.in_ok-first.ensures.takes c.in_ok-both.ensures.takes;
  found = tt;
  within = tt;
  block = up_to_on 16_777_216 c.args.unread.now.bytes c.lines_end_within.new.unread.bytes c.lines_end_within-2.new.unread.bytes c.in_ok-first.ensures.block c.in_ok-both.ensures.block;
  reads = reads_behind c.in_ok-first.ensures.reads (silent_reads refl refl c.in_ok-both.ensures.reads);
  others = memory_stops;
}
