-- A line that is there has its line feed, and says how many lines stand below it.
use Rattle.std.proofs.lemmas.Result.{err_from_is_err_and}
use Rattle.std.proofs.Common.{◌≡◌, ◌+◌, ◌-◌, ◌≤◌, Some, take, drop, length, sym, ap, ◌∙◌, arith}
use Rattle.input_sections.specs.Sections.{number_behind}
use Rattle.line_source.specs.Lines.{AreBetween, AreShort}
use Rattle.line_source.proofs.Taking.{reads_on, up_to_on}
use Rattle.process_player.proofs.AtHand.{at_hand_within}
use Rattle.process_player.proofs.Between.{between_long}
use Rattle.process_player.proofs.Ends.{absent, none_opens, not_said, opening_short, section_found, section_still_short, too_few}
use Rattle.process_player.proofs.Failing.{answer_reads, handed, none_found, reads_behind, source_reads, source_stops, still_there}
use Rattle.process_player.proofs.preambles.section_end.Given as given
use Rattle.process_player.proofs.preambles.section_end.Goals.{In-Lines, In-Some}
use Rattle.process_player.proofs.preambles.section_end.Goals as goal

line_there : (g : given.Over) (c : In-Lines g) → AreBetween c.args.from c.in-Lines.opening c.lines_end_within.new.unread.bytes 1
line_there g c = rw c.in-Lines.is at c.in_ok-opening.ensures.found

behind : (g : given.Over) (c : In-Lines g) → c.args.from + 1 ≤ c.in-Lines.opening
behind g c = between_long (line_there g c)

pub overflow_sub-opening : goal.overflow_sub-opening
overflow_sub-opening g c = omega (arith, behind g (goal.at.overflow_sub-opening g c).In-Lines)

pub slice_bounds-number_behind-count : goal.slice_bounds-number_behind-count
slice_bounds-number_behind-count g c = omega (arith, behind g (goal.at.slice_bounds-number_behind-count g c).In-Lines)

pub slice_bounds-number_behind-start : goal.slice_bounds-number_behind-start
slice_bounds-number_behind-start g c = omega (arith, behind g (goal.at.slice_bounds-number_behind-start g c).In-Lines)

pub returns-in_default-number_behind : goal.returns-in_default-number_behind
returns-in_default-number_behind g c = record {
  takes = c.in_ok-opening.ensures.takes;
  found = let from = c.args.from in
      let opening = c.in-Lines.opening in
      let none = ap (λ t. number_behind c.args.word.now c.args.most (take (opening - 1 - from) (drop from t))) (sym c.ahead-2.ensures) ∙ sym c.in_default-number_behind.ensures.value in
      not_said (line_there g (goal.at.returns-in_default-number_behind g c).In-Lines) c.args.word.now c.args.most none;
  within = (line_there g (goal.at.returns-in_default-number_behind g c).In-Lines).within;
  block = c.in_ok-opening.ensures.block;
  reads = answer_reads _ c.in_ok-opening.ensures.reads;
  others = tt;
}

-- the line says so many lines
says : (g : given.Over) (c : In-Some g)
    → number_behind c.args.word.now c.args.most (take (c.in-Lines.opening - 1 - c.args.from) (drop c.args.from c.lines_end_within.new.unread.bytes)) ≡ Some c.in-Some.lines
says g c =
    let from = c.args.from in
    let opening = c.in-Lines.opening in
    ap (λ t. number_behind c.args.word.now c.args.most (take (opening - 1 - from) (drop from t))) (sym c.ahead-2.ensures) ∙ sym c.in-Some.ensures.value

pub returns-in_default-2 : goal.returns-in_default-2
returns-in_default-2 g c = record {
  takes = reads_on c.in_ok-opening.ensures.takes c.in_ok-end.ensures.takes;
  found = let said = says g (goal.at.returns-in_default-2 g c).In-Some ∙ ap Some (sym c.from-count.ensures) in
      let few = absent c.in-Lines.opening c.from-count.result c.lines_end_within-2.new.unread.bytes (g.S.Source.remaining c.lines_end_within-2.new.source) c.in_ok-end.field-0 c.in_ok-end.ensures.found c.in_default-2.not-Lines in
      too_few (line_there g (goal.at.returns-in_default-2 g c).In-Lines) c.args.word.now c.args.most c.from-count.result said c.lines_end_within-2.ensures.takes
      (length c.ahead-in_default-2.result.now) (ap length c.ahead-in_default-2.ensures) few;
  within = omega (arith, ap length c.ahead-in_default-2.ensures);
  block = up_to_on 16_777_216 c.args.unread.now.bytes c.lines_end_within.new.unread.bytes c.lines_end_within-2.new.unread.bytes c.in_ok-opening.ensures.block c.in_ok-end.ensures.block;
  reads = reads_behind c.in_ok-opening.ensures.reads (answer_reads _ c.in_ok-end.ensures.reads);
  others = tt;
}

pub returns : goal.returns
returns g c = record {
  takes = reads_on c.in_ok-opening.ensures.takes c.in_ok-end.ensures.takes;
  found = let said = says g (goal.at.returns g c).In-Some ∙ ap Some (sym c.from-count.ensures) in
      let lines = rw c.in-Lines-2.is at c.in_ok-end.ensures.found in
      let one = line_there g (goal.at.returns g c).In-Lines in
      section_found one c.args.word.now c.args.most c.from-count.result said c.lines_end_within-2.ensures.takes c.in-Lines-2.end lines
      (at_hand_within (at_hand_within c.requires.at_hand one 16_777_216 c.lines_end_within.ensures.last) lines 16_777_216 c.lines_end_within-2.ensures.last);
  within = (rw c.in-Lines-2.is at c.in_ok-end.ensures.found).within;
  block = up_to_on 16_777_216 c.args.unread.now.bytes c.lines_end_within.new.unread.bytes c.lines_end_within-2.new.unread.bytes c.in_ok-opening.ensures.block c.in_ok-end.ensures.block;
  reads = reads_behind c.in_ok-opening.ensures.reads (answer_reads _ c.in_ok-end.ensures.reads);
  others = tt;
}

-- ---- for what the search finds too, and takes long for

pub returns-in_err-opening : goal.returns-in_err-opening
returns-in_err-opening g c = record {
  takes = c.in_err-opening.ensures.takes;
  found = none_found (handed (err_from_is_err_and c.from_residual.result c.from_residual.ensures.1)) _;
  within = none_found (handed (err_from_is_err_and c.from_residual.result c.from_residual.ensures.1)) _;
  block = c.in_err-opening.ensures.block;
  reads = source_reads (handed (err_from_is_err_and c.from_residual.result c.from_residual.ensures.1)) c.in_err-opening.ensures.reads;
  others = source_stops (AreShort c.args.from 1 16_777_216) c.args.unread.now.bytes c.lines_end_within.new.unread.bytes c.in_err-opening.field-0.0 (handed (err_from_is_err_and c.from_residual.result c.from_residual.ensures.1)) c.in_err-opening.ensures.reads
      c.in_err-opening.ensures.stopped (λ few. opening_short c.args.word.now c.args.most c.args.from c.lines_end_within.new.unread.bytes few.0);
}

pub returns-in_default : goal.returns-in_default
returns-in_default g c = record {
  takes = c.in_ok-opening.ensures.takes;
  found = none_opens c.args.word.now c.args.most c.args.from (length c.ahead.result.now) _ _ (still_there c.requires.from c.in_ok-opening.ensures.takes) (ap length c.ahead.ensures)
      (absent c.args.from 1 c.lines_end_within.new.unread.bytes (g.S.Source.remaining c.lines_end_within.new.source) c.in_ok-opening.field-0 c.in_ok-opening.ensures.found c.in_default.not-Lines);
  within = omega (arith, ap length c.ahead.ensures);
  block = c.in_ok-opening.ensures.block;
  reads = answer_reads _ c.in_ok-opening.ensures.reads;
  others = tt;
}

pub slice_bounds-number_behind-end : goal.slice_bounds-number_behind-end
slice_bounds-number_behind-end g c = let within = (line_there g (goal.at.slice_bounds-number_behind-end g c).In-Lines).within in omega (arith, within, ap length c.ahead-2.ensures)

pub lines_end_within-requires-2-clause-read : goal.lines_end_within-requires-2-clause-read
lines_end_within-requires-2-clause-read g c = c.in_ok-opening.ensures.reads.within

pub lines_end_within-requires-2-clause-from : goal.lines_end_within-requires-2-clause-from
lines_end_within-requires-2-clause-from g c = (line_there g (goal.at.lines_end_within-requires-2-clause-from g c).In-Lines).within

pub returns-in_err-end : goal.returns-in_err-end
returns-in_err-end g c = record {
  takes = reads_on c.in_ok-opening.ensures.takes c.in_err-end.ensures.takes;
  found = none_found (handed (err_from_is_err_and c.from_residual-in_err-end.result c.from_residual-in_err-end.ensures.1)) _;
  within = none_found (handed (err_from_is_err_and c.from_residual-in_err-end.result c.from_residual-in_err-end.ensures.1)) _;
  block = up_to_on 16_777_216 c.args.unread.now.bytes c.lines_end_within.new.unread.bytes c.lines_end_within-2.new.unread.bytes c.in_ok-opening.ensures.block c.in_err-end.ensures.block;
  reads = reads_behind c.in_ok-opening.ensures.reads (source_reads (handed (err_from_is_err_and c.from_residual-in_err-end.result c.from_residual-in_err-end.ensures.1)) c.in_err-end.ensures.reads);
  others = let said = says g (goal.at.returns-in_err-end g c).In-Some ∙ ap Some (sym c.from-count.ensures) in
      let one = line_there g (goal.at.returns-in_err-end g c).In-Lines in
      source_stops (AreShort c.in-Lines.opening c.from-count.result 16_777_216) c.lines_end_within.new.unread.bytes c.lines_end_within-2.new.unread.bytes c.in_err-end.field-0.0
      (handed (err_from_is_err_and c.from_residual-in_err-end.result c.from_residual-in_err-end.ensures.1)) c.in_err-end.ensures.reads c.in_err-end.ensures.stopped
      (λ few. section_still_short one c.args.word.now c.args.most c.from-count.result said c.in_err-end.ensures.takes few.0);
}
