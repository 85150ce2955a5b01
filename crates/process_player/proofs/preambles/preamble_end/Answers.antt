-- The two lines, the sheet and the issuer stand one behind the other.
use Rattle.std.proofs.Common.{codes}
use Rattle.std.proofs.Math.Dec.{lit≤}
use Rattle.std.proofs.lemmas.Result.{err_from_is_err_and}
use Rattle.line_source.specs.Reading.{ReadsUpTo}
use Rattle.line_source.proofs.Taking.{reads_on, up_to_on}
use Rattle.process_player.specs.Inner.Fronts.{AreHeads, IsSection}
use Rattle.process_player.proofs.Ends.{issuer_short, no_sheet, preamble_found, sheet_short}
use Rattle.process_player.proofs.Failing.{answers_on, goes_behind, handed, handed_reads, none_found, same_fault, stops_on}
use Rattle.process_player.proofs.preambles.preamble_end.Given as given
use Rattle.process_player.proofs.preambles.preamble_end.Goals.{After-section_end-2, In-Whole, In-Whole-2}
use Rattle.process_player.proofs.preambles.preamble_end.Goals as goal

heads_there : (g : given.Over) (c : In-Whole g) → AreHeads c.args.kind c.in-Whole.head c.heads_end.new.unread.bytes
heads_there g c = rw c.in-Whole.is at c.in_ok-head.ensures.found

pub section_end-requires-clause-at_hand : goal.section_end-requires-clause-at_hand
section_end-requires-clause-at_hand g c = (heads_there g (goal.at.section_end-requires-clause-at_hand g c).In-Whole).at_hand

sheet_there : (g : given.Over) (c : In-Whole-2 g) → IsSection (codes "sheet ") 200_000 c.in-Whole.head c.in-Whole-2.sheet c.section_end.new.unread.bytes
sheet_there g c = rw c.in-Whole-2.is at c.in_ok-sheet.ensures.found

all_up_to : (g : given.Over) (c : After-section_end-2 g) → ReadsUpTo 16_777_216 c.args.unread.now.bytes c.section_end-2.new.unread.bytes
all_up_to g c =
    up_to_on 16_777_216 c.args.unread.now.bytes c.section_end.new.unread.bytes c.section_end-2.new.unread.bytes
    (up_to_on 16_777_216 c.args.unread.now.bytes c.heads_end.new.unread.bytes c.section_end.new.unread.bytes c.in_ok-head.ensures.block c.in_ok-sheet.ensures.block)
    c.section_end-2.ensures.block

pub section_end-requires-2-clause-at_hand : goal.section_end-requires-2-clause-at_hand
section_end-requires-2-clause-at_hand g c = (sheet_there g (goal.at.section_end-requires-2-clause-at_hand g c).In-Whole-2).at_hand

pub returns-in-Part-2 : goal.returns-in-Part-2
returns-in-Part-2 g c = record {
  takes = reads_on c.in_ok-head.ensures.takes c.in_ok-sheet.ensures.takes;
  found = no_sheet c.args.kind (heads_there g (goal.at.returns-in-Part-2 g c).In-Whole) c.in_ok-sheet.ensures.takes c.in-Part-2.end
      (rw c.in-Part-2.is at c.in_ok-sheet.ensures.within) (rw c.in-Part-2.is at c.in_ok-sheet.ensures.found);
  within = rw c.in-Part-2.is at c.in_ok-sheet.ensures.within;
  block = up_to_on 16_777_216 c.args.unread.now.bytes c.heads_end.new.unread.bytes c.section_end.new.unread.bytes c.in_ok-head.ensures.block c.in_ok-sheet.ensures.block;
  reads = goes_behind c.in_ok-head.ensures.reads (answers_on _ c.in_ok-sheet.ensures.reads);
  others = tt;
}

pub returns-in_err-judged : goal.returns-in_err-judged
returns-in_err-judged g c = record {
  takes = reads_on (reads_on c.in_ok-head.ensures.takes c.in_ok-sheet.ensures.takes) c.section_end-2.ensures.takes;
  found = none_found (handed (err_from_is_err_and c.from_residual-in_err-judged.result c.from_residual-in_err-judged.ensures.1)) _;
  within = none_found (handed (err_from_is_err_and c.from_residual-in_err-judged.result c.from_residual-in_err-judged.ensures.1)) _;
  block = all_up_to g (goal.at.returns-in_err-judged g c).After-section_end-2;
  reads = goes_behind c.in_ok-head.ensures.reads (goes_behind c.in_ok-sheet.ensures.reads (handed_reads (handed (err_from_is_err_and c.from_residual-in_err-judged.result c.from_residual-in_err-judged.ensures.1)) c.in_err-judged.ensures.reads));
  others = let at = goal.at.returns-in_err-judged g c in
      same_fault (handed (err_from_is_err_and c.from_residual-in_err-judged.result c.from_residual-in_err-judged.ensures.1)) _
      (stops_on (issuer_short c.args.kind (heads_there g at.In-Whole) c.in_ok-sheet.ensures.takes (sheet_there g at.In-Whole-2) c.section_end-2.ensures.takes) c.in_err-judged.ensures.others);
}

pub returns : goal.returns
returns g c = record {
  takes = reads_on (reads_on c.in_ok-head.ensures.takes c.in_ok-sheet.ensures.takes) c.section_end-2.ensures.takes;
  found = preamble_found c.args.kind (heads_there g (goal.at.returns g c).In-Whole) c.in_ok-sheet.ensures.takes (rw c.in-Whole-2.is at c.in_ok-sheet.ensures.found) c.section_end-2.ensures.takes
      c.in_ok-judged.judged c.in_ok-judged.ensures.within c.in_ok-judged.ensures.found;
  within = c.in_ok-judged.ensures.within;
  block = all_up_to g (goal.at.returns g c).After-section_end-2;
  reads = goes_behind c.in_ok-head.ensures.reads (goes_behind c.in_ok-sheet.ensures.reads (answers_on _ c.in_ok-judged.ensures.reads));
  others = tt;
}

-- ---- for what the search finds too, and takes long for

pub returns-in_err-head : goal.returns-in_err-head
returns-in_err-head g c = record {
  takes = c.in_err-head.ensures.takes;
  found = none_found (handed (err_from_is_err_and c.from_residual.result c.from_residual.ensures.1)) _;
  within = none_found (handed (err_from_is_err_and c.from_residual.result c.from_residual.ensures.1)) _;
  block = c.in_err-head.ensures.block;
  reads = handed_reads (handed (err_from_is_err_and c.from_residual.result c.from_residual.ensures.1)) c.in_err-head.ensures.reads;
  others = same_fault (handed (err_from_is_err_and c.from_residual.result c.from_residual.ensures.1)) _ c.in_err-head.ensures.others;
}

pub returns-in-Part : goal.returns-in-Part
returns-in-Part g c = record {
  takes = c.in_ok-head.ensures.takes;
  found = rw c.in-Part.is at c.in_ok-head.ensures.found;
  within = rw c.in-Part.is at c.in_ok-head.ensures.within;
  block = c.in_ok-head.ensures.block;
  reads = answers_on _ c.in_ok-head.ensures.reads;
  others = tt;
}

pub section_end-requires-clause-read : goal.section_end-requires-clause-read
section_end-requires-clause-read g c = c.in_ok-head.ensures.reads.within

pub section_end-requires-clause-from : goal.section_end-requires-clause-from
section_end-requires-clause-from g c = rw c.in-Whole.is at c.in_ok-head.ensures.within

pub section_end-requires-clause-most : goal.section_end-requires-clause-most
section_end-requires-clause-most g c = lit≤ tt

pub returns-in_err-sheet : goal.returns-in_err-sheet
returns-in_err-sheet g c = record {
  takes = reads_on c.in_ok-head.ensures.takes c.in_err-sheet.ensures.takes;
  found = none_found (handed (err_from_is_err_and c.from_residual-in_err-sheet.result c.from_residual-in_err-sheet.ensures.1)) _;
  within = none_found (handed (err_from_is_err_and c.from_residual-in_err-sheet.result c.from_residual-in_err-sheet.ensures.1)) _;
  block = up_to_on 16_777_216 c.args.unread.now.bytes c.heads_end.new.unread.bytes c.section_end.new.unread.bytes c.in_ok-head.ensures.block c.in_err-sheet.ensures.block;
  reads = goes_behind c.in_ok-head.ensures.reads (handed_reads (handed (err_from_is_err_and c.from_residual-in_err-sheet.result c.from_residual-in_err-sheet.ensures.1)) c.in_err-sheet.ensures.reads);
  others = same_fault (handed (err_from_is_err_and c.from_residual-in_err-sheet.result c.from_residual-in_err-sheet.ensures.1)) _
      (stops_on (sheet_short c.args.kind (heads_there g (goal.at.returns-in_err-sheet g c).In-Whole) c.in_err-sheet.ensures.takes) c.in_err-sheet.ensures.others);
}

pub section_end-requires-2-clause-read : goal.section_end-requires-2-clause-read
section_end-requires-2-clause-read g c = c.in_ok-sheet.ensures.reads.within

pub section_end-requires-2-clause-from : goal.section_end-requires-2-clause-from
section_end-requires-2-clause-from g c = rw c.in-Whole-2.is at c.in_ok-sheet.ensures.within

pub section_end-requires-2-clause-most : goal.section_end-requires-2-clause-most
section_end-requires-2-clause-most g c = lit≤ tt
