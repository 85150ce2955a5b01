use Rattle.std.proofs.Common.{◌∙◌, Err, Ok, OnErr, Result, ap, rules}
use Rattle.line_source.proofs.Taking.{PassesPart, line_on, part_ends, passes_line, passes_none, passes_on, passes_some}
use Rattle.line_source.proofs.lines.pass_line.Given as given
use Rattle.line_source.proofs.lines.pass_line.Goals.{After-fill}
use Rattle.line_source.proofs.lines.pass_line.Goals as goal

-- all that was ahead is a part of the line, and more was read
part : (g : given.Over) (c : After-fill g) → PassesPart c.args.unread.now.bytes c.fill.new.self.bytes c.args.unread.now.read c.fill.new.self.read (g.S.Source.remaining c.args.source.now) (g.S.Source.remaining c.fill.new.source)
part g c = passes_on c.loop-unread.invariant.passed (c.take_part.ensures.part c.if-take_part.false) c.take_part.ensures.read c.fill.ensures.takes c.fill.ensures.block

-- what holds whatever the answer is
on_err : {T E P : Type 0} (r : Result T E) → P → OnErr r P
on_err (Ok x) it = tt
on_err (Err e) it = it

pub loop-unread-init : goal.loop-unread-init
loop-unread-init g c = record { passed = passes_none (search rules); short = search rules; quiet = search rules }

pub returns-then-take_part-clause-takes : goal.returns-then-take_part-clause-takes
returns-then-take_part-clause-takes g c = passes_line c.loop-unread.invariant.passed (c.take_part.ensures.line c.if-take_part.true) c.take_part.ensures.read

pub returns-then-take_part-clause-line : goal.returns-then-take_part-clause-line
returns-then-take_part-clause-line g c = λ is. line_on c.loop-unread.invariant.passed.takes (c.take_part.ensures.line c.if-take_part.true) c.take_part.ensures.read

pub returns-in_err-is_more-clause-takes : goal.returns-in_err-is_more-clause-takes
returns-in_err-is_more-clause-takes g c = passes_some (part g (goal.at.returns-in_err-is_more-clause-takes g c).After-fill)

pub returns-in_err-is_more-clause-stopped : goal.returns-in_err-is_more-clause-stopped
returns-in_err-is_more-clause-stopped g c = on_err c.from_residual.result (part g (goal.at.returns-in_err-is_more-clause-stopped g c).After-fill).takes

pub returns-then-not-is_more-clause-takes : goal.returns-then-not-is_more-clause-takes
returns-then-not-is_more-clause-takes g c = passes_some (part g (goal.at.returns-then-not-is_more-clause-takes g c).After-fill)

pub returns-then-not-is_more-clause-ended : goal.returns-then-not-is_more-clause-ended
returns-then-not-is_more-clause-ended g c = λ is.
    let it = part g (goal.at.returns-then-not-is_more-clause-ended g c).After-fill in
    let over = c.in_ok-is_more.ensures.end (ap Ok c.if-not-is_more.true) in
    (part_ends it.takes (ap (λ u. u.bytes) over.0 ∙ (c.take_part.ensures.part c.if-take_part.false).1), over.1)

pub loop-unread-preserved : goal.loop-unread-preserved
loop-unread-preserved g c = record {
  passed = part g (goal.at.loop-unread-preserved g c).After-fill;
  short = c.in_ok-is_more.ensures.reads.within;
  quiet = search rules;
}
