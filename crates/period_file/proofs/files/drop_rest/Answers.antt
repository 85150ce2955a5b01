use Rattle.std.proofs.Common.{rules}
use Rattle.period_file.proofs.Taking.{drops_on}
use Rattle.period_file.proofs.files.drop_rest.Goals as goal

pub returns-in_err-is_more-clause-takes : goal.returns-in_err-is_more-clause-takes
returns-in_err-is_more-clause-takes g c = drops_on c.loop-is_more.invariant.taken _ c.take.ensures.bytes c.take.ensures.read c.fill.ensures.takes

pub returns-then-not-is_more-clause-takes : goal.returns-then-not-is_more-clause-takes
returns-then-not-is_more-clause-takes g c = drops_on c.loop-is_more.invariant.taken _ c.take.ensures.bytes c.take.ensures.read c.fill.ensures.takes

pub loop-is_more-preserved : goal.loop-is_more-preserved
loop-is_more-preserved g c = record {
  taken = drops_on c.loop-is_more.invariant.taken _ c.take.ensures.bytes c.take.ensures.read c.fill.ensures.takes;
  short = c.in_ok-is_more.ensures.reads.within;
  quiet = search rules;
}
