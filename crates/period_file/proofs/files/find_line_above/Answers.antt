use Rattle.std.proofs.Common.{◌≡◌, ◌∙◌, Some, Ok, sym, ap, rules}
use Rattle.line_source.proofs.Taking.{taken_on}
use Rattle.period_file.proofs.Finding.{finds_told, none_of, passes_told}
use Rattle.period_file.proofs.Passing.{less_left, passes_untold}
use Rattle.period_file.proofs.files.find_line_above.Goals as goal

pub loop-told-preserved : goal.loop-told-preserved
loop-told-preserved g c = record {
  passed = passes_told c.loop-told.invariant.passed (c.as_slice.ensures ∙ c.words_above-words.ensures) c.in-Some.told (none_of c.in-Some.told (sym c.is_some.ensures ∙ c.if-is_some.false))
      (c.in_ok-told.ensures.told c.in-Some.told (ap Ok c.in-Some.is));
  short = c.in_ok-told.ensures.reads.within;
  quiet = search rules;
}

pub loop-told-smaller : goal.loop-told-smaller
loop-told-smaller g c = less_left (c.in_ok-told.ensures.told c.in-Some.told (ap Ok c.in-Some.is)) c.in_ok-told.ensures.reads.within

pub returns-in_default-clause-none : goal.returns-in_default-clause-none
returns-in_default-clause-none g c = λ is.
    passes_untold c.loop-told.invariant.passed (c.in_ok-told.ensures.none c.args.period (c.as_slice.ensures ∙ c.words_above-words.ensures) (ap Ok c.in_default.is))

pub returns-in_default-clause-takes : goal.returns-in_default-clause-takes
returns-in_default-clause-takes g c = taken_on c.loop-told.invariant.passed.takes c.next_told.ensures.takes

pub returns-in_err-told-clause-takes : goal.returns-in_err-told-clause-takes
returns-in_err-told-clause-takes g c = taken_on c.loop-told.invariant.passed.takes c.next_told.ensures.takes

pub returns-then-is_some-clause-found : goal.returns-then-is_some-clause-found
returns-then-is_some-clause-found g c = λ count is.
    let same : c.in-Some.told ≡ Some count = cc is in
    finds_told c.loop-told.invariant.passed (c.as_slice.ensures ∙ c.words_above-words.ensures) count same (c.in_ok-told.ensures.told c.in-Some.told (ap Ok c.in-Some.is))

pub returns-then-is_some-clause-takes : goal.returns-then-is_some-clause-takes
returns-then-is_some-clause-takes g c = taken_on c.loop-told.invariant.passed.takes c.next_told.ensures.takes
