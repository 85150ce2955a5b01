-- While too few bytes are ahead, more are read.
use Rattle.std.proofs.Common.{◌≡◌, ◌∙◌, ◌<◌, ◌≤◌, Bool, true, false, Err, Ok, Result, [], length, refl, sym, ap, arith, subst}
use Rattle.std.proofs.lemmas.Result.{err_from_is_err_and}
use Rattle.line_source.specs.declared.faults.SourceFault.{SourceFault}
use Rattle.line_source.specs.Reading.{ReadsWhile, StopsShort, Takes}
use Rattle.line_source.proofs.Calling.{block_behind, falls, no_fault, on_fault, still_quiet, stops_behind, takes_none, within_err, within_ok, within_on}
use Rattle.line_source.proofs.Taking.{reads_on}
use Rattle.line_source.proofs.lines.read_ahead.Given as given
use Rattle.line_source.proofs.lines.read_ahead.Goals.{After-fill, After-from_residual}
use Rattle.line_source.proofs.lines.read_ahead.Goals as goal

-- of more nothing was taken
takes : (g : given.Over) (c : After-fill g) → Takes c.args.unread.now.bytes c.fill.new.self.bytes c.args.unread.now.read c.fill.new.self.read (g.S.Source.remaining c.args.source.now) (g.S.Source.remaining c.fill.new.source) []
takes g c = reads_on c.loop-unread.invariant.takes c.fill.ensures.takes

-- too few were ahead
few : (g : given.Over) (c : After-fill g) → length c.loop-unread.unread.bytes < c.args.wanted
few g c = subst (λ t. length t < c.args.wanted) c.ahead.ensures c.loop-unread-test.true

-- so more was read for want of them
last : (g : given.Over) (c : After-fill g) → ReadsWhile (λ held. length held < c.args.wanted) c.args.unread.now.bytes c.fill.new.self.bytes
last g c = block_behind c.loop-unread.invariant.takes c.fill.ensures.takes (few g c) c.fill.ensures.block

-- the fault is that of the read
told : (g : given.Over) (c : After-from_residual g) → c.from_residual.result ≡ Err c.in_err-is_more.field-0.0
told g c = let p = err_from_is_err_and c.from_residual.result c.from_residual.ensures.1 in p.1 ∙ ap Err p.2

-- no answer is both
not_both : {P : Type 0} → ◌≡◌ {A = Result Bool SourceFault} (Ok true) (Ok false) → P
not_both is = absurd cc

pub loop-unread-init : goal.loop-unread-init
loop-unread-init g c = record {
  takes = takes_none c.args.unread.now.bytes c.args.unread.now.read (g.S.Source.remaining c.args.source.now);
  last = λ longer. absurd (omega (arith, longer));
  short = c.requires;
  quiet = refl;
}

pub fill-requires : goal.fill-requires
fill-requires g c = c.loop-unread.invariant.short

-- ---- at a fault

pub returns-in_err-is_more-clause-takes : goal.returns-in_err-is_more-clause-takes
returns-in_err-is_more-clause-takes g c = takes g (goal.at.returns-in_err-is_more-clause-takes g c).After-fill

pub returns-in_err-is_more-clause-enough : goal.returns-in_err-is_more-clause-enough
returns-in_err-is_more-clause-enough g c = λ is. no_fault (sym is ∙ told g c)

pub returns-in_err-is_more-clause-ended : goal.returns-in_err-is_more-clause-ended
returns-in_err-is_more-clause-ended g c = λ is. no_fault (sym is ∙ told g c)

pub returns-in_err-is_more-clause-last : goal.returns-in_err-is_more-clause-last
returns-in_err-is_more-clause-last g c = last g (goal.at.returns-in_err-is_more-clause-last g c).After-fill

pub returns-in_err-is_more-clause-stopped : goal.returns-in_err-is_more-clause-stopped
returns-in_err-is_more-clause-stopped g c =
    on_fault (StopsShort (λ held. length held < c.args.wanted) c.args.unread.now.bytes c.fill.new.self.bytes) (told g c)
    (stops_behind (λ held. length held < c.args.wanted) c.loop-unread.unread c.fill.new.self c.in_err-is_more.field-0.0 c.loop-unread.invariant.takes c.fill.ensures.takes
    (few g (goal.at.returns-in_err-is_more-clause-stopped g c).After-fill) c.in_err-is_more.ensures.stopped c.in_err-is_more.ensures.reads)

pub returns-in_err-is_more-clause-reads : goal.returns-in_err-is_more-clause-reads
returns-in_err-is_more-clause-reads g c = within_err c.in_err-is_more.field-0.0 (told g c) c.loop-unread.invariant.quiet c.in_err-is_more.ensures.reads

-- ---- at the end

pub returns-then-not-is_more-clause-takes : goal.returns-then-not-is_more-clause-takes
returns-then-not-is_more-clause-takes g c = takes g (goal.at.returns-then-not-is_more-clause-takes g c).After-fill

pub returns-then-not-is_more-clause-enough : goal.returns-then-not-is_more-clause-enough
returns-then-not-is_more-clause-enough g c = λ is. not_both (sym is)

pub returns-then-not-is_more-clause-ended : goal.returns-then-not-is_more-clause-ended
returns-then-not-is_more-clause-ended g c = λ _.
    let over = c.in_ok-is_more.ensures.end (ap Ok c.if-not-is_more.true) in
    (subst (λ u. length u.bytes < c.args.wanted) (sym over.0) (few g (goal.at.returns-then-not-is_more-clause-ended g c).After-fill), over.1)

pub returns-then-not-is_more-clause-last : goal.returns-then-not-is_more-clause-last
returns-then-not-is_more-clause-last g c = last g (goal.at.returns-then-not-is_more-clause-last g c).After-fill

pub returns-then-not-is_more-clause-stopped : goal.returns-then-not-is_more-clause-stopped
returns-then-not-is_more-clause-stopped g c = tt

pub returns-then-not-is_more-clause-reads : goal.returns-then-not-is_more-clause-reads
returns-then-not-is_more-clause-reads g c = within_on c.loop-unread.invariant.quiet c.in_ok-is_more.ensures.reads

-- ---- where more came

pub loop-unread-smaller : goal.loop-unread-smaller
loop-unread-smaller g c = falls c.fill.ensures.takes (c.in_ok-is_more.ensures.more (ap Ok c.if-not-is_more.false)) c.loop-unread.invariant.short

pub loop-unread-preserved : goal.loop-unread-preserved
loop-unread-preserved g c =
    let at = goal.at.loop-unread-preserved g c in
    record {
      takes = takes g at.After-fill;
      last = last g at.After-fill;
      short = c.in_ok-is_more.ensures.reads.within;
      quiet = still_quiet c.loop-unread.invariant.quiet c.in_ok-is_more.ensures.reads;
    }

-- ---- where enough are ahead

pub returns-clause-takes : goal.returns-clause-takes
returns-clause-takes g c = c.loop-unread.invariant.takes

pub returns-clause-enough : goal.returns-clause-enough
returns-clause-enough g c = λ _. subst (λ t. c.args.wanted ≤ length t) c.ahead.ensures c.loop-unread-test.false

pub returns-clause-ended : goal.returns-clause-ended
returns-clause-ended g c = λ is. not_both is

pub returns-clause-last : goal.returns-clause-last
returns-clause-last g c = c.loop-unread.invariant.last

pub returns-clause-stopped : goal.returns-clause-stopped
returns-clause-stopped g c = tt

pub returns-clause-reads : goal.returns-clause-reads
returns-clause-reads g c = within_ok _ c.loop-unread.invariant.short c.loop-unread.invariant.quiet
