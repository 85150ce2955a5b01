use Rattle.std.proofs.Common.{◌≡◌, ◌∙◌, ◌+◌, ◌-◌, ◌<◌, ◌≤◌, inl, inr, ℕ, List, [], length, take, drop, true, Err, Ok, Fits, Option, refl, sym, ap, arith, subst, w64}
use Rattle.std.proofs.lemmas.List.{drop-append-le, length-drop, take-append-drop, take-append-le, take_all, take_rest}
use Rattle.std.proofs.lemmas.Result.{IfOk-from_err, err_from_is_err_and}
use Rattle.metering_model.specs.Batch.{lacks}
use Rattle.metering_model.proofs.Splitting.{list_all_both}
use Rattle.line_source.specs.Inner.Wants.{IsLineShort}
use Rattle.line_source.specs.Lines.{IsLineAt}
use Rattle.line_source.specs.Reading.{ReadsWhile, StopsShort, Takes}
use Rattle.line_source.proofs.Calling.{block_behind, falls, no_less, on_fault, still_quiet, stops_behind, takes_none, within_err, within_ok, within_on}
use Rattle.line_source.proofs.LineTexts.{line_behind}
use Rattle.line_source.proofs.Taking.{reads_on}
use Rattle.line_source.proofs.lines.line_length.Given as given
use Rattle.line_source.proofs.lines.line_length.Goals.{After-fill, After-from_residual, In_default}
use Rattle.line_source.proofs.lines.line_length.Goals as goal

-- ---- over plain texts

-- what is looked through is the rest behind what was
fresh_is : (ahead text fresh : List ℕ) (from scanned : ℕ) → ahead ≡ text → fresh ≡ drop scanned (take (length ahead - from) (drop from ahead)) → fresh ≡ drop scanned (drop from text)
fresh_is ahead text fresh from scanned is back = back ∙ ap (drop scanned) (take_rest ahead from ∙ ap (drop from) is)

-- so many bytes are there
rest_fits : (ahead text : List ℕ) (from scanned : ℕ) → ahead ≡ text → scanned ≤ length (drop from text) → scanned ≤ length (take (length ahead - from) (drop from ahead))
rest_fits ahead text from scanned is within = subst (λ t. scanned ≤ length t) (sym (take_rest ahead from ∙ ap (drop from) is)) within

-- and the line's end is a place in them
end_fits : (ahead fresh : List ℕ) (from scanned i : ℕ) → i < length fresh → length fresh + scanned ≡ length (take (length ahead - from) (drop from ahead)) → length ahead < 18_446_744_073_709_551_616 → Fits w64 (scanned + i)
end_fits ahead fresh from scanned i within size fits = omega (arith, within, size, fits, ap length (take_rest ahead from), length-drop from ahead)

-- no line feed is in either part
none_in_both : (text : List ℕ) (n : ℕ) → lacks 10 (take n text) ≡ true → lacks 10 (drop n text) ≡ true → lacks 10 text ≡ true
none_in_both text n prefix rest = ap (lacks 10) (sym (take-append-drop n text)) ∙ list_all_both _ (take n text) (drop n text) prefix rest

module _ {text after : List ℕ} {r s : ℕ} {l m : Option (List ℕ)} (reads : Takes text after r s l m []) (ahead : List ℕ) (is : ahead ≡ text) (from : ℕ) (within : from ≤ length text) where
  -- where more came, what was looked through is there still
  still_there : length ahead - from ≤ length (drop from after)
  still_there = omega (arith, ap length is, no_less reads, length-drop from after)

  -- and stands in front of it
  still_none : lacks 10 (drop from text) ≡ true → lacks 10 (take (length ahead - from) (drop from after)) ≡ true
  still_none none =
      let n = length text - from in
      let size = length-drop from text in
      let same : take n (drop from after) ≡ drop from text =
      ap (λ t. take n (drop from t)) (sym reads.joined) ∙ ap (take n) (drop-append-le from text reads.came within) ∙ take-append-le n (drop from text) reads.came (omega (arith, size))
      ∙ take_all n (drop from text) (omega (arith, size)) in
      ap (λ t. lacks 10 (take (length t - from) (drop from after))) is ∙ ap (lacks 10) same ∙ none

-- ---- at the calls

-- no line feed is ahead
none_ahead : (g : given.Over) (c : In_default g) → lacks 10 (drop c.args.from c.loop-length.unread.bytes) ≡ true
none_ahead g c =
    none_in_both (drop c.args.from c.loop-length.unread.bytes) c.loop-length.scanned c.loop-length.invariant.scanned
    (ap (lacks 10) (sym (fresh_is c.ahead.result.now c.loop-length.unread.bytes c.split_at.result.1.now c.args.from c.loop-length.scanned c.ahead.ensures c.split_at.ensures.back)) ∙ c.in_default.ensures)

-- of more nothing was taken
takes : (g : given.Over) (c : After-fill g) → Takes c.args.unread.now.bytes c.fill.new.self.bytes c.args.unread.now.read c.fill.new.self.read (g.S.Source.remaining c.args.source.now) (g.S.Source.remaining c.fill.new.source) []
takes g c = reads_on c.loop-length.invariant.takes c.fill.ensures.takes

-- what was ahead before it was short
short : (g : given.Over) (c : After-fill g) → lacks 10 (drop c.args.from c.loop-length.unread.bytes) ≡ true → IsLineShort c.args.from c.args.most c.loop-length.unread.bytes
short g c none = (none, omega (arith, c.if-length-most.false, ap length c.ahead-length.ensures))

-- so it passes the most by a block at most
block : (g : given.Over) (c : After-fill g) → length c.args.unread.now.bytes < length c.fill.new.self.bytes → length c.fill.new.self.bytes ≤ c.args.most + 65_536
block g c _ = omega (arith, c.if-length-most.false, ap length c.ahead-length.ensures, c.fill.ensures.block)

-- and was read for want of a line
last : (g : given.Over) (c : After-fill g) → lacks 10 (drop c.args.from c.loop-length.unread.bytes) ≡ true → ReadsWhile (IsLineShort c.args.from c.args.most) c.args.unread.now.bytes c.fill.new.self.bytes
last g c none = block_behind c.loop-length.invariant.takes c.fill.ensures.takes (short g c none) c.fill.ensures.block

-- the fault is that of the read
told : (g : given.Over) (c : After-from_residual g) → c.from_residual.result ≡ Err c.in_err-is_more.field-0.0
told g c = let p = err_from_is_err_and c.from_residual.result c.from_residual.ensures.1 in p.1 ∙ ap Err p.2

-- ---- where the loop begins

pub loop-length-init : goal.loop-length-init
loop-length-init g c = record {
  from = c.requires.from;
  within = omega arith;
  scanned = refl;
  takes = takes_none c.args.unread.now.bytes c.args.unread.now.read (g.S.Source.remaining c.args.source.now);
  block = λ longer. absurd (omega (arith, longer));
  last = λ longer. absurd (omega (arith, longer));
  short = c.requires.read;
  quiet = refl;
}

pub slice_bounds-split_at-count : goal.slice_bounds-split_at-count
slice_bounds-split_at-count g c = subst (λ t. c.args.from ≤ length t) (sym c.ahead.ensures) c.loop-length.invariant.from

pub split_at-requires : goal.split_at-requires
split_at-requires g c = rest_fits c.ahead.result.now c.loop-length.unread.bytes c.args.from c.loop-length.scanned c.ahead.ensures c.loop-length.invariant.within

-- ---- where a line ends

pub overflow_add-result : goal.overflow_add-result
overflow_add-result g c = end_fits c.ahead.result.now c.split_at.result.1.now c.args.from c.loop-length.scanned c.in-Some.length c.in-Some.ensures.within c.split_at.ensures.back_len c.ahead.type_inv.0

pub returns-in-Some-clause-takes : goal.returns-in-Some-clause-takes
returns-in-Some-clause-takes g c = c.loop-length.invariant.takes

pub returns-in-Some-clause-found : goal.returns-in-Some-clause-found
returns-in-Some-clause-found g c =
    line_behind (drop c.args.from c.loop-length.unread.bytes) c.loop-length.scanned c.in-Some.length c.loop-length.invariant.within c.loop-length.invariant.scanned
    (subst (λ t. IsLineAt t c.in-Some.length) (fresh_is c.ahead.result.now c.loop-length.unread.bytes c.split_at.result.1.now c.args.from c.loop-length.scanned c.ahead.ensures c.split_at.ensures.back) c.in-Some.ensures)

pub returns-in-Some-clause-block : goal.returns-in-Some-clause-block
returns-in-Some-clause-block g c = c.loop-length.invariant.block

pub returns-in-Some-clause-last : goal.returns-in-Some-clause-last
returns-in-Some-clause-last g c = c.loop-length.invariant.last

pub returns-in-Some-clause-stopped : goal.returns-in-Some-clause-stopped
returns-in-Some-clause-stopped g c = tt

pub returns-in-Some-clause-reads : goal.returns-in-Some-clause-reads
returns-in-Some-clause-reads g c = within_ok _ c.loop-length.invariant.short c.loop-length.invariant.quiet

-- ---- where too many bytes are ahead

pub returns-then-length-most-clause-takes : goal.returns-then-length-most-clause-takes
returns-then-length-most-clause-takes g c = c.loop-length.invariant.takes

pub returns-then-length-most-clause-found : goal.returns-then-length-most-clause-found
returns-then-length-most-clause-found g c =
    (none_ahead g (goal.at.returns-then-length-most-clause-found g c).In_default, inr (subst (λ t. c.args.most < length t) c.ahead-length.ensures c.if-length-most.true))

pub returns-then-length-most-clause-block : goal.returns-then-length-most-clause-block
returns-then-length-most-clause-block g c = c.loop-length.invariant.block

pub returns-then-length-most-clause-last : goal.returns-then-length-most-clause-last
returns-then-length-most-clause-last g c = c.loop-length.invariant.last

pub returns-then-length-most-clause-stopped : goal.returns-then-length-most-clause-stopped
returns-then-length-most-clause-stopped g c = tt

pub returns-then-length-most-clause-reads : goal.returns-then-length-most-clause-reads
returns-then-length-most-clause-reads g c = within_ok _ c.loop-length.invariant.short c.loop-length.invariant.quiet

-- ---- where more is read

pub overflow_sub-scanned : goal.overflow_sub-scanned
overflow_sub-scanned g c = subst (λ t. c.args.from ≤ length t) (sym c.ahead-length.ensures) c.loop-length.invariant.from

pub fill-requires : goal.fill-requires
fill-requires g c = c.loop-length.invariant.short

pub returns-in_err-is_more-clause-takes : goal.returns-in_err-is_more-clause-takes
returns-in_err-is_more-clause-takes g c = takes g (goal.at.returns-in_err-is_more-clause-takes g c).After-fill

pub returns-in_err-is_more-clause-found : goal.returns-in_err-is_more-clause-found
returns-in_err-is_more-clause-found g c = IfOk-from_err c.from_residual.result _ c.from_residual.ensures.0

pub returns-in_err-is_more-clause-block : goal.returns-in_err-is_more-clause-block
returns-in_err-is_more-clause-block g c = block g (goal.at.returns-in_err-is_more-clause-block g c).After-fill

pub returns-in_err-is_more-clause-last : goal.returns-in_err-is_more-clause-last
returns-in_err-is_more-clause-last g c =
    let at = goal.at.returns-in_err-is_more-clause-last g c in
    last g at.After-fill (none_ahead g at.In_default)

pub returns-in_err-is_more-clause-stopped : goal.returns-in_err-is_more-clause-stopped
returns-in_err-is_more-clause-stopped g c =
    let at = goal.at.returns-in_err-is_more-clause-stopped g c in
    let short_of = IsLineShort c.args.from c.args.most in
    on_fault (StopsShort short_of c.args.unread.now.bytes c.fill.new.self.bytes) (told g at.After-from_residual)
    (stops_behind short_of c.loop-length.unread c.fill.new.self c.in_err-is_more.field-0.0 c.loop-length.invariant.takes c.fill.ensures.takes
    (short g at.After-fill (none_ahead g at.In_default)) c.in_err-is_more.ensures.stopped c.in_err-is_more.ensures.reads)

pub returns-in_err-is_more-clause-reads : goal.returns-in_err-is_more-clause-reads
returns-in_err-is_more-clause-reads g c =
    within_err c.in_err-is_more.field-0.0 (told g (goal.at.returns-in_err-is_more-clause-reads g c).After-from_residual) c.loop-length.invariant.quiet c.in_err-is_more.ensures.reads

pub returns-then-not-is_more-clause-takes : goal.returns-then-not-is_more-clause-takes
returns-then-not-is_more-clause-takes g c = takes g (goal.at.returns-then-not-is_more-clause-takes g c).After-fill

pub returns-then-not-is_more-clause-found : goal.returns-then-not-is_more-clause-found
returns-then-not-is_more-clause-found g c =
    let over = c.in_ok-is_more.ensures.end (ap Ok c.if-not-is_more.true) in
    let none = none_ahead g (goal.at.returns-then-not-is_more-clause-found g c).In_default in
    (ap (λ u. lacks 10 (drop c.args.from u.bytes)) over.0 ∙ none, inl over.1)

pub returns-then-not-is_more-clause-block : goal.returns-then-not-is_more-clause-block
returns-then-not-is_more-clause-block g c = block g (goal.at.returns-then-not-is_more-clause-block g c).After-fill

pub returns-then-not-is_more-clause-last : goal.returns-then-not-is_more-clause-last
returns-then-not-is_more-clause-last g c =
    let at = goal.at.returns-then-not-is_more-clause-last g c in
    last g at.After-fill (none_ahead g at.In_default)

pub returns-then-not-is_more-clause-stopped : goal.returns-then-not-is_more-clause-stopped
returns-then-not-is_more-clause-stopped g c = tt

pub returns-then-not-is_more-clause-reads : goal.returns-then-not-is_more-clause-reads
returns-then-not-is_more-clause-reads g c = within_on c.loop-length.invariant.quiet c.in_ok-is_more.ensures.reads

-- ---- and the loop goes on

pub loop-length-smaller : goal.loop-length-smaller
loop-length-smaller g c = falls c.fill.ensures.takes (c.in_ok-is_more.ensures.more (ap Ok c.if-not-is_more.false)) c.loop-length.invariant.short

pub loop-length-preserved : goal.loop-length-preserved
loop-length-preserved g c =
    let at = goal.at.loop-length-preserved g c in
    let none = none_ahead g at.In_default in
    let here = c.loop-length.invariant in
    record {
      from = omega (arith, no_less c.fill.ensures.takes, here.from);
      within = still_there c.fill.ensures.takes c.ahead-length.result.now c.ahead-length.ensures c.args.from here.from;
      scanned = still_none c.fill.ensures.takes c.ahead-length.result.now c.ahead-length.ensures c.args.from here.from none;
      takes = takes g at.After-fill;
      block = block g at.After-fill;
      last = last g at.After-fill none;
      short = c.in_ok-is_more.ensures.reads.within;
      quiet = still_quiet c.loop-length.invariant.quiet c.in_ok-is_more.ensures.reads;
    }
