use Rattle.std.proofs.Common.{◌≡◌, ◌∙◌, ℕ, Option, Some, None, Result, Ok, Err, false, length, take, sym, ap, refl, subst}
use Rattle.std.proofs.lemmas.Result.{err_from_is_err_and}
use Rattle.metering_model.specs.BatchReading.{is_same}
use Rattle.counted_io.specs.Counts.{count_after}
use Rattle.line_source.specs.Calls.{ReadsWithin}
use Rattle.line_source.specs.Faults.{tells_of_source}
use Rattle.line_source.specs.declared.faults.SourceFault.{SourceFault}
use Rattle.line_source.proofs.Taking.{reads_on, takes_line, takes_on}
use Rattle.period_file.proofs.Passing.{ended_untold, few_untold, line_told, part_untold, passed_untold, untold_on}
use Rattle.period_file.proofs.lines_above.next_told.Goals as goal

-- ---- for what the search finds too, and takes long for

-- a fault that is passed on
passed : {A : Type 0} {r : Result A SourceFault} {e : SourceFault} → (y : SourceFault) × (r ≡ Err y) × (y ≡ e) → r ≡ Err e
passed p = p.1 ∙ ap Err p.2

no_answer : {A P : Type 0} {r : Result A SourceFault} {e : SourceFault} {x : A} → r ≡ Err e → r ≡ Ok x → P
no_answer failed answered = absurd (cc)

ended_is_none : {A E P : Type 0} {x : A} → (r : Result (Option A) E) → r ≡ Ok None → r ≡ Ok (Some x) → P
ended_is_none r is other = absurd (cc)

told_is_some : {A E P : Type 0} {x : A} → (r : Result (Option A) E) → r ≡ Ok (Some x) → r ≡ Ok None → P
told_is_some r is other = absurd (cc)

module _ {A B : Type 0} {s f h : ℕ} where
  fault_reads : {r : Result B SourceFault} {e : SourceFault} → r ≡ Err e → ReadsWithin {A = A} (Err e) s f h → ReadsWithin r s f h
  fault_reads is it = subst (λ (x : Result B SourceFault). ReadsWithin x s f h) (sym is) (record { within = tt; most = it.most; reading = it.reading; count = it.count })

  answer_reads : {x : A} (y : B) → ReadsWithin (Ok x) s f h → ReadsWithin (Ok y) s f h
  answer_reads y it = record { within = it.within; most = it.most; reading = tt; count = it.count }

  -- behind a call that answered
  reads_behind : {x : A} {r : Result B SourceFault} {s' f' : ℕ} → ReadsWithin (Ok x) s' f' f → ReadsWithin r s f h → ReadsWithin r s f' h
  reads_behind {r = r} one two = record { within = two.within; most = two.most; reading = two.reading; count = two.count ∙ ap (count_after (tells_of_source r)) one.count }

-- ---- too few bytes come

pub returns-in_err-read_ahead-clause-takes : goal.returns-in_err-read_ahead-clause-takes
returns-in_err-read_ahead-clause-takes g c = (_, c.read_ahead.ensures.takes)

pub returns-in_err-read_ahead-clause-told : goal.returns-in_err-read_ahead-clause-told
returns-in_err-read_ahead-clause-told g c = λ told is. no_answer (passed (err_from_is_err_and c.from_residual.result c.from_residual.ensures.1)) is

pub returns-in_err-read_ahead-clause-none : goal.returns-in_err-read_ahead-clause-none
returns-in_err-read_ahead-clause-none g c = λ period are is. no_answer (passed (err_from_is_err_and c.from_residual.result c.from_residual.ensures.1)) is

pub returns-in_err-read_ahead-clause-reads : goal.returns-in_err-read_ahead-clause-reads
returns-in_err-read_ahead-clause-reads g c =
    fault_reads (passed (err_from_is_err_and c.from_residual.result c.from_residual.ensures.1)) c.in_err-read_ahead.ensures.reads

pub returns-then-not-branch-clause-takes : goal.returns-then-not-branch-clause-takes
returns-then-not-branch-clause-takes g c = (_, c.read_ahead.ensures.takes)

pub returns-then-not-branch-clause-told : goal.returns-then-not-branch-clause-told
returns-then-not-branch-clause-told g c = λ told is. ended_is_none _ refl is

pub returns-then-not-branch-clause-reads : goal.returns-then-not-branch-clause-reads
returns-then-not-branch-clause-reads g c = answer_reads None c.in_ok-read_ahead.ensures.reads

pub returns-then-not-branch-clause-none : goal.returns-then-not-branch-clause-none
returns-then-not-branch-clause-none g c = λ period are is.
    let short = c.in_ok-read_ahead.ensures.ended (ap Ok c.if-not-branch.true) in
    few_untold period c.read_ahead.ensures.takes are short.0 short.1

-- a line that begins with the words

pub returns-in_err-end-clause-takes : goal.returns-in_err-end-clause-takes
returns-in_err-end-clause-takes g c = (_, reads_on c.read_ahead.ensures.takes c.line_end.ensures.takes)

pub returns-in_err-end-clause-told : goal.returns-in_err-end-clause-told
returns-in_err-end-clause-told g c = λ told is. no_answer (passed (err_from_is_err_and c.from_residual-in_err-end.result c.from_residual-in_err-end.ensures.1)) is

pub returns-in_err-end-clause-none : goal.returns-in_err-end-clause-none
returns-in_err-end-clause-none g c = λ period are is. no_answer (passed (err_from_is_err_and c.from_residual-in_err-end.result c.from_residual-in_err-end.ensures.1)) is

pub returns-in_err-end-clause-reads : goal.returns-in_err-end-clause-reads
returns-in_err-end-clause-reads g c =
    reads_behind c.in_ok-read_ahead.ensures.reads
    (fault_reads (passed (err_from_is_err_and c.from_residual-in_err-end.result c.from_residual-in_err-end.ensures.1)) c.in_err-end.ensures.reads)

pub returns-in_default-clause-takes : goal.returns-in_default-clause-takes
returns-in_default-clause-takes g c = (_, reads_on c.read_ahead.ensures.takes c.line_end.ensures.takes)

pub returns-in_default-clause-none : goal.returns-in_default-clause-none
returns-in_default-clause-none g c = λ period are is.
    ended_untold period (reads_on c.read_ahead.ensures.takes c.line_end.ensures.takes) (rw c.in_default.is at c.in_ok-end.ensures.found)

pub returns-in_default-clause-told : goal.returns-in_default-clause-told
returns-in_default-clause-told g c = λ told is. ended_is_none _ refl is

pub returns-in_default-clause-reads : goal.returns-in_default-clause-reads
returns-in_default-clause-reads g c = reads_behind c.in_ok-read_ahead.ensures.reads (answer_reads None c.in_ok-end.ensures.reads)

pub returns-then-is_same-clause-takes : goal.returns-then-is_same-clause-takes
returns-then-is_same-clause-takes g c =
    let found = rw c.in-Some.is at c.in_ok-end.ensures.found in
    (_, takes_line (reads_on c.read_ahead.ensures.takes c.line_end.ensures.takes) (c.in-Some.end, found, c.take.ensures.bytes) c.take.ensures.read)

pub returns-then-is_same-clause-told : goal.returns-then-is_same-clause-told
returns-then-is_same-clause-told g c = λ told is.
    let found = rw c.in-Some.is at c.in_ok-end.ensures.found in
    let same : c.told_behind-told.result ≡ told = cc is in
    line_told (reads_on c.read_ahead.ensures.takes c.line_end.ensures.takes) (c.in-Some.end, found, c.take.ensures.bytes) c.take.ensures.read (rw (c.ahead-then-is_same.ensures, same) at c.told_behind-told.ensures)

pub returns-then-is_same-clause-none : goal.returns-then-is_same-clause-none
returns-then-is_same-clause-none g c = λ period are is. told_is_some _ refl is

pub returns-then-is_same-clause-reads : goal.returns-then-is_same-clause-reads
returns-then-is_same-clause-reads g c =
    rw c.take.ensures.read (reads_behind c.in_ok-read_ahead.ensures.reads (answer_reads (Some c.told_behind-told.result) c.in_ok-end.ensures.reads))

-- another line

pub returns-in_err-pass_line-clause-takes : goal.returns-in_err-pass_line-clause-takes
returns-in_err-pass_line-clause-takes g c = (_, takes_on c.read_ahead.ensures.takes c.pass_line.ensures.takes.takes)

pub returns-in_err-pass_line-clause-told : goal.returns-in_err-pass_line-clause-told
returns-in_err-pass_line-clause-told g c = λ told is.
    no_answer (passed (err_from_is_err_and c.from_residual-in_err-pass_line.result c.from_residual-in_err-pass_line.ensures.1)) is

pub returns-in_err-pass_line-clause-none : goal.returns-in_err-pass_line-clause-none
returns-in_err-pass_line-clause-none g c = λ period are is.
    no_answer (passed (err_from_is_err_and c.from_residual-in_err-pass_line.result c.from_residual-in_err-pass_line.ensures.1)) is

pub returns-in_err-pass_line-clause-reads : goal.returns-in_err-pass_line-clause-reads
returns-in_err-pass_line-clause-reads g c =
    reads_behind c.in_ok-read_ahead.ensures.reads
    (fault_reads (passed (err_from_is_err_and c.from_residual-in_err-pass_line.result c.from_residual-in_err-pass_line.ensures.1)) c.in_err-pass_line.ensures.reads)

pub returns-then-branch-clause-takes : goal.returns-then-branch-clause-takes
returns-then-branch-clause-takes g c = (_, takes_on c.read_ahead.ensures.takes c.pass_line.ensures.takes.takes)

pub returns-then-branch-clause-none : goal.returns-then-branch-clause-none
returns-then-branch-clause-none g c = λ period are is. told_is_some _ refl is

pub returns-then-branch-clause-reads : goal.returns-then-branch-clause-reads
returns-then-branch-clause-reads g c = reads_behind c.in_ok-read_ahead.ensures.reads (answer_reads (Some None) c.in_ok-pass_line.ensures.reads)

pub returns-then-branch-clause-told : goal.returns-then-branch-clause-told
returns-then-branch-clause-told g c = λ told is.
    let enough = c.in_ok-read_ahead.ensures.enough (ap Ok c.if-not-branch.false) in
    let other : is_same (take (length c.args.words.now) c.read_ahead.new.unread.bytes) c.args.words.now ≡ false =
    ap (λ t. is_same (take (length c.args.words.now) t) c.args.words.now) (sym c.ahead.ensures) ∙ sym c.is_same.ensures ∙ c.if-is_same.false in
    let none : told ≡ None = cc in
    passed_untold c.read_ahead.ensures.takes c.args.words.now told enough other (c.in_ok-pass_line.ensures.line (ap Ok c.if-branch.true)) none

pub returns-else-branch-clause-takes : goal.returns-else-branch-clause-takes
returns-else-branch-clause-takes g c = (_, takes_on c.read_ahead.ensures.takes c.pass_line.ensures.takes.takes)

pub returns-else-branch-clause-told : goal.returns-else-branch-clause-told
returns-else-branch-clause-told g c = λ told is. ended_is_none _ refl is

pub returns-else-branch-clause-reads : goal.returns-else-branch-clause-reads
returns-else-branch-clause-reads g c = reads_behind c.in_ok-read_ahead.ensures.reads (answer_reads None c.in_ok-pass_line.ensures.reads)

pub returns-else-branch-clause-none : goal.returns-else-branch-clause-none
returns-else-branch-clause-none g c = λ period are is.
    let over = c.in_ok-pass_line.ensures.ended (ap Ok c.if-branch.false) in
    untold_on c.read_ahead.ensures.takes (part_untold period over.0 over.1)
