use Rattle.std.proofs.Common.{◌≡◌, ◌<◌, ◌≤◌, ◌∙◌, ◌+◌, [], ◌++◌, length, drop, refl, ap, arith, subst, Result, Ok, Err, OnErr}
use Rattle.std.proofs.KnownBytes.{Appends-nil}
use Rattle.std.proofs.lemmas.Result.{on_ok_weaker, IfErr-at_err}
use Rattle.counted_io.specs.Counts.{Rises, count_after}
use Rattle.metering_model.specs.File.{file}
use Rattle.focus_csv.specs.Faults.{is_sink_fault}
use Rattle.focus_csv.specs.Rows.{batch_lines}
use Rattle.focus_csv.specs.declared.CsvFault.{CsvFault}
use Rattle.focus_csv.specs.declared.CsvFault.TheVariants.{Write, OutOfMemory}
use Rattle.focus_row.specs.Rows.{joined}
use Rattle.focus_csv.proofs.FileParts.{next_batch, none_left}
use Rattle.focus_csv.proofs.Sinks.{next_prefix, next_some, next_written, last_written, begun_anew}
use Rattle.focus_csv.proofs.files.write_behind.Goals as goal

-- what a clause says of an error holds where the answer is one
on_err : {T E P : Type 0} (r : Result T E) {e : E} → r ≡ Err e → OnErr r P → P
on_err (Ok x) is it = absurd cc
on_err (Err e) is it = it

-- the two faults are not one
apart : {P : Type 0} → ◌≡◌ {A = CsvFault} OutOfMemory Write → P
apart is = absurd (cc)

of_memory : {T P : Type 0} → ◌≡◌ {A = Result T CsvFault} (Err OutOfMemory) (Err Write) → P
of_memory is = absurd (cc)

of_sink : {T P : Type 0} (fault : CsvFault) → fault ≡ Write → ◌≡◌ {A = Result T CsvFault} (Err fault) (Err OutOfMemory) → P
of_sink fault write is = absurd (cc)

pub loop-k-init : goal.loop-k-init
loop-k-init g c = ([], c.requires, Appends-nil _, refl)

pub returns-in-Err-clause-prefix : goal.returns-in-Err-clause-prefix
returns-in-Err-clause-prefix g c is =
    let so = c.loop-k.invariant in
    next_prefix _ _ _ so.0 _ _ _ _ so.1 c.as_slice.ensures.value so.2 c.in-Err.ensures.prefix

pub returns-in-Err-clause-written : goal.returns-in-Err-clause-written
returns-in-Err-clause-written g c = tt

pub returns-in-Err-clause-fault : goal.returns-in-Err-clause-fault
returns-in-Err-clause-fault g c is = subst (λ n. Rises n (g.W.Sink.failed_calls c.write_text.new.sink)) c.loop-k.invariant.3 c.in-Err.ensures.fault

pub returns-in-Err-clause-memory : goal.returns-in-Err-clause-memory
returns-in-Err-clause-memory g c is = of_sink _ c.in-Err.ensures.write is

pub returns-in-Err-clause-count : goal.returns-in-Err-clause-count
returns-in-Err-clause-count g c = c.in-Err.ensures.count ∙ ap (count_after _) c.loop-k.invariant.3

pub put_batch-requires : goal.put_batch-requires
put_batch-requires g c = omega (arith, c.loop-k-test.true, c.batches-k-end.ensures)

pub returns-in_default-put_batch-clause-written : goal.returns-in_default-put_batch-clause-written
returns-in_default-put_batch-clause-written g c = tt

pub returns-in_default-put_batch-clause-prefix : goal.returns-in_default-put_batch-clause-prefix
returns-in_default-put_batch-clause-prefix g c is = of_memory is

pub returns-in_default-put_batch-clause-fault : goal.returns-in_default-put_batch-clause-fault
returns-in_default-put_batch-clause-fault g c is = of_memory is

pub returns-in_default-put_batch-clause-count : goal.returns-in_default-put_batch-clause-count
returns-in_default-put_batch-clause-count g c = c.in_default.ensures.count ∙ c.loop-k.invariant.3

pub returns-in_default-put_batch-clause-memory : goal.returns-in_default-put_batch-clause-memory
returns-in_default-put_batch-clause-memory g c is =
    let so = c.loop-k.invariant in
    next_some _ _ _ so.0 _ _ _ _ so.1 c.as_slice.ensures.value so.2 c.in_default.ensures.written

pub loop-k-preserved : goal.loop-k-preserved
loop-k-preserved g c =
    let so = c.loop-k.invariant in
    let batches = c.args.batches.now in
    let within : c.loop-k.k < length batches = omega (arith, c.loop-k-test.true, c.batches-k-end.ensures) in (
      so.0 ++ c.loop-k.text.items,
      begun_anew so.0 _ _ _ c.clear.new.self.items c.put_batch.new.text.items (batch_lines (drop (c.loop-k.k + 1) batches)) so.1 c.clear.ensures.items
          (next_batch batches c.loop-k.k _ _ within c.in-Ok.ensures.put),
      next_written _ _ _ so.0 c.loop-k.text.items (batch_lines (drop c.loop-k.k batches)) (file (joined batches)) _ so.1 c.as_slice.ensures.value so.2 c.in_default.ensures.written,
      c.in_default.ensures.count ∙ so.3,
    )

pub returns-clause-prefix : goal.returns-clause-prefix
returns-clause-prefix g c is =
    let so = c.loop-k.invariant in
    next_prefix _ _ _ so.0 _ _ _ _ so.1 c.as_slice-2.ensures.value so.2 (on_err c.write_text-2.result is c.write_text-2.ensures.prefix)

pub returns-clause-written : goal.returns-clause-written
returns-clause-written g c =
    let so = c.loop-k.invariant in
    let past : length c.args.batches.now ≤ c.loop-k.k = omega (arith, c.loop-k-test.false, c.batches-k-end.ensures) in
    on_ok_weaker c.write_text-2.result (λ whole. last_written _ _ _ so.0 _ _ _ _ so.1 c.as_slice-2.ensures.value so.2 whole (none_left c.args.batches.now c.loop-k.k past)) c.write_text-2.ensures.written

pub returns-clause-fault : goal.returns-clause-fault
returns-clause-fault g c is =
    subst (λ n. Rises n (g.W.Sink.failed_calls c.write_text-2.new.sink)) c.loop-k.invariant.3 (on_err c.write_text-2.result is c.write_text-2.ensures.fault)

pub returns-clause-memory : goal.returns-clause-memory
returns-clause-memory g c is = apart (IfErr-at_err (λ fault. fault ≡ Write) is c.write_text-2.ensures.write)

pub returns-clause-count : goal.returns-clause-count
returns-clause-count g c = c.write_text-2.ensures.count ∙ ap (count_after (is_sink_fault c.write_text-2.result)) c.loop-k.invariant.3
