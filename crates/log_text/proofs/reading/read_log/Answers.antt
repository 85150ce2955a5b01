-- A log is its head line, and what is kept by the lines below it.
use Rattle.std.proofs.Common.{◌≡◌, ℕ, ◌≤◌, length, Result, Ok, Err, sym, ap, ◌∙◌, arith}
use Rattle.metering_model.specs.BatchReading.{Lines}
use Rattle.log_text.specs.LogText.{LogCode, most_log_bytes}
use Rattle.log_text.specs.declared.faults.LogFault.{LogFault}
use Rattle.log_text.specs.declared.faults.LogFault.TheVariants.{Refused, OutOfMemory}
use Rattle.log_text.specs.Inner.Reading.{all_below}
use Rattle.log_text.proofs.HeadLaws.{head_read}
use Rattle.log_text.proofs.ReadSections.{told_so}
use Rattle.log_text.proofs.ReadLogs.{bad_head, begins, fault_of, lines_fewer, log_fault, log_read, too_long, without_line}
use Rattle.log_text.proofs.reading.read_log.Goals as goal

-- a fault that is told is no want of memory, nor is a log
is_told : {A P : Type 0} {code : LogCode} {line : ℕ} → ◌≡◌ {A = Result A LogFault} (Err (Refused code line)) (Err OutOfMemory) → P
is_told e = absurd (cc)

no_want : {A P : Type 0} {x : A} → ◌≡◌ {A = Result A LogFault} (Ok x) (Err OutOfMemory) → P
no_want e = absurd (cc)

pub returns-then-text-gt-MOST_LOG_BYTES : goal.returns-then-text-gt-MOST_LOG_BYTES
returns-then-text-gt-MOST_LOG_BYTES c = record { read = tt; refused = too_long c.args.text.now (omega arith); want = λ e. is_told e }

pub returns-in_default : goal.returns-in_default
returns-in_default c = record { read = tt; refused = without_line c.args.text.now (omega arith) c.in_default.ensures; want = λ e. is_told e }

pub returns-in_default-read_head : goal.returns-in_default-read_head
returns-in_default-read_head c = record {
  read = tt;
  refused = bad_head c.args.text.now c.in-Some.line.now c.in-Some.below.now (omega arith) c.in-Some.ensures c.in_default-read_head.ensures;
  want = λ e. is_told e;
}

pub read_below-requires : goal.read_below-requires
read_below-requires c =
    let lines = ap (λ (x : Lines). length x.lines) c.in-Some.ensures in
    let agents = (head_read c.in-Some.line.now c.in-Some-read_head.head c.in-Some-read_head.ensures).1.agents in
    let from = agents.0 in
    let to = agents.1 in
    record { from = omega (arith, from, c.agents.ensures); to = omega (arith, to, c.agents.ensures); short = omega (arith, lines, lines_fewer c.args.text.now) }

pub returns-in-Err : goal.returns-in-Err
returns-in-Err c =
    let text = c.args.text.now in
    let short : length text ≤ most_log_bytes = omega arith in
    let line = c.in-Some.line.now in
    let below = c.in-Some.below.now in
    let head = c.in-Some-read_head.head in
    let good = c.in-Some-read_head.ensures in
    let own = ap (λ n. all_below n below) (sym c.agents.ensures) in
    record {
      read = tt;
      refused = fault_of text c.in-Err.fault (told_so c.in-Err.fault _ _ (λ f e. log_fault text line below short c.in-Some.ensures head good f (own ∙ e)) c.in-Err.ensures);
      want = λ e. begins text line below short c.in-Some.ensures head good;
    }

pub returns-in-Ok : goal.returns-in-Ok
returns-in-Ok c =
    let below = c.in-Some.below.now in
    let own = ap (λ n. all_below n below) (sym c.agents.ensures) in
    record {
      read = log_read c.args.text.now c.in-Some.line.now below (omega arith) c.in-Some.ensures c.in-Some-read_head.head c.in-Some-read_head.ensures c.in-Ok.kept (own ∙ c.in-Ok.ensures);
      refused = tt;
      want = λ e. no_want e;
    }
