-- What a call that reads and writes tells of itself where one below it failed, or answered.
use Rattle.std.proofs.Common.{◌≡◌, ◌≢◌, ◌∙◌, ℕ, false, Option, Some, None, Result, Ok, Err, IfSome, List, refl, sym, ap, subst}
use Rattle.counted_io.specs.Counts.{count_after}
use Rattle.process_player.specs.declared.faults.ProcessFault.{ProcessFault}
use Rattle.process_player.specs.declared.faults.ProcessFault.TheVariants.{Read, Section, Log, OtherLog, NoJournal, TooLong, Write, OutOfMemory}
use Rattle.process_player.specs.declared.heads.ProcessKind.{ProcessKind}
use Rattle.process_player.specs.Faults.{IsRefusal, tells_of_reader, tells_of_writer}
use Rattle.process_player.specs.Refusals.{Rejects}
use Rattle.process_player.specs.Inner.Calls.{IsOfReading, IsOfServing, Reads, ReadsAndWrites}
use Rattle.process_player.proofs.Failing.{tells_same}

-- a call behind one that answered stops
pub stops_reading : {A B : Type 0} {e : ProcessFault} {read f f' h w v : ℕ} → ReadsAndWrites {A = A} (Err e) read f' h w v → f' ≡ f → Reads {A = B} (Err e) read f h
stops_reading {A} {B} {e} {f' = f'} it same = record {
  within = tt;
  count = it.reads ∙ ap (λ b. count_after b f') (sym (tells_same A B e)) ∙ ap (count_after (tells_of_reader {A = B} (Err e))) same;
}

tells_written : (A B : Type 0) (e : ProcessFault) → tells_of_writer {A = A} (Err e) ≡ tells_of_writer {A = B} (Err e)
tells_written A B Read = refl
tells_written A B (Section fault) = refl
tells_written A B (Log code line) = refl
tells_written A B OtherLog = refl
tells_written A B NoJournal = refl
tells_written A B TooLong = refl
tells_written A B Write = refl
tells_written A B OutOfMemory = refl

pub stops_writing : {A : Type 0} (B : Type 0) {e : ProcessFault} {read f h w w' v : ℕ} → ReadsAndWrites {A = A} (Err e) read f h w' v → w' ≡ w → v ≡ count_after (tells_of_writer {A = B} (Err e)) w
stops_writing {A} B {e} {w' = w'} it same = it.writes ∙ ap (λ b. count_after b w') (tells_written A B e) ∙ ap (count_after (tells_of_writer {A = B} (Err e))) same

-- ---- it is of reading on alone

silent_writes : (B P : Type 0) (e : ProcessFault) → IsOfReading P e → tells_of_writer {A = B} (Err e) ≡ false
silent_writes B P Read it = refl
silent_writes B P (Section fault) it = refl
silent_writes B P (Log code line) it = refl
silent_writes B P OtherLog it = refl
silent_writes B P NoJournal it = refl
silent_writes B P TooLong it = refl
silent_writes B P Write it = absurd it
silent_writes B P OutOfMemory it = refl

pub serving_of : (P : Type 0) (e : ProcessFault) → IsOfReading P e → IsOfServing P e
serving_of P Read it = tt
serving_of P (Section fault) it = absurd it
serving_of P (Log code line) it = absurd it
serving_of P OtherLog it = absurd it
serving_of P NoJournal it = absurd it
serving_of P TooLong it = it
serving_of P Write it = absurd it
serving_of P OutOfMemory it = tt

pub reading_calls : {A B : Type 0} {r : Result B ProcessFault} (P : Type 0) (e : ProcessFault) {read f h : ℕ} (w : ℕ) → r ≡ Err e → IsOfReading P e → Reads {A = A} (Err e) read f h
    → ReadsAndWrites r read f h w w
reading_calls {A} {B} P e {read} {f} {h} w is of it =
    subst (λ (x : Result B ProcessFault). ReadsAndWrites x read f h w w) (sym is)
    (record {
      within = tt;
      reads = it.count ∙ ap (λ b. count_after b f) (sym (tells_same A B e));
      writes = ap (λ b. count_after b w) (sym (silent_writes B P e of));
    })

pub answer_calls : {A B : Type 0} {x : A} (y : B) {read f h : ℕ} (w : ℕ) → Reads (Ok x) read f h → ReadsAndWrites (Ok y) read f h w w
answer_calls y w it = record { within = it.within; reads = it.count; writes = refl }

-- ---- it is of an answer

-- it is Write, or nothing was written
abbrev pub IsOfAnswer : (Q : Type 0) → ProcessFault → Type 0
IsOfAnswer Q e = e ≢ Write → (e ≡ OutOfMemory) × Q

other_fault : {P Q : Type 0} {e : ProcessFault} → IsOfAnswer Q e → e ≢ Write → e ≢ OutOfMemory → P
other_fault it write memory = absurd (memory (it write).0)

pub serving_answer : (P Q : Type 0) (e : ProcessFault) → IsOfAnswer Q e → IsOfServing P e
serving_answer P Q Read it = tt
serving_answer P Q (Section fault) it = other_fault it (λ h. cc) (λ h. cc)
serving_answer P Q (Log code line) it = other_fault it (λ h. cc) (λ h. cc)
serving_answer P Q OtherLog it = other_fault it (λ h. cc) (λ h. cc)
serving_answer P Q NoJournal it = other_fault it (λ h. cc) (λ h. cc)
serving_answer P Q TooLong it = other_fault it (λ h. cc) (λ h. cc)
serving_answer P Q Write it = tt
serving_answer P Q OutOfMemory it = tt

silent_answer : (B Q : Type 0) (e : ProcessFault) → IsOfAnswer Q e → tells_of_reader {A = B} (Err e) ≡ false
silent_answer B Q Read it = other_fault it (λ h. cc) (λ h. cc)
silent_answer B Q (Section fault) it = refl
silent_answer B Q (Log code line) it = refl
silent_answer B Q OtherLog it = refl
silent_answer B Q NoJournal it = refl
silent_answer B Q TooLong it = refl
silent_answer B Q Write it = refl
silent_answer B Q OutOfMemory it = refl

-- behind a call that read
pub answering_calls : {A B : Type 0} {r : Result B ProcessFault} {x : A} (C Q : Type 0) (e : ProcessFault) {read f h w v : ℕ} → r ≡ Err e → IsOfAnswer Q e
    → Reads {A = A} (Ok x) read f h → v ≡ count_after (tells_of_writer {A = C} (Err e)) w → ReadsAndWrites r read f h w v
answering_calls {A} {B} C Q e {read} {f} {h} {w} {v} is of it written =
    subst (λ (x : Result B ProcessFault). ReadsAndWrites x read f h w v) (sym is)
    (record {
      within = tt;
      reads = it.count ∙ ap (λ b. count_after b f) (sym (silent_answer B Q e of));
      writes = written ∙ ap (λ b. count_after b w) (tells_written C B e);
    })

-- ---- the whole

pub no_refusal : (P : Type 0) (e : ProcessFault) → IsOfServing P e → IsRefusal e → ⊥
no_refusal P Read it is = is
no_refusal P (Section fault) it is = it
no_refusal P (Log code line) it is = it
no_refusal P OtherLog it is = it
no_refusal P NoJournal it is = it
no_refusal P TooLong it is = is
no_refusal P Write it is = is
no_refusal P OutOfMemory it is = is

pub refusal_no_write : {e : ProcessFault} → IsRefusal e → e ≢ Write
refusal_no_write it h = subst IsRefusal h it

pub answer_rejects : (k : ProcessKind) (Q : Type 0) (e : ProcessFault) (known : Option (List ℕ)) → IsOfAnswer Q e → IfSome known (λ input. Rejects k input e)
answer_rejects k Q e None it = tt
answer_rejects k Q Read (Some input) it = tt
answer_rejects k Q (Section fault) (Some input) it = other_fault it (λ h. cc) (λ h. cc)
answer_rejects k Q (Log code line) (Some input) it = other_fault it (λ h. cc) (λ h. cc)
answer_rejects k Q OtherLog (Some input) it = other_fault it (λ h. cc) (λ h. cc)
answer_rejects k Q NoJournal (Some input) it = other_fault it (λ h. cc) (λ h. cc)
answer_rejects k Q TooLong (Some input) it = other_fault it (λ h. cc) (λ h. cc)
answer_rejects k Q Write (Some input) it = tt
answer_rejects k Q OutOfMemory (Some input) it = tt
