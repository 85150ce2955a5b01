-- Which fault an answer has, and which calls failed. Over plain variables, since a search for these in a function reads all that is known
-- there.
use Rattle.std.proofs.Common.{◌≡◌, ◌∙◌, ℕ, ◌+◌, ◌≤◌, Bool, false, Result, Ok, Err, IsOk, IfOk, IfErr, refl, sym, ap, ap₂, subst}
use Rattle.std.proofs.lemmas.Bool.{false≢true}
use Rattle.counted_io.specs.Counts.{count_after}
use Rattle.metering_model.specs.Limits.{most_transcript_bytes}
use Rattle.line_source.specs.Calls.{ReadsWithin}
use Rattle.line_source.specs.Faults.{tells_of_source}
use Rattle.line_source.specs.declared.faults.SourceFault.{SourceFault}
use Rattle.line_source.specs.declared.faults.SourceFault.TheVariants as source
use Rattle.period_file.specs.Faults.{of_source, tells_of_reader, tells_of_writer}
use Rattle.period_file.specs.declared.faults.FileFault.{FileFault}
use Rattle.period_file.specs.declared.faults.FileFault.TheVariants as fault
use Rattle.period_file.specs.Inner.Calls.{CopiesWithin, IsOfCopying}
use Rattle.period_file.proofs.Seen.{copying_of}

-- a fault that is passed on
pub passed : {A : Type 0} {r : Result A FileFault} {e : FileFault} → (y : FileFault) × (r ≡ Err y) × (y ≡ e) → r ≡ Err e
passed p = p.1 ∙ ap Err p.2

pub one_fault : {A : Type 0} {r : Result A FileFault} {x y : FileFault} → r ≡ Err x → r ≡ Err y → x ≡ y
one_fault one two = cc

pub no_answer : {A P : Type 0} {r : Result A FileFault} {e : FileFault} → r ≡ Err e → IsOk r → P
no_answer {A} failed answered = absurd (false≢true (subst (λ (r : Result A FileFault). IsOk r) failed answered))

pub answered : {A P : Type 0} (r : Result A FileFault) {x : A} {e : FileFault} → r ≡ Ok x → r ≡ Err e → P
answered r is failed = absurd (cc)

pub none_is_torn : {P : Type 0} (e : FileFault) → e ≡ fault.NoFile → e ≡ fault.Torn → P
none_is_torn e none torn = absurd (cc)

pub none_is_write : {P : Type 0} (e : FileFault) → e ≡ fault.NoFile → e ≡ fault.Write → P
none_is_write e none write = absurd (cc)

pub torn_is_write : {P : Type 0} (e : FileFault) → e ≡ fault.Torn → e ≡ fault.Write → P
torn_is_write e torn write = absurd (cc)

-- copying stops neither for want of a file nor where it is torn
pub never_none : {A P : Type 0} {r : Result A FileFault} {e : FileFault} (read : ℕ) → IsOfCopying e read → r ≡ Err e → r ≡ Err fault.NoFile → P
never_none read of_copying is none = absurd (subst (λ (e : FileFault). IsOfCopying e read) (one_fault is none) of_copying)

pub never_torn : {A P : Type 0} {r : Result A FileFault} {e : FileFault} (read : ℕ) → IsOfCopying e read → r ≡ Err e → r ≡ Err fault.Torn → P
never_torn read of_copying is torn = absurd (subst (λ (e : FileFault). IsOfCopying e read) (one_fault is torn) of_copying)

-- and reading not for a write
pub never_write : {P : Type 0} (x : SourceFault) → of_source x ≡ fault.Write → P
never_write source.TooLong is = absurd (cc)
never_write source.Read is = absurd (cc)
never_write source.OutOfMemory is = absurd (cc)

-- which calls failed
pub of_reader : (A B : Type 0) (x : SourceFault) → tells_of_reader {A = A} (Err (of_source x)) ≡ tells_of_source {A = B} (Err x)
of_reader A B source.TooLong = refl
of_reader A B source.Read = refl
of_reader A B source.OutOfMemory = refl

pub of_no_writer : (A : Type 0) (x : SourceFault) → tells_of_writer {A = A} (Err (of_source x)) ≡ false
of_no_writer A source.TooLong = refl
of_no_writer A source.Read = refl
of_no_writer A source.OutOfMemory = refl

module _ {A : Type 0} {r : Result A FileFault} (x : SourceFault) (is : r ≡ Err (of_source x)) where
  pub reads_of : {B : Type 0} {s f f' g : ℕ} → f ≡ f' → ReadsWithin {A = B} (Err x) s f g → g ≡ count_after (tells_of_reader r) f'
  reads_of {B} before it = it.count ∙ ap₂ count_after (sym (ap tells_of_reader is ∙ of_reader A B x)) before

  pub writes_of : (h' : ℕ) {h : ℕ} → h ≡ h' → h ≡ count_after (tells_of_writer r) h'
  writes_of h' same = same ∙ ap (λ b. count_after b h') (sym (ap tells_of_writer is ∙ of_no_writer A x))

pub none_failed : (f g : ℕ) {h : ℕ} → h ≡ g → g ≡ f → h ≡ f
none_failed f g second first = second ∙ first

pub told_on : {b b' : Bool} {f f' g : ℕ} → b' ≡ b → f ≡ f' → g ≡ count_after b f → g ≡ count_after b' f'
told_on same before it = it ∙ ap₂ count_after (sym same) before

-- ---- what a call of copying says of itself

pub calls_of_reading : {A B : Type 0} {r : Result A FileFault} (x : SourceFault) (f' h' : ℕ) {s f g h : ℕ} → r ≡ Err (of_source x) → f ≡ f' → h ≡ h' → ReadsWithin {A = B} (Err x) s f g → CopiesWithin r s f' g h' h
calls_of_reading {A} x f' h' {s} is before same it = record {
  within = subst (λ (r : Result A FileFault). IfOk r (λ answer. s ≤ most_transcript_bytes)) (sym is) tt;
  most = it.most;
  copying = subst (λ (r : Result A FileFault). IfErr r (λ told. IsOfCopying told s)) (sym is) (copying_of x s it.reading);
  reads = reads_of x is before it;
  writes = writes_of x is h' same;
}

pub calls_of_answer : {A B : Type 0} {x : B} (y : A) (f' h' : ℕ) {s f g h : ℕ} → f ≡ f' → h ≡ h' → ReadsWithin (Ok x) s f g → CopiesWithin (Ok y) s f' g h' h
calls_of_answer y f' h' before same it = record { within = it.within; most = it.most; copying = tt; reads = it.count ∙ before; writes = same }

pub calls_of_write : (B : Type 0) {A : Type 0} {r : Result A FileFault} {e : FileFault} (f' h' : ℕ) {s s' g h k : ℕ} → r ≡ Err e → e ≡ fault.Write → s' ≡ s → g ≡ f' → h ≡ h' → s ≤ most_transcript_bytes + 1
    → k ≡ count_after (tells_of_writer {A = B} (Err e)) h → CopiesWithin r s' f' g h' k
calls_of_write B {A} {r} f' h' {s' = s'} {h = h} is write same reads before most writes =
    let is_write : r ≡ Err fault.Write = is ∙ ap Err write in
    let written = writes ∙ ap (λ (e : FileFault). count_after (tells_of_writer {A = B} (Err e)) h) write in
    record {
      within = subst (λ (r : Result A FileFault). IfOk r (λ answer. s' ≤ most_transcript_bytes)) (sym is) tt;
      most = subst (λ (n : ℕ). n ≤ most_transcript_bytes + 1) (sym same) most;
      copying = subst (λ (r : Result A FileFault). IfErr r (λ told. IsOfCopying told s')) (sym is_write) tt;
      reads = reads ∙ ap (λ (r : Result A FileFault). count_after (tells_of_reader r) f') (sym is_write);
      writes = written ∙ ap₂ (λ (r : Result A FileFault) (n : ℕ). count_after (tells_of_writer r) n) (sym is_write) before;
    }
