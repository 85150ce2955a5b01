-- What a call tells of itself where one below it failed, or answered: for what a search finds too, and takes long for.
use Rattle.std.proofs.Common.{◌≡◌, ◌≢◌, ◌∙◌, ℕ, ◌<◌, ◌≤◌, false, List, [], length, Option, Result, Ok, Err, IfErr, IfOk, refl, sym, ap, subst, arith}
use Rattle.std.proofs.lemmas.List.{length-append}
use Rattle.counted_io.specs.Counts.{count_after}
use Rattle.input_sections.specs.declared.faults.ScheduleFault.{ScheduleFault}
use Rattle.input_sections.specs.declared.faults.ScheduleFault.TheVariants as section
use Rattle.line_source.specs.declared.faults.SourceFault.{SourceFault}
use Rattle.line_source.specs.declared.faults.SourceFault.TheVariants as source
use Rattle.line_source.specs.Calls.{ReadsWithin}
use Rattle.line_source.specs.Calls as calls
use Rattle.line_source.specs.Reading.{StopsShort, Takes}
use Rattle.line_source.specs.Faults.{tells_of_source}
use Rattle.process_player.specs.declared.faults.ProcessFault.{ProcessFault}
use Rattle.process_player.specs.declared.faults.ProcessFault.TheVariants.{Read, Section, Log, OtherLog, NoJournal, TooLong, Write, OutOfMemory}
use Rattle.process_player.specs.Faults.{tells_of_reader}
use Rattle.process_player.specs.Inner.Calls.{IsOfReading, Reads, StopsReading}
use Rattle.process_player.specs.Inner.Told.{fault_of_section, of_source}

-- ---- one that failed

-- its fault is handed on
pub handed : {A : Type 0} {r : Result A ProcessFault} {e : ProcessFault} → (y : ProcessFault) × (r ≡ Err y) × (y ≡ e) → r ≡ Err e
handed told = told.1 ∙ ap Err told.2

err_no_ok : {A : Type 0} {x : A} {e : ProcessFault} → ◌≢◌ {A = Result A ProcessFault} (Err e) (Ok x)
err_no_ok h = cc

pub one_fault : {A : Type 0} {x y : ProcessFault} → ◌≡◌ {A = Result A ProcessFault} (Err x) (Err y) → x ≡ y
one_fault same = cc

module _ {A : Type 0} {r : Result A ProcessFault} {e : ProcessFault} (is : r ≡ Err e) where
  pub none_found : (P : A → Type 0) → IfOk r P
  none_found P = subst (λ (x : Result A ProcessFault). IfOk x P) (sym is) tt

  pub same_fault : (P : ProcessFault → Type 0) → P e → IfErr r P
  same_fault P it = subst (λ (x : Result A ProcessFault). IfErr x P) (sym is) it

  pub never_write : e ≢ Write → r ≢ Err Write
  never_write other h = other (one_fault (sym is ∙ h))

  pub no_answer : (P : Type 0) {x : A} → r ≡ Ok x → P
  no_answer P answered = absurd (err_no_ok (sym is ∙ answered))

pub tells_same : (A B : Type 0) (e : ProcessFault) → tells_of_reader {A = B} (Err e) ≡ tells_of_reader {A = A} (Err e)
tells_same A B Read = refl
tells_same A B (Section fault) = refl
tells_same A B (Log code line) = refl
tells_same A B OtherLog = refl
tells_same A B NoJournal = refl
tells_same A B TooLong = refl
tells_same A B Write = refl
tells_same A B OutOfMemory = refl

-- of the source
tells_source : (A B : Type 0) (e : SourceFault) → tells_of_reader {A = B} (Err (of_source e)) ≡ tells_of_source {A = A} (Err e)
tells_source A B source.TooLong = refl
tells_source A B source.Read = refl
tells_source A B source.OutOfMemory = refl

long_of : {P : Type 0} (e : SourceFault) (read : ℕ) → (4_294_967_296 < read → P) → calls.IsOfReading e read → IsOfReading P (of_source e)
long_of source.TooLong read so it = so it
long_of source.Read read so it = tt
long_of source.OutOfMemory read so it = tt

pub source_no_write : (e : SourceFault) → of_source e ≢ Write
source_no_write source.TooLong h = cc
source_no_write source.Read h = cc
source_no_write source.OutOfMemory h = cc

module _ {A B : Type 0} {r : Result B ProcessFault} {read f h : ℕ} where
  pub handed_reads : {e : ProcessFault} → r ≡ Err e → Reads {A = A} (Err e) read f h → Reads r read f h
  handed_reads {e} is it =
      subst (λ (x : Result B ProcessFault). Reads x read f h) (sym is)
      (record { within = tt; count = it.count ∙ ap (λ b. count_after b f) (sym (tells_same A B e)) })

  pub source_reads : {e : SourceFault} → r ≡ Err (of_source e) → ReadsWithin {A = A} (Err e) read f h → Reads r read f h
  source_reads {e} is it =
      subst (λ (x : Result B ProcessFault). Reads x read f h) (sym is)
      (record { within = tt; count = it.count ∙ ap (λ b. count_after b f) (sym (tells_source A B e)) })

  -- what is too long tells of something
  pub source_long : {P : Type 0} {e : SourceFault} → r ≡ Err (of_source e) → ReadsWithin {A = A} (Err e) read f h → (4_294_967_296 < read → P) → IfErr r (IsOfReading P)
  source_long {P} {e} is it so = same_fault is (IsOfReading P) (long_of e read so it.reading)

pub reading_no_write : (P : Type 0) {e : ProcessFault} → IsOfReading P e → e ≢ Write
reading_no_write P it h = subst (IsOfReading P) h it

-- of a section
section_tells : (B : Type 0) (why : ScheduleFault) → tells_of_reader {A = B} (Err (fault_of_section why)) ≡ false
section_tells B (section.Refused code line) = refl
section_tells B section.OutOfMemory = refl

pub section_no_write : (why : ScheduleFault) → fault_of_section why ≢ Write
section_no_write (section.Refused code line) h = cc
section_no_write section.OutOfMemory h = cc

section_no_read : (why : ScheduleFault) → fault_of_section why ≢ Read
section_no_read (section.Refused code line) h = cc
section_no_read section.OutOfMemory h = cc

-- ---- one that answered

module _ {A : Type 0} {x : A} {read f h : ℕ} where
  pub answer_reads : {B : Type 0} (y : B) → ReadsWithin (Ok x) read f h → Reads (Ok y) read f h
  answer_reads y it = record { within = it.within; count = it.count }

  -- and another behind it
  pub reads_behind : {B : Type 0} {r : Result B ProcessFault} {read' g : ℕ} → ReadsWithin (Ok x) read f h → Reads r read' h g → Reads r read' f g
  reads_behind {r = r} one two = record { within = two.within; count = two.count ∙ ap (count_after (tells_of_reader r)) one.count }

  -- and a fault behind it that is none of the source
  pub silent_reads : {B : Type 0} {r : Result B ProcessFault} {e : ProcessFault} → r ≡ Err e → tells_of_reader {A = B} (Err e) ≡ false → ReadsWithin (Ok x) read f h → Reads r read f h
  silent_reads {B} {e = e} is silent it =
      subst (λ (x : Result B ProcessFault). Reads x read f h) (sym is)
      (record { within = tt; count = it.count ∙ ap (λ b. count_after b f) (sym silent) })

  -- the same of a call of this crate
  pub answers_on : {B : Type 0} (y : B) → Reads (Ok x) read f h → Reads (Ok y) read f h
  answers_on y it = record { within = it.within; count = it.count }

  pub goes_behind : {B : Type 0} {r : Result B ProcessFault} {read' g : ℕ} → Reads (Ok x) read f h → Reads r read' h g → Reads r read' f g
  goes_behind {r = r} one two = record { within = two.within; count = two.count ∙ ap (count_after (tells_of_reader r)) one.count }

  pub silent_behind : {B : Type 0} {r : Result B ProcessFault} {e : ProcessFault} → r ≡ Err e → tells_of_reader {A = B} (Err e) ≡ false → Reads (Ok x) read f h → Reads r read f h
  silent_behind {B} {e = e} is silent it =
      subst (λ (x : Result B ProcessFault). Reads x read f h) (sym is)
      (record { within = tt; count = it.count ∙ ap (λ b. count_after b f) (sym silent) })

  pub section_behind : {B : Type 0} {r : Result B ProcessFault} (why : ScheduleFault) → r ≡ Err (fault_of_section why) → Reads (Ok x) read f h → Reads r read f h
  section_behind {B} why is it = silent_behind is (section_tells B why) it

-- where some of it was taken, no more was read
pub read_still : {B : Type 0} {r : Result B ProcessFault} {read read' f h : ℕ} → read' ≡ read → Reads r read f h → Reads r read' f h
read_still {r = r} {f = f} {h = h} same it = subst (λ n. Reads r n f h) (sym same) it

pub ok_no_write : {A : Type 0} {x : A} → ◌≢◌ {A = Result A ProcessFault} (Ok x) (Err Write)
ok_no_write h = cc

-- ---- where a read failed

-- what is ahead does not suffice
pub failed_short : (is_short : List ℕ → Type 0) (a b : List ℕ) (e : SourceFault) → of_source e ≡ Read → StopsShort is_short a b e → is_short b
failed_short is_short a b source.TooLong is it = absurd (cc)
failed_short is_short a b source.Read is it = it
failed_short is_short a b source.OutOfMemory is it = absurd (cc)

-- and not for what is looked for
pub source_stops : {A B : Type 0} {r : Result B ProcessFault} {read f h : ℕ} {Short : Type 0} (is_short : List ℕ → Type 0) (a b : List ℕ) (e : SourceFault)
    → r ≡ Err (of_source e) → ReadsWithin {A = A} (Err e) read f h → StopsShort is_short a b e → (is_short b → Short) → IfErr r (StopsReading (4_294_967_296 < read) Short)
source_stops {read = read} {Short = Short} is_short a b e is it stopped so =
    same_fault is (StopsReading (4_294_967_296 < read) Short)
    (record { reading = long_of e read (λ long. long) it.reading; short = λ failed. so (failed_short is_short a b e failed stopped) })

-- what falls short of a part falls short of the whole
pub stops_on : {P S T : Type 0} {e : ProcessFault} → (S → T) → StopsReading P S e → StopsReading P T e
stops_on so it = record { reading = it.reading; short = λ failed. so (it.short failed) }

-- it is another fault
pub no_read : {P : Type 0} {e other : ProcessFault} → e ≡ other → other ≢ Read → e ≡ Read → P
no_read is none read = absurd (none (sym is ∙ read))

pub memory_no_read : {P : Type 0} {e : ProcessFault} → e ≡ OutOfMemory → e ≡ Read → P
memory_no_read memory = no_read memory (λ h. cc)

pub memory_stops : {P S : Type 0} → StopsReading P S OutOfMemory
memory_stops = record { reading = tt; short = memory_no_read refl }

pub section_no_fail : {P : Type 0} {e : ProcessFault} (why : ScheduleFault) → e ≡ fault_of_section why → e ≡ Read → P
section_no_fail why is = no_read is (section_no_read why)

-- ---- where more was read

-- a place is still there
pub still_there : {n : ℕ} {a b : List ℕ} {r s : ℕ} {l m : Option (List ℕ)} → n ≤ length a → Takes a b r s l m [] → n ≤ length b
still_there {a = a} low it = omega (arith, low, ap length it.joined, length-append a it.came)
