-- What is refused, where it is known what is ahead and still to come.
use Rattle.std.proofs.Common.{◌≡◌, ◌≢◌, ℕ, ◌+◌, ◌<◌, ◌≤◌, false, List, [], ◌∷◌, ◌++◌, length, Option, Some, None, Result, Ok, Err, IfSome, inl, inr, refl, sym, ap, ◌∙◌, subst, arith, append_assoc}
use Rattle.std.proofs.lemmas.List.{length-append}
use Rattle.input_sections.specs.declared.faults.ScheduleFault.{ScheduleFault}
use Rattle.input_sections.specs.declared.faults.ScheduleFault.TheVariants as section
use Rattle.line_source.specs.declared.faults.SourceFault.{SourceFault}
use Rattle.line_source.specs.declared.faults.SourceFault.TheVariants as source
use Rattle.line_source.specs.Calls as calls
use Rattle.line_source.specs.Calls.{ReadsWithin}
use Rattle.line_source.specs.Reading.{ReadsUpTo, Takes}
use Rattle.log_text.specs.LogText.{LogHead, ReadLog}
use Rattle.metering_model.specs.Sheet.{Sheet, Issuer}
use Rattle.metering_model.specs.Transcript.{line}
use Rattle.process_text.specs.declared.processes.Process.{Process}
use Rattle.process_player.specs.declared.faults.ProcessFault.{ProcessFault}
use Rattle.process_player.specs.declared.faults.ProcessFault.TheVariants as fault
use Rattle.process_player.specs.declared.heads.ProcessKind.{ProcessKind}
use Rattle.process_player.specs.Faults.{tells_of_reader}
use Rattle.process_player.specs.Refusals.{Behind, RefusesPreamble, Rejects}
use Rattle.process_player.specs.Inner.Calls.{AreTaken, IsLong, IsOfReading, IsOfServing, Reads}
use Rattle.process_player.specs.Inner.Reading.{HasBegun, HasRead, Passes, ServesOne}
use Rattle.process_player.specs.Inner.Refusing.{OfAll, RejectsLog, RejectsPreamble, RejectsStored}
use Rattle.process_player.specs.Inner.Told.{fault_of_section, of_source}
use Rattle.process_player.proofs.Failing.{silent_reads}

-- ---- too long

-- what is left is too long only where all was
pub long_before : (n : ℕ) (a b : List ℕ) (l m : Option (List ℕ)) → AreTaken n a b l m → IsLong b m → IsLong a l
long_before n a b None m taken long = tt
long_before n a b (Some xs) None taken long = absurd taken
long_before n a b (Some xs) (Some ys) taken long = omega (arith, taken, long)

-- or where so many bytes were taken
pub many_taken : (n : ℕ) (a b : List ℕ) (l m : Option (List ℕ)) → 4_294_967_296 < n → AreTaken n a b l m → IsLong a l
many_taken n a b None m many taken = tt
many_taken n a b (Some xs) None many taken = absurd taken
many_taken n a b (Some xs) (Some ys) many taken = omega (arith, many, taken)

pub none_taken : (a : List ℕ) (l : Option (List ℕ)) → AreTaken 0 a a l l
none_taken a None = tt
none_taken a (Some xs) = omega arith

pub passes_taken : {a b : List ℕ} {l m : Option (List ℕ)} {xs : List ℕ} → Passes a b l m xs → AreTaken (length xs) a b l m
passes_taken {l = None} it = tt
passes_taken {l = Some xs} {m = None} it = absurd it.consumed
passes_taken {a} {b} {l = Some xs} {m = Some ys} {xs = taken} it =
    omega (arith, ap length it.joined, ap length it.consumed, length-append a it.came, length-append taken b, length-append it.came ys, length-append a xs, length-append b ys)

-- a command has its line feed at least
pub taken_on : (k : ℕ) (a b c : List ℕ) (l m n : Option (List ℕ)) {p q : Process} {o o' : Option (List ℕ)} → AreTaken k a b l m → ServesOne p q b c m n o o' → AreTaken (k + 1) a c l n
taken_on k a b c None m n taken it = tt
taken_on k a b c (Some xs) None n taken it = absurd taken
taken_on k a b c (Some xs) (Some ys) None taken it = absurd it.passes.consumed
taken_on k a b c (Some xs) (Some ys) (Some zs) taken it =
    let more = passes_taken it.passes in
    omega (arith, taken, more, length-append (line it.asked.first) it.asked.below, length-append it.asked.first (10 ∷ []))

-- what was read since a mark is too long only where all of it is
pub long_read : {mark a b : List ℕ} {r s : ℕ} {l m : Option (List ℕ)} → mark ≡ a → Takes mark b r s l m [] → r ≡ length a → 4_294_967_296 < s → IsLong a l
long_read {l = None} same it marked long = tt
long_read {l = Some xs} {m = None} same it marked long = absurd it.consumed
long_read {a = a} {l = Some xs} {m = Some ys} same it marked long =
    let counted = it.counted in
    omega (arith, counted, marked, long, ap length it.consumed, length-append it.came ys, length-append a xs)

pub serving_on : {P Q : Type 0} → (P → Q) → (e : ProcessFault) → IsOfServing P e → IsOfServing Q e
serving_on so fault.Read it = tt
serving_on so (fault.Section why) it = absurd it
serving_on so (fault.Log code number) it = absurd it
serving_on so fault.OtherLog it = absurd it
serving_on so fault.NoJournal it = absurd it
serving_on so fault.TooLong it = so it
serving_on so fault.Write it = tt
serving_on so fault.OutOfMemory it = tt

-- ---- the preamble

-- what is read of it is never too long, since no more than a block is read behind its limit
pub never_long : {a b : List ℕ} {r s : ℕ} {l m : Option (List ℕ)} → Takes a b r s l m [] → ReadsUpTo 16_777_216 a b → r ≡ length a → r ≤ 4_294_967_296 → 4_294_967_296 < s → ⊥
never_long {a} {b} {r} {s} takes block all few long =
    let counted = takes.counted in
    let size : length a + length takes.came ≡ length b = sym (length-append a takes.came) ∙ ap length takes.joined in
    let within = block (omega (arith, counted, size, all, few, long)) in
    absurd (omega (arith, counted, size, all, long, within))

pub reading_rejects : (k : ProcessKind) {P : Type 0} → (P → ⊥) → (e : ProcessFault) (a : List ℕ) (l : Option (List ℕ)) → IsOfReading P e → OfAll (RejectsPreamble k e) a l
reading_rejects k never e a None it = tt
reading_rejects k never fault.Read a (Some xs) it = tt
reading_rejects k never (fault.Section why) a (Some xs) it = absurd it
reading_rejects k never (fault.Log code number) a (Some xs) it = absurd it
reading_rejects k never fault.OtherLog a (Some xs) it = absurd it
reading_rejects k never fault.NoJournal a (Some xs) it = absurd it
reading_rejects k never fault.TooLong a (Some xs) it = never it
reading_rejects k never fault.Write a (Some xs) it = absurd it
reading_rejects k never fault.OutOfMemory a (Some xs) it = tt

pub section_rejects : (k : ProcessKind) (a : List ℕ) (l : Option (List ℕ)) (why : ScheduleFault) → (why ≢ section.OutOfMemory → OfAll (λ text. RefusesPreamble k text why) a l) → OfAll (RejectsPreamble k (fault_of_section why)) a l
section_rejects k a None why it = tt
section_rejects k a (Some xs) (section.Refused code number) it = it (λ h. cc)
section_rejects k a (Some xs) section.OutOfMemory it = tt

-- ---- what was stored

pub source_rejects : (own : ReadLog) (next : ℕ) (e : SourceFault) (read : ℕ) (a : List ℕ) (l : Option (List ℕ)) → (4_294_967_296 < read → IsLong a l) → calls.IsOfReading e read
    → OfAll (RejectsStored own next (of_source e)) a l
source_rejects own next e read a None so it = tt
source_rejects own next source.TooLong read a (Some xs) so it = so it
source_rejects own next source.Read read a (Some xs) so it = tt
source_rejects own next source.OutOfMemory read a (Some xs) so it = tt

pub log_no_write : (head : LogHead) (log : List ℕ) {e : ProcessFault} → RejectsLog head log e → e ≢ fault.Write
log_no_write head log it h = subst (RejectsLog head log) h it

pub log_no_read : {P : Type 0} (head : LogHead) (log : List ℕ) {e : ProcessFault} → RejectsLog head log e → e ≡ fault.Read → P
log_no_read head log it h = absurd (subst (RejectsLog head log) h it)

log_tells : (B : Type 0) (head : LogHead) (log : List ℕ) (e : ProcessFault) → RejectsLog head log e → tells_of_reader {A = B} (Err e) ≡ false
log_tells B head log fault.Read it = absurd it
log_tells B head log (fault.Section why) it = refl
log_tells B head log (fault.Log code number) it = refl
log_tells B head log fault.OtherLog it = refl
log_tells B head log fault.NoJournal it = refl
log_tells B head log fault.TooLong it = refl
log_tells B head log fault.Write it = refl
log_tells B head log fault.OutOfMemory it = refl

pub log_reads : {A B : Type 0} {x : A} {r : Result B ProcessFault} {read f h : ℕ} (head : LogHead) (log : List ℕ) (e : ProcessFault)
    → r ≡ Err e → RejectsLog head log e → ReadsWithin (Ok x) read f h → Reads r read f h
log_reads {B = B} head log e is it reads = silent_reads is (log_tells B head log e it) reads

-- ---- all of it

pub memory_rejects : (k : ProcessKind) (a : List ℕ) (l : Option (List ℕ)) → OfAll (λ input. Rejects k input fault.OutOfMemory) a l
memory_rejects k a None = tt
memory_rejects k a (Some xs) = tt

pub preamble_rejects : (k : ProcessKind) (e : ProcessFault) (a : List ℕ) (l : Option (List ℕ)) → OfAll (RejectsPreamble k e) a l → OfAll (λ input. Rejects k input e) a l
preamble_rejects k e a None it = tt
preamble_rejects k fault.Read a (Some xs) it = tt
preamble_rejects k (fault.Section why) a (Some xs) it = inl it
preamble_rejects k (fault.Log code number) a (Some xs) it = absurd it
preamble_rejects k fault.OtherLog a (Some xs) it = absurd it
preamble_rejects k fault.NoJournal a (Some xs) it = absurd it
preamble_rejects k fault.TooLong a (Some xs) it = absurd it
preamble_rejects k fault.Write a (Some xs) it = absurd it
preamble_rejects k fault.OutOfMemory a (Some xs) it = tt

module _ {k : ProcessKind} {own : ReadLog} {sheet : Sheet} {issuer : Issuer} {next : ℕ} {a b : List ℕ} where
  -- what follows is ahead and still to come behind the preamble
  is_behind : {xs ys : List ℕ} (it : HasRead k own sheet issuer next a b (Some xs) (Some ys)) → a ++ xs ≡ it.text ++ b ++ ys
  is_behind {xs} {ys} it =
      ap (λ t. a ++ t) it.passes.consumed ∙ sym (append_assoc a it.passes.came ys) ∙ ap (λ t. t ++ ys) it.passes.joined

  pub behind : (Holds : ReadLog → ℕ → List ℕ → Type 0) {l m : Option (List ℕ)} → HasRead k own sheet issuer next a b l m → OfAll (Holds own next) b m → OfAll (λ input. Behind k input Holds) a l
  behind Holds {l = None} it holds = tt
  behind Holds {l = Some xs} {m = None} it holds = absurd it.passes.consumed
  behind Holds {l = Some xs} {m = Some ys} it holds = record {
    preamble = record { own = own; sheet = sheet; issuer = issuer; rest = it.behind };
    first = it.text;
    stored = b ++ ys;
    joined = is_behind it ∙ append_assoc it.text b ys;
    is_read = it.is_read;
    whole = it.whole;
    holds = subst (λ n. Holds own n (b ++ ys)) (sym it.counted) holds;
  }

  pub stored_rejects : (e : ProcessFault) {l m : Option (List ℕ)} → HasRead k own sheet issuer next a b l m → OfAll (RejectsStored own next e) b m → OfAll (λ input. Rejects k input e) a l
  stored_rejects e {l = None} it holds = tt
  stored_rejects e {l = Some xs} {m = None} it holds = absurd it.passes.consumed
  stored_rejects fault.Read {l = Some xs} {m = Some ys} it holds = tt
  stored_rejects (fault.Section why) {l = Some xs} {m = Some ys} it holds = inr (behind _ it holds)
  stored_rejects (fault.Log code number) {l = Some xs} {m = Some ys} it holds = behind _ it holds
  stored_rejects fault.OtherLog {l = Some xs} {m = Some ys} it holds = behind _ it holds
  stored_rejects fault.NoJournal {l = Some xs} {m = Some ys} it holds = absurd holds
  stored_rejects fault.TooLong {l = Some xs} {m = Some ys} it holds = behind _ it holds
  stored_rejects fault.Write {l = Some xs} {m = Some ys} it holds = absurd holds
  stored_rejects fault.OutOfMemory {l = Some xs} {m = Some ys} it holds = tt

-- where nothing is ahead
pub known_input : (k : ProcessKind) (e : ProcessFault) (a : List ℕ) (l : Option (List ℕ)) → a ≡ [] → OfAll (λ input. Rejects k input e) a l → IfSome l (λ input. Rejects k input e)
known_input k e a None none it = tt
known_input k e a (Some xs) none it = subst (λ t. Rejects k (t ++ xs) e) none it

-- what is too long stands behind what began the process
long_behind : {k : ProcessKind} {p : Process} {b xs ys : List ℕ} → HasBegun k p [] b (Some xs) (Some ys) → 4_294_967_296 < length (b ++ ys) → Behind k xs (λ own next stored. 4_294_967_296 < length stored)
long_behind {b} {xs} {ys} begun long =
    let it = begun.begins in
    record {
      preamble = it.preamble;
      first = it.first;
      stored = it.stored ++ (b ++ ys);
      joined =
          begun.passes.consumed ∙ ap (λ t. t ++ ys) begun.passes.joined ∙ append_assoc begun.text b ys
          ∙ ap (λ t. t ++ (b ++ ys)) it.joined ∙ append_assoc it.first it.stored (b ++ ys);
      is_read = it.is_read;
      whole = it.whole;
      holds = omega (arith, long, length-append it.stored (b ++ ys));
    }

pub serving_rejects : {k : ProcessKind} {p : Process} {b : List ℕ} {l m : Option (List ℕ)} → HasBegun k p [] b l m → (e : ProcessFault) → IsOfServing (IsLong b m) e → IfSome l (λ input. Rejects k input e)
serving_rejects {l = None} begun e it = tt
serving_rejects {l = Some xs} begun fault.Read it = tt
serving_rejects {l = Some xs} begun (fault.Section why) it = absurd it
serving_rejects {l = Some xs} begun (fault.Log code number) it = absurd it
serving_rejects {l = Some xs} begun fault.OtherLog it = absurd it
serving_rejects {l = Some xs} begun fault.NoJournal it = absurd it
serving_rejects {l = Some xs} {m = None} begun fault.TooLong it = absurd begun.passes.consumed
serving_rejects {l = Some xs} {m = Some ys} begun fault.TooLong it = long_behind begun it
serving_rejects {l = Some xs} begun fault.Write it = tt
serving_rejects {l = Some xs} begun fault.OutOfMemory it = tt
