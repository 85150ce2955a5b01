-- What an answer tells, clause by clause, over plain variables.
use Rattle.std.proofs.Common.{◌≡◌, ◌≢◌, ℕ, ◌≤◌, true, false, List, [], ◌∷◌, ◌++◌, length, take, Option, Result, Ok, Err, IsOk, OnOk, refl, sym, ap, subst, ◌∙◌, arith, append_assoc}
use Rattle.std.specs.Prelude.{IfErr, IsErrAnd}
use Rattle.std.specs.Io.KnownBytes.{Appends, Keeps}
use Rattle.std.proofs.lemmas.Result.{err_from_is_err_and}
use Rattle.counted_io.specs.Counts.{count_after}
use Rattle.counted_io.specs.Reading.{ConsumesAtMost}
use Rattle.counted_io.specs.Streams.{UsesStreams}
use Rattle.metering_model.specs.declared.Refusal.{Refusal}
use Rattle.metering_model.specs.World.{World}
use Rattle.metering_model.specs.Schedule.{Planned}
use Rattle.metering_model.specs.Transcript.{reply_text}
use Rattle.group_events.specs.Replies.{reply_of}
use Rattle.group_events.specs.declared.replies.Reply.{Reply}
use Rattle.program_input.specs.declared.ScheduleFault.{ScheduleFault}
use Rattle.program_input.specs.declared.faults.PlayFault.{PlayFault}
use Rattle.program_input.specs.Faults.{EndsInReading, tells_of_reader, tells_of_writer}
use Rattle.schedule_player.specs.Inner.Playing.{AppendsFirst, events_of, text_of}
use Rattle.schedule_player.specs.Inner.Writing.{WritesTranscript}
use Rattle.schedule_player.proofs.Held.{on_ok_then}
use Rattle.schedule_player.proofs.Texts.{text_all}
use Rattle.schedule_player.proofs.TranscriptLaws.{none_of_input}

-- a fault as an answer of this type
abbrev told_as : {A : Type 0} → PlayFault → Result A PlayFault
told_as fault = Err fault

-- the answer tells of no input
abbrev Others : {A : Type 0} → Result A PlayFault → Type 0
Others r = (r ≢ Err PlayFault.Read) × ((fault : ScheduleFault) → r ≢ Err (PlayFault.Schedule fault)) × ((refusal : Refusal) → r ≢ Err (PlayFault.Refused refusal))

pub others_ok : {A : Type 0} (x : A) → Others (Ok x)
others_ok x = (λ e. cc, λ fault e. cc, λ refusal e. cc)

pub others_write : {A : Type 0} → Others {A = A} (Err PlayFault.Write)
others_write = (λ e. cc, λ fault e. cc, λ refusal e. cc)

pub others_memory : {A : Type 0} → Others {A = A} (Err PlayFault.OutOfMemory)
others_memory = (λ e. cc, λ fault e. cc, λ refusal e. cc)

pub not_err : {A P : Type 0} (x : A) (fault : PlayFault) → Ok x ≡ Err fault → P
not_err x fault e = absurd (cc)

pub write_no_memory : {A P : Type 0} → told_as {A = A} PlayFault.Write ≡ Err PlayFault.OutOfMemory → P
write_no_memory e = absurd (cc)

pub memory_no_write : {A P : Type 0} → told_as {A = A} PlayFault.OutOfMemory ≡ Err PlayFault.Write → P
memory_no_write e = absurd (cc)

-- events that were done in a world
module _ (w : World) (old new : Option (List ℕ)) (events : List Planned) where
  pub all_there : (done : ℕ) → done ≡ length events → Appends old new (text_of w (events_of (take done events))) → Appends old new (text_of w (events_of events))
  all_there done all = subst (Appends old new) (text_all w events done all)

  pub first_there : (done : ℕ) → done ≤ length events → done ≢ length events → Appends old new (text_of w (events_of (take done events))) → AppendsFirst old new w events
  first_there done within fewer told = (done, omega arith, told)

pub no_reader : {A : Type 0} (r : Result A PlayFault) → r ≢ Err PlayFault.Read → tells_of_reader r ≡ false
no_reader (Ok x) is_not = refl
no_reader (Err PlayFault.Read) is_not = absurd (is_not refl)
no_reader (Err (PlayFault.Schedule fault)) is_not = refl
no_reader (Err PlayFault.Write) is_not = refl
no_reader (Err PlayFault.OutOfMemory) is_not = refl
no_reader (Err (PlayFault.Refused refusal)) is_not = refl

pub no_writer : (A : Type 0) (e : PlayFault) → e ≢ PlayFault.Write → tells_of_writer {A = A} (Err e) ≡ false
no_writer A PlayFault.Read is_not = refl
no_writer A (PlayFault.Schedule fault) is_not = refl
no_writer A PlayFault.Write is_not = absurd (is_not refl)
no_writer A PlayFault.OutOfMemory is_not = refl
no_writer A (PlayFault.Refused refusal) is_not = refl

pub same_fault : {A : Type 0} (e f : PlayFault) → told_as {A = A} e ≡ Err f → e ≡ f
same_fault e f is = cc

-- the answer of a `?`
pub told_err : {A : Type 0} (r : Result A PlayFault) (e : PlayFault) → IsErrAnd r (λ told. told ≡ e) → r ≡ Err e
told_err r e is = let p = err_from_is_err_and r is in p.1 ∙ ap Err p.2

-- an answer that is a fault of reading
module _ {A X : Type 0} (r : Result A PlayFault) (e : PlayFault) (is : r ≡ Err e) (ends : EndsInReading {A = X} (Err e)) where
  no_write : e ≢ PlayFault.Write
  no_write same = ends.no_write (ap Err same)

  pub none_told : (P : Type 0) → OnOk r P
  none_told P = subst (λ x. OnOk x P) (sym is) tt

  pub no_cut : {P : Type 0} → r ≡ Err PlayFault.Write → P
  no_cut w = absurd (no_write (same_fault {A = A} e PlayFault.Write (sym is ∙ w)))

  pub unrefused : (refusal : Refusal) → r ≢ Err (PlayFault.Refused refusal)
  unrefused refusal w = ends.no_refusal refusal (ap Err (same_fault {A = A} e (PlayFault.Refused refusal) (sym is ∙ w)))

  pub is_section : (fault : ScheduleFault) → r ≡ Err (PlayFault.Schedule fault) → told_as {A = X} e ≡ Err (PlayFault.Schedule fault)
  is_section fault w = ap Err (same_fault {A = A} e (PlayFault.Schedule fault) (sym is ∙ w))

  pub still : {W : Type 0} (x : W) → IfErr r (λ fault. fault ≢ PlayFault.Write → fault ≢ PlayFault.OutOfMemory → x ≡ x)
  still x = subst (λ q. IfErr q (λ fault. fault ≢ PlayFault.Write → fault ≢ PlayFault.OutOfMemory → x ≡ x)) (sym is) (λ a b. refl)

  pub uses : (most : ℕ) (left left' : Option (List ℕ)) (fails fails' writes : ℕ) → ConsumesAtMost most left left' → fails' ≡ count_after (tells_of_reader {A = X} (Err e)) fails
      → UsesStreams most (IsOk r) (tells_of_reader r) (tells_of_writer r) left left' fails fails' writes writes
  uses most left left' fails fails' writes taken count = record {
    read = taken;
    end = λ ok. let no : false ≡ true = subst IsOk is ok in absurd (cc);
    reads = count ∙ ap (λ x. count_after (tells_of_reader x) fails) (sym is);
    writes = sym (ap (λ b. count_after b writes) (ap tells_of_writer is ∙ no_writer A e no_write));
  }

-- of an input that is the text
pub of_same : {A : Type 0} (r : Result A PlayFault) (s t : List ℕ) (old new : Option (List ℕ)) (failed failed' : ℕ) → s ≡ t
    → WritesTranscript r s old new failed failed' → WritesTranscript r t old new failed failed'
of_same r s t old new failed failed' = subst (λ x. WritesTranscript r x old new failed failed')

-- of an answer where nothing was written
pub unwritten : {A : Type 0} (e : PlayFault) (input : List ℕ) (old new : Option (List ℕ)) (failed : ℕ) → e ≢ PlayFault.Write → Keeps old new
    → WritesTranscript {A = A} (Err e) input old new failed failed
unwritten {A} e input old new failed is_not kept = record {
  transcript = tt;
  prefix = λ w. absurd (is_not (same_fault {A = A} e PlayFault.Write w));
  memory = λ w. none_of_input input old new kept;
  count = sym (ap (λ b. count_after b failed) (no_writer A e is_not));
}

-- Where no section is refused and no read fails, a writer that stays so at each refused section stays so.
pub left_still : {A W : Type 0} (r : Result A PlayFault) (old new : W) → ((fault : ScheduleFault) → r ≡ Err (PlayFault.Schedule fault) → new ≡ old) → r ≢ Err PlayFault.Read
    → ((refusal : Refusal) → r ≢ Err (PlayFault.Refused refusal)) → IfErr r (λ fault. fault ≢ PlayFault.Write → fault ≢ PlayFault.OutOfMemory → new ≡ old)
left_still (Ok x) old new section no_read no_refusal = tt
left_still (Err PlayFault.Read) old new section no_read no_refusal = λ a b. absurd (no_read refl)
left_still (Err (PlayFault.Schedule fault)) old new section no_read no_refusal = λ a b. section fault refl
left_still (Err PlayFault.Write) old new section no_read no_refusal = λ a b. absurd (a refl)
left_still (Err PlayFault.OutOfMemory) old new section no_read no_refusal = λ a b. absurd (b refl)
left_still (Err (PlayFault.Refused refusal)) old new section no_read no_refusal = λ a b. absurd (no_refusal refusal refl)

-- the words of a reply and a line's end behind other lines
pub worded : {T E : Type 0} (r : Result T E) (old new words : List ℕ) (reply v : Reply) → reply ≡ v → OnOk r (new ≡ old ++ words) → reply_text (reply_of v) ≡ words ++ 10 ∷ []
    → OnOk r (new ++ 10 ∷ [] ≡ old ++ reply_text (reply_of reply))
worded r old new words reply v is added text =
    on_ok_then r (λ e. ap (λ t. t ++ 10 ∷ []) e ∙ (append_assoc old words (10 ∷ []) ∙ ap (λ t. old ++ t) (sym (ap (λ x. reply_text (reply_of x)) is ∙ text)))) added
