-- What is told of an input that is refused for a section, or is too long.
use Rattle.std.proofs.Common.{◌≡◌, ◌≢◌, ◌<◌, ℕ, List, [], ◌∷◌, ◌++◌, length, Vec, Option, Some, None, Result, Err, IfSome, false, inl, refl, sym, ap, subst, ◌∙◌, ⊎_elim}
use Rattle.std.specs.Prelude.{IsErrAnd}
use Rattle.std.specs.declared.alloc.Global.{Global}
use Rattle.std.proofs.lemmas.Result.{err_from_is_err_and}
use Rattle.metering_model.specs.Limits.{most_input_bytes}
use Rattle.metering_model.specs.Transcript.{line}
use Rattle.input_sections.specs.declared.faults.ScheduleCode.TheVariants.{TooLong}
use Rattle.input_sections.specs.declared.faults.ScheduleFault.{ScheduleFault}
use Rattle.input_sections.specs.declared.faults.ScheduleFault.TheVariants as section
use Rattle.fault_lines.specs.Told.{said_of_fault}
use Rattle.schedule_writer.specs.declared.faults.WriteFault.{WriteFault}
use Rattle.schedule_writer.specs.declared.faults.WriteFault.TheVariants.{NotClosed, OutOfMemory, Read, Refused, TooLong as IsTooLong, Write}
use Rattle.schedule_writer.specs.Faults.{TellsFaults, tells_of_reader}
use Rattle.schedule_writer.specs.Refusals.{IsRefused, IsRefusedBySections}
use Rattle.schedule_writer.specs.Inner.Judged.{IsRefusedOr, IsUnread}
use Rattle.schedule_writer.specs.Inner.SaidLines.{section_line, too_long}
use Rattle.schedule_writer.proofs.AnswerLaws.{refused_or}

-- ---- a section

-- of want of memory nothing is told, and else a line
pub no_line : (t : List ℕ) → line t ≡ [] → ⊥
no_line [] is = cc
no_line (c ∷ cs) is = cc

-- its line is told, without the line feed
pub refused_section : (text told : List ℕ) (why : ScheduleFault) (fault : WriteFault) → why ≢ section.OutOfMemory → told ≡ [] ++ said_of_fault text why
    → ((words : List ℕ) → told ≡ line words → IsRefusedOr (λ it. it ≡ words) fault) → IsRefusedOr (λ words. line words ≡ said_of_fault text why) fault
refused_section text told section.OutOfMemory fault some is from = absurd (some refl)
refused_section text told (section.Refused code n) fault some is from =
    let one = section_line text code n in
    refused_or (λ words. words ≡ one.0) (λ words. line words ≡ said_of_fault text (section.Refused code n)) (λ words so. ap line so ∙ sym one.1) fault (from one.0 (is ∙ one.1))

-- no call failed for a refusal
pub no_call : (A : Type 0) (P : List ℕ → Type 0) (fault : WriteFault) → IsRefusedOr P fault → tells_of_reader {A = A} (Err fault) ≡ false
no_call A P (Refused told) is = refl
no_call A P OutOfMemory is = refl
no_call A P Read is = absurd is
no_call A P IsTooLong is = absurd is
no_call A P NotClosed is = absurd is
no_call A P Write is = absurd is

-- ---- an input that is too long

-- of any the same is told, as of no text at all
pub refused_long : (known : Option (List ℕ)) (why : ScheduleFault) (fault : WriteFault) → why ≡ section.Refused TooLong 1 → IfSome known (λ input. most_input_bytes < length input)
    → IsRefusedOr (λ told. line told ≡ said_of_fault [] why) fault → IsUnread known fault
refused_long (Some input) why (Refused told) same longer is =
    record { fault = section.Refused TooLong 1; refused = too_long input longer; is_told = is ∙ ap (said_of_fault []) same }
refused_long None why (Refused told) same longer is = tt
refused_long known why OutOfMemory same longer is = is
refused_long known why Read same longer is = absurd is
refused_long known why IsTooLong same longer is = absurd is
refused_long known why NotClosed same longer is = absurd is
refused_long known why Write same longer is = absurd is

known_refused : (known : Option (List ℕ)) (told : List ℕ) → IfSome known (λ input. IsRefusedBySections input told) → IfSome known (λ input. IsRefused input told)
known_refused None told is = tt
known_refused (Some input) told is = inl is

-- what the faults of an input say that was not read
pub tells_unread : {A : Type 0} (r : Result A WriteFault) (known : Option (List ℕ)) (told : WriteFault) → IsErrAnd r (λ fault. fault ≡ told) → IsUnread known told → TellsFaults r known
tells_unread {A} r known told is unread =
    let same = err_from_is_err_and r is in
    subst (λ x. TellsFaults x known) (sym (same.1 ∙ ap Err same.2)) (by_fault told unread)
  where
    by_fault : (f : WriteFault) → IsUnread known f → TellsFaults {A = A} (Err f) known
    by_fault Read u = record { refused = λ told e. absurd (cc); taken = λ e. absurd (⊎_elim (λ x. cc) (λ x. cc) e) }
    by_fault OutOfMemory u = record { refused = λ told e. absurd (cc); taken = λ e. absurd (⊎_elim (λ x. cc) (λ x. cc) e) }
    by_fault (Refused t) u = record {
      refused = λ words e. let same : t ≡ words = cc in
          subst (λ (it : Vec ℕ Global). IfSome known (λ input. IsRefused input it.items)) same (known_refused known t.items u);
      taken = λ e. absurd (⊎_elim (λ x. cc) (λ x. cc) e);
    }
    by_fault IsTooLong u = absurd u
    by_fault NotClosed u = absurd u
    by_fault Write u = absurd u
