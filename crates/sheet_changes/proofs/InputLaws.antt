-- What a fault of an input tells, of a call that reads it and of one that compares its sheets.
use Rattle.std.proofs.Common.{◌≡◌, ◌≢◌, ◌⊎◌, inl, inr, false, List, ℕ, Option, Some, None, IfSome, Result, Ok, Err, refl, ap, subst}
use Rattle.program_input.specs.Faults.{tells_of_reader, tells_of_writer}
use Rattle.program_input.specs.declared.faults.PlayFault.{PlayFault}
use Rattle.program_input.specs.declared.faults.PlayFault.TheVariants.{Read, Schedule, Write, OutOfMemory, Refused}
use Rattle.input_sections.specs.declared.faults.ScheduleCode.TheVariants.{TooLong}
use Rattle.input_sections.specs.declared.faults.ScheduleFault.{ScheduleFault}
use Rattle.input_sections.specs.declared.faults.ScheduleFault.TheVariants as sections
use Rattle.sheet_changes.specs.Changes.{two_sheets_in}
use Rattle.sheet_changes.specs.declared.faults.SheetsFault.{SheetsFault}
use Rattle.sheet_changes.specs.declared.faults.SheetsFault.TheVariants.{Input, Unlike}

abbrev pub told : PlayFault → Result (Unit {0}) SheetsFault
told fault = Err (Input fault)

abbrev fault_in : PlayFault → Result (Unit {0}) SheetsFault → PlayFault
fault_in other (Ok x) = other
fault_in other (Err (Input fault)) = fault
fault_in other (Err Unlike) = other

pub same_fault : {A : Type 0} (f g : PlayFault) → told f ≡ told g → ◌≡◌ {A = Result A PlayFault} (Err f) (Err g)
same_fault f g is = ap (λ r. Err (fault_in f r)) is

pub not_promised : (f : PlayFault) → (told f ≡ Ok tt) ⊎ (told f ≡ Err Unlike) → ⊥
not_promised f (inl is) = cc
not_promised f (inr is) = cc

pub not_unlike : {P : Type 0} (f : PlayFault) → told f ≡ Err Unlike → P
not_unlike f is = absurd (cc)

pub never_too_long : ◌≡◌ {A = ScheduleFault} sections.OutOfMemory (sections.Refused TooLong 1) → ⊥
never_too_long is = cc

pub none_read : {A : Type 0} (f : PlayFault) → ◌≢◌ {A = Result A PlayFault} (Err f) (Err Read) → tells_of_reader {A = A} (Err f) ≡ false
none_read Read other = absurd (other refl)
none_read (Schedule fault) other = refl
none_read Write other = refl
none_read OutOfMemory other = refl
none_read (Refused refusal) other = refl

pub none_written : {A : Type 0} (f : PlayFault) → ◌≢◌ {A = Result A PlayFault} (Err f) (Err Write) → tells_of_writer {A = A} (Err f) ≡ false
none_written Read other = refl
none_written (Schedule fault) other = refl
none_written Write other = absurd (other refl)
none_written OutOfMemory other = refl
none_written (Refused refusal) other = refl

-- what was read is refused, so the input is, where its bytes are known
pub refused_there : (known : Option (List ℕ)) (read : List ℕ) (fault : ScheduleFault) → IfSome known (λ input. read ≡ input) → two_sheets_in read ≡ Err fault → IfSome known (λ input. two_sheets_in input ≡ Err fault)
refused_there None read fault is refused = tt
refused_there (Some input) read fault is refused = subst (λ t. two_sheets_in t ≡ Err fault) is refused
