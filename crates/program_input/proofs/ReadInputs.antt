-- What is told of an input, by what reading up to the limit answered.
use Rattle.std.proofs.Common.{◌≡◌, ◌≢◌, ℕ, ◌<◌, List, length, Option, Some, None, Result, Ok, Err, IfOk, OnOk, IfSome, refl, sym}
use Rattle.std.specs.Io.KnownBytes.{IsAtEnd}
use Rattle.counted_io.specs.declared.reading.Input.{Input}
use Rattle.counted_io.specs.declared.reading.Input.TheVariants.{Whole, TooLong}
use Rattle.counted_io.specs.declared.reading.ReadFault.{ReadFault}
use Rattle.counted_io.specs.declared.reading.ReadFault.TheVariants.{Failed, OutOfMemory}
use Rattle.counted_io.specs.Reading.{EndsWithin, IsAnswer, is_device_fault}
use Rattle.metering_model.specs.declared.Refusal.{Refusal}
use Rattle.input_sections.specs.declared.faults.ScheduleCode.TheVariants as codes
use Rattle.input_sections.specs.declared.faults.ScheduleFault.{ScheduleFault}
use Rattle.input_sections.specs.declared.faults.ScheduleFault.TheVariants as sections
use Rattle.program_input.specs.declared.faults.PlayFault.TheVariants.{Schedule, Write, Refused}
use Rattle.program_input.specs.Faults.{EndsInReading, tells_of_reader}
use Rattle.program_input.specs.Inner.Inputs.{whole_input}
use Rattle.program_input.proofs.FaultLaws.{same_section}

pub whole_read : (r : Result Input ReadFault) (limit : ℕ) (known : Option (List ℕ)) → IfOk r (λ input. IfSome known (λ bytes. IsAnswer limit bytes input))
    → IfOk (whole_input r) (λ bytes. IfSome known (λ input. bytes.items ≡ input))
whole_read (Ok (Whole bytes)) limit None is = tt
whole_read (Ok (Whole bytes)) limit (Some known) is = is.0
whole_read (Ok TooLong) limit known is = tt
whole_read (Err fault) limit known is = tt

pub end_read : (r : Result Input ReadFault) (limit : ℕ) (left : Option (List ℕ)) → IfOk r (EndsWithin limit left) → OnOk (whole_input r) (IsAtEnd left)
end_read (Ok (Whole bytes)) limit left is = is.1
end_read (Ok TooLong) limit left is = tt
end_read (Err fault) limit left is = tt

pub section_read : (r : Result Input ReadFault) (limit : ℕ) (known : Option (List ℕ)) → IfOk r (λ input. IfSome known (λ bytes. IsAnswer limit bytes input))
    → (fault : ScheduleFault) → whole_input r ≡ Err (Schedule fault)
    → (fault ≡ sections.Refused codes.TooLong 1) × IfSome known (λ bytes. limit < length bytes)
section_read (Ok (Whole bytes)) limit known is fault told = absurd (cc)
section_read (Ok TooLong) limit known is fault told = (sym (same_section _ fault told), is)
section_read (Err Failed) limit known is fault told = absurd (cc)
section_read (Err OutOfMemory) limit known is fault told = absurd (cc)

pub reader_told : (r : Result Input ReadFault) → is_device_fault r ≡ tells_of_reader (whole_input r)
reader_told (Ok (Whole bytes)) = refl
reader_told (Ok TooLong) = refl
reader_told (Err Failed) = refl
reader_told (Err OutOfMemory) = refl

no_write_told : (r : Result Input ReadFault) → whole_input r ≢ Err Write
no_write_told (Ok (Whole bytes)) told = absurd (cc)
no_write_told (Ok TooLong) told = absurd (cc)
no_write_told (Err Failed) told = absurd (cc)
no_write_told (Err OutOfMemory) told = absurd (cc)

no_refusal_told : (r : Result Input ReadFault) (refusal : Refusal) → whole_input r ≢ Err (Refused refusal)
no_refusal_told (Ok (Whole bytes)) refusal told = absurd (cc)
no_refusal_told (Ok TooLong) refusal told = absurd (cc)
no_refusal_told (Err Failed) refusal told = absurd (cc)
no_refusal_told (Err OutOfMemory) refusal told = absurd (cc)

pub reads_alone : (r : Result Input ReadFault) → EndsInReading (whole_input r)
reads_alone r = record { no_write = no_write_told r; no_refusal = no_refusal_told r }
