-- What is told of an input that is no schedule, and of a reader's bytes that are known.
use Rattle.std.proofs.Common.{◌≡◌, ◌≢◌, ℕ, ◌<◌, List, [], length, Option, Some, None, Result, Ok, Err, OnOk, IfSome, inl, refl, sym, ap, ◌∙◌}
use Rattle.std.specs.Io.KnownBytes.{Appends}
use Rattle.std.proofs.KnownBytes.{Appends-nil}
use Rattle.counted_io.specs.Writing.{AppendsPrefix}
use Rattle.metering_model.specs.FirstFailure.{◌>>=◌, holds_or}
use Rattle.program_input.specs.declared.ScheduleCode.TheVariants.{TooLong}
use Rattle.program_input.specs.declared.ScheduleFault.{ScheduleFault}
use Rattle.program_input.specs.declared.ScheduleFault.TheVariants as faults
use Rattle.program_input.specs.Sections.{Unread, whole_of}
use Rattle.schedule_reader.specs.Schedules.{group_in, schedule_in}
use Rattle.schedule_player.specs.Transcripts.{IsTranscriptOf, IsPrefixOfTranscript}
use Rattle.program_input.proofs.FaultLaws.{first_fails, is_longer}

too_long : (input : List ℕ) → 16_777_216 < length input → schedule_in input ≡ Err (faults.Refused TooLong 1)
unfolding schedule_in group_in
too_long input longer =
    let fault = faults.Refused TooLong 1 in
    let u : Unread = record { text = input; from = 0; line = 1 } in
    let whole : whole_of input ≡ Err fault = ap (λ t. holds_or t fault >>= λ (x : Unit {0}). Ok u) (is_longer (length input) 16_777_216 longer) in
    first_fails (group_in input) _ fault (first_fails (whole_of input) _ fault whole)

-- more bytes than a schedule may have, if they are known
pub longer_schedule : (known : Option (List ℕ)) (fault : ScheduleFault) → IfSome known (λ bytes. 16_777_216 < length bytes) → faults.Refused TooLong 1 ≡ fault
    → IfSome known (λ input. schedule_in input ≡ Err fault)
longer_schedule None fault longer is = tt
longer_schedule (Some bytes) fault longer is = too_long bytes longer ∙ ap Err is

pub plain_fault : (fault : ScheduleFault) → faults.Refused TooLong 1 ≡ fault → fault ≢ faults.OutOfMemory
plain_fault fault is memory = let same = is ∙ memory in absurd (cc)

-- what is told of the bytes that were read is told of those that the reader gave
pub told_of_known : (known : Option (List ℕ)) (input : List ℕ) (fault : ScheduleFault) → IfSome known (λ bytes. input ≡ bytes) → schedule_in input ≡ Err fault
    → IfSome known (λ bytes. schedule_in bytes ≡ Err fault)
told_of_known None input fault same told = tt
told_of_known (Some bytes) input fault same told = ap schedule_in (sym same) ∙ told

-- so is the transcript
transcript_of_known : (known : Option (List ℕ)) (input text : List ℕ) → IfSome known (λ bytes. input ≡ bytes) → IsTranscriptOf (Some input) input text
    → IsTranscriptOf known input text
transcript_of_known known input text same is =
    record { is_input = same; schedule = is.schedule; is_read = is.is_read; form = is.form; is_transcript = is.is_transcript; headline = is.headline }

pub of_known : {T E : Type 0} (r : Result T E) (known old new : Option (List ℕ)) (input : List ℕ) → IfSome known (λ bytes. input ≡ bytes)
    → OnOk r ((text : List ℕ) × IsTranscriptOf (Some input) input text × Appends old new text)
    → OnOk r ((given text : List ℕ) × IsTranscriptOf known given text × Appends old new text)
of_known (Ok x) known old new input same played = (input, played.0, transcript_of_known known input played.0 same played.1, played.2)
of_known (Err e) known old new input same played = tt

pub cut_of_known : (known old new : Option (List ℕ)) (input : List ℕ) → IfSome known (λ bytes. input ≡ bytes)
    → (text : List ℕ) × IsTranscriptOf (Some input) input text × AppendsPrefix old new text
    → (given text : List ℕ) × IsTranscriptOf known given text × AppendsPrefix old new text
cut_of_known known old new input same played = (input, played.0, transcript_of_known known input played.0 same played.1, played.2)

pub prefix_of_known : (known old new : Option (List ℕ)) (input : List ℕ) → IfSome known (λ bytes. input ≡ bytes)
    → (text : List ℕ) × IsPrefixOfTranscript (Some input) input text × Appends old new text
    → (given text : List ℕ) × IsPrefixOfTranscript known given text × Appends old new text
prefix_of_known known old new input same played = (input, played.0, record { is_input = same; is_prefix = played.1.is_prefix }, played.2)

-- nothing was written of bytes that could not be kept
pub nothing_of : (known old : Option (List ℕ)) → (given text : List ℕ) × IsPrefixOfTranscript known given text × Appends old old text
nothing_of None old = ([], [], record { is_input = tt; is_prefix = inl refl }, Appends-nil old)
nothing_of (Some bytes) old = (bytes, [], record { is_input = refl; is_prefix = inl refl }, Appends-nil old)
