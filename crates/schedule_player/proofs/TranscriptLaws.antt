-- What was written of a schedule, as what was written of the input that it was read from.
use Rattle.std.proofs.Common.{◌≡◌, ◌+◌, ℕ, ◌<◌, ◌≤◌, ◌⊎◌, List, [], length, take, Option, Some, None, Result, Ok, Err, IsOk, OnOk, inl, inr, refl, sym, subst, ◌∙◌, arith, ⊎_elim}
use Rattle.std.specs.Io.KnownBytes.{Appends, Keeps}
use Rattle.std.proofs.lemmas.List.{append-nil}
use Rattle.counted_io.specs.Writing.{AppendsPrefix}
use Rattle.metering_model.specs.SheetRules.{IsSheet, IsIssuer}
use Rattle.metering_model.proofs.StepLaws.{step_ok}
use Rattle.metering_model.specs.World.{opening}
use Rattle.metering_model.specs.Transcript.{transcript}
use Rattle.schedule_reader.specs.declared.schedules.Schedule.{Schedule}
use Rattle.schedule_reader.specs.Schedules.{ReadSchedule, group_in, schedule_in}
use Rattle.schedule_reader.specs.Forms.{IsRead}
use Rattle.transcript_laws.proofs.EveryTranscript.{holds_of_bytes}
use Rattle.program_input.specs.declared.ScheduleFault.{ScheduleFault}
use Rattle.program_input.specs.Faults.{of_sections}
use Rattle.program_input.specs.declared.faults.PlayFault.{PlayFault}
use Rattle.schedule_player.specs.Transcripts.{IsTranscriptOf, IsTranscriptOfFirst, IsPrefixOfTranscript, replies_to}
use Rattle.schedule_player.specs.Inner.Playing.{AppendsFirst, events_of, read_of, text_of}

kept_appends : (old new : Option (List ℕ)) → Keeps old new → Appends old new []
kept_appends None new kept = tt
kept_appends (Some xs) None kept = absurd kept
kept_appends (Some xs) (Some ys) kept = kept ∙ sym (append-nil xs)

module _ (input : List ℕ) (s : Schedule) (taken : schedule_in input ≡ Ok (read_of s)) (form : IsRead input (read_of s)) (rules : IsSheet s.sheet × IsIssuer s.issuer) where
  whole : IsTranscriptOf (Some input) input (transcript (replies_to (read_of s) (read_of s).events))
  whole = record {
    is_input = refl;
    schedule = read_of s;
    is_read = taken;
    form = form;
    is_transcript = refl;
    headline = holds_of_bytes s.voters s.observers s.agents s.sheet s.issuer (events_of s.events.planned) rules.0 rules.1;
  }

  pub played_input : {T E : Type 0} (r : Result T E) (old new : Option (List ℕ)) → OnOk r (Appends old new (transcript (replies_to (read_of s) (read_of s).events)))
      → OnOk r ((text : List ℕ) × IsTranscriptOf (Some input) input text × Appends old new text)
  played_input (Ok x) old new written = (transcript (replies_to (read_of s) (read_of s).events), whole, written)
  played_input (Err e) old new written = tt

  pub prefix_of_whole : (old new : Option (List ℕ)) → AppendsPrefix old new (transcript (replies_to (read_of s) (read_of s).events))
      → (text : List ℕ) × IsTranscriptOf (Some input) input text × AppendsPrefix old new text
  prefix_of_whole old new prefix = (transcript (replies_to (read_of s) (read_of s).events), whole, prefix)

  first_of : (done : ℕ) → done < length s.events.planned → IsTranscriptOfFirst (read_of s) done (text_of (opening s.voters s.observers s.agents s.sheet s.issuer) (events_of (take done s.events.planned)))
  first_of done within = record {
    within = within;
    is_transcript = refl;
    headline = holds_of_bytes s.voters s.observers s.agents s.sheet s.issuer (events_of (take done s.events.planned)) rules.0 rules.1;
  }

  pub prefix_of_input : (old new : Option (List ℕ))
      → Keeps old new ⊎ AppendsFirst old new (opening s.voters s.observers s.agents s.sheet s.issuer) s.events.planned
      → (text : List ℕ) × IsPrefixOfTranscript (Some input) input text × Appends old new text
  prefix_of_input old new =
      ⊎_elim
      (λ kept. ([], record { is_input = refl; is_prefix = inl refl }, kept_appends old new kept))
      (λ first. (
        text_of (opening s.voters s.observers s.agents s.sheet s.issuer) (events_of (take first.0 s.events.planned)),
        record {
          is_input = refl;
          is_prefix = inr (record { schedule = read_of s; is_read = taken; form = form; done = first.0; is_first = first_of first.0 first.1 });
        },
        first.2,
      ))

-- nothing of an input was played
pub none_of_input : (input : List ℕ) (old new : Option (List ℕ)) → Keeps old new → (text : List ℕ) × IsPrefixOfTranscript (Some input) input text × Appends old new text
none_of_input input old new kept = ([], record { is_input = refl; is_prefix = inl refl }, kept_appends old new kept)

-- the numbers of voters, observers and agents of a schedule that was read
pub nodes_within : (input : List ℕ) (s : Schedule) → IsRead input (read_of s) → (1 ≤ s.voters) × (s.voters + s.observers ≤ 99)
nodes_within input s is = (omega (arith, is.1.voters, is.1.form.nodes.0), omega (arith, is.1.voters, is.1.observers, is.1.form.nodes.1))

pub agents_within : (input : List ℕ) (s : Schedule) → IsRead input (read_of s) → (1 ≤ s.agents) × (s.agents ≤ 64)
agents_within input s is = (omega (arith, is.1.agents, is.1.form.agents.0), omega (arith, is.1.agents, is.1.form.agents.1))

-- A text that is a schedule says how great its group is.
pub group_of : (input : List ℕ) (s : ReadSchedule) → schedule_in input ≡ Ok s → IsOk (group_in input)
unfolding schedule_in
group_of input s taken = subst IsOk (sym (step_ok (group_in input) _ s taken).1) refl

-- Of the faults of a text, want of memory alone is told as such.
pub want_of : (fault : ScheduleFault) (told : PlayFault) → told ≡ of_sections fault → told ≡ PlayFault.OutOfMemory → fault ≡ ScheduleFault.OutOfMemory
want_of ScheduleFault.OutOfMemory told by is = refl
want_of (ScheduleFault.Refused code line) told by is = absurd (cc)
