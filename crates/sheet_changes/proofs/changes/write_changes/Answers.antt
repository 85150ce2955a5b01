use Rattle.std.proofs.Common.{◌≡◌, ◌≢◌, Bool, Result, Ok, Err, refl, subst}
use Rattle.std.specs.Io.KnownBytes.{Appends}
use Rattle.counted_io.specs.Writing.{AppendsPrefix}
use Rattle.metering_model.specs.declared.Refusal.{Refusal}
use Rattle.input_sections.specs.declared.faults.ScheduleFault.{ScheduleFault}
use Rattle.program_input.specs.declared.faults.PlayFault.{PlayFault}
use Rattle.program_input.specs.declared.faults.PlayFault.TheVariants.{OutOfMemory, Read, Refused, Schedule, Write}
use Rattle.sheet_changes.proofs.changes.write_changes.Goals as goal

-- that it tells of no reader, of no section and of no batch
abbrev IsOwn : Result Bool PlayFault → Type 0
IsOwn answer = (answer ≢ Err Read) × ((fault : ScheduleFault) → answer ≢ Err (Schedule fault)) × ((refusal : Refusal) → answer ≢ Err (Refused refusal))

own_done : (stays : Bool) → IsOwn (Ok stays)
own_done stays = (λ is. cc, λ fault is. cc, λ refusal is. cc)

own_memory : IsOwn (Err OutOfMemory)
own_memory = (λ is. cc, λ fault is. cc, λ refusal is. cc)

own_write : IsOwn (Err Write)
own_write = (λ is. cc, λ fault is. cc, λ refusal is. cc)

done_is_no_write : {P : Type 0} (stays : Bool) → ◌≡◌ {A = Result Bool PlayFault} (Ok stays) (Err Write) → P
done_is_no_write stays is = absurd (cc)

memory_is_no_write : {P : Type 0} → ◌≡◌ {A = Result Bool PlayFault} (Err OutOfMemory) (Err Write) → P
memory_is_no_write is = absurd (cc)

pub returns-in_default : goal.returns-in_default
returns-in_default g c = record { said = tt; prefix = λ is. memory_is_no_write is; kept = λ other. refl; others = own_memory; writes = refl }

pub returns-in-Ok-write_all : goal.returns-in-Ok-write_all
returns-in-Ok-write_all g c = record {
  said = (
    c.in-Ok.ensures.stays,
    c.put_answer.new.text.items,
    c.in-Ok.ensures.says,
    subst (Appends (g.W.Sink.contents c.args.writer.now) (g.W.Sink.contents c.write_all.new.sink)) c.deref.ensures.value c.in-Ok-write_all.ensures.written,
  );
  prefix = λ is. done_is_no_write c.in-Ok.stays is;
  kept = tt;
  others = own_done c.in-Ok.stays;
  writes = c.in-Ok-write_all.ensures.count;
}

pub returns : goal.returns
returns g c = record {
  said = tt;
  prefix = λ is. (
    c.put_answer.new.text.items,
    c.in-Ok.ensures.says,
    subst (AppendsPrefix (g.W.Sink.contents c.args.writer.now) (g.W.Sink.contents c.write_all.new.sink)) c.deref.ensures.value c.in-Err.ensures.prefix,
  );
  kept = λ other. absurd (other refl);
  others = own_write;
  writes = c.in-Err.ensures.count;
}
