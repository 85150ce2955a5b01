-- What a world answers to a text that is to be journaled, and what is told of it.
use Rattle.std.proofs.Common.{◌≡◌, ℕ, Bool, true, false, ◌&&◌, List, [], ◌++◌, length, Option, Some, None, Result, Ok, Err, refl, sym, ap, subst, ◌∙◌, inl, inr, nat_le, nat_lt}
use Rattle.std.proofs.lemmas.List.{append-nil}
use Rattle.std.specs.Prelude.{◌==◌, if◌then◌else◌}
use Rattle.std.specs.Option.{option_map}
use Rattle.metering_model.specs.Batch.{Batch}
use Rattle.metering_model.specs.BatchReading.{batch_in}
use Rattle.metering_model.specs.FirstFailure.{◌>>=◌, holds_or}
use Rattle.metering_model.specs.Holding.{Position, placed, put}
use Rattle.metering_model.specs.JournalRules.{first_broken, next_seq}
use Rattle.metering_model.specs.Step.{Outcome, batch_of as offered, on_batch, or_bad_batch, or_refused, step, unless_broken}
use Rattle.metering_model.specs.Transcript.{line}
use Rattle.metering_model.specs.World.{World, Event, Good, Bad, Journal, Journaled, Reply, Refused, offer_of, with_packet, CarriesBatch}
use Rattle.metering_model.specs.declared.BatchFault.{BatchFault}
use Rattle.metering_model.specs.declared.BrokenRule.{BrokenRule}
use Rattle.metering_model.specs.declared.BrokenRule.TheVariants.{BadTarget as BreaksTarget, Unpriced as BreaksPrice}
use Rattle.metering_model.specs.declared.Refusal.{Refusal}
use Rattle.metering_model.specs.declared.Refusal.TheVariants as refusal
use Rattle.batch_view.proofs.BatchLemmas.{batch_of_is}
use Rattle.journal_rules.specs.FirstBad.{first_bad}
use Rattle.fault_lines.specs.Told.{bad_index, told_of_text}
use Rattle.schedule_writer.specs.declared.faults.WriteFault.{WriteFault}
use Rattle.schedule_writer.specs.declared.faults.WriteFault.TheVariants as written
use Rattle.schedule_writer.specs.Checks.{told_of_answer}
use Rattle.schedule_writer.specs.Inputs.{Offered}
use Rattle.schedule_writer.specs.Refusals.{IsJournaled, answer_to, told_of_offered}
use Rattle.schedule_writer.specs.Inner.Judged.{IsRefusedNow, IsRefusedOr}
use Rattle.schedule_writer.specs.Inner.Lines.{IsAnswer, IsBadIn, is_of_rule}
use Rattle.schedule_writer.specs.Inner.SaidLines.{is_line}

-- ---- a journal

same_refusal : (w : World) (a b : Refusal) → (or_refused w (Err a)).0 ≡ Refused b → a ≡ b
same_refusal w a b is = cc

module _ (w : World) (b : Batch) where
  abbrev outcome : (of next : Bool) → Option BrokenRule → Result ℕ Refusal → Result Outcome Refusal
  outcome of next broken room =
      holds_or of refusal.NoAgent >>= λ _. holds_or next (refusal.WrongSeq (next_seq w.journals b.agent)) >>= λ _. unless_broken broken >>= λ _.
      room >>= λ k. Ok (Journaled k, with_packet (CarriesBatch b) (record w { journals = put w.journals b }))

  -- what a batch is refused for tells no fault of its text
  no_fault : (of next : Bool) (broken : Option BrokenRule) (room : Bool) (fault : BatchFault)
      → (or_refused w (outcome of next broken (if room then Ok (length w.packets) else Err refusal.WorldFull))).0 ≡ Refused (refusal.BadBatch fault) → ⊥
  no_fault false next broken room fault is = let same = same_refusal w _ _ is in cc
  no_fault true false broken room fault is = let same = same_refusal w _ _ is in cc
  no_fault true true (Some BreaksTarget) room fault is = let same = same_refusal w _ _ is in cc
  no_fault true true (Some BreaksPrice) room fault is = let same = same_refusal w _ _ is in cc
  no_fault true true None false fault is = let same = same_refusal w _ _ is in cc
  no_fault true true None true fault is = cc

  -- what breaks a rule is of an agent of the world, and comes next
  is_next : (of next : Bool) (broken : Option BrokenRule) (room : Bool) (why : Refusal)
      → (or_refused w (outcome of next broken (if room then Ok (length w.packets) else Err refusal.WorldFull))).0 ≡ Refused why → is_of_rule why ≡ true → (of && next) ≡ true
  is_next false next broken room why is rule = absurd (let same = same_refusal w refusal.NoAgent why is in let no : is_of_rule refusal.NoAgent ≡ true = ap is_of_rule same ∙ rule in cc)
  is_next true false broken room why is rule =
      absurd (let same = same_refusal w (refusal.WrongSeq (next_seq w.journals b.agent)) why is in let no : is_of_rule (refusal.WrongSeq (next_seq w.journals b.agent)) ≡ true = ap is_of_rule same ∙ rule in cc)
  is_next true true broken room why is rule = refl

  -- it is journaled or refused, and journaled where it comes to the journals
  answers : (of next : Bool) (broken : Option BrokenRule) (room : Bool)
      → IsAnswer (or_refused w (outcome of next broken (if room then Ok (length w.packets) else Err refusal.WorldFull))).0
  answers false next broken room = inr (refusal.NoAgent, refl)
  answers true false broken room = inr (refusal.WrongSeq (next_seq w.journals b.agent), refl)
  answers true true (Some BreaksTarget) room = inr (refusal.BadTarget, refl)
  answers true true (Some BreaksPrice) room = inr (refusal.Unpriced, refl)
  answers true true None false = inr (refusal.WorldFull, refl)
  answers true true None true = inl (length w.packets, refl)

-- the index that a world gives of an event's first bad record
abbrev world_index : World → Result Batch Refusal → Option ℕ
world_index w r =
    option_map (λ p. p.index)
    (elim r [ Ok b ↦ (if nat_le b.agent w.agents && (b.seq == next_seq w.journals b.agent) then first_bad w.sheet (put w.journals b) (placed b) else None) | Err why ↦ None ])

module _ (w : World) (text : List ℕ) where
  abbrev journaled : Result Batch BatchFault → Reply
  journaled r = (or_refused w (offered (elim r [ Ok b ↦ Good text | Err fault ↦ Bad fault ]) >>= on_batch w)).0

  pub bad_batch_there : (fault : BatchFault) → answer_to w text ≡ Refused (refusal.BadBatch fault) → batch_in text ≡ Err fault
  unfolding answer_to
  bad_batch_there fault is = by_batch (batch_in text) refl is
    where
      same_fault : (f : BatchFault) → (or_refused w (Err (refusal.BadBatch f))).0 ≡ Refused (refusal.BadBatch fault) → f ≡ fault
      same_fault f so = cc

      by_batch : (r : Result Batch BatchFault) → batch_in text ≡ r → journaled r ≡ Refused (refusal.BadBatch fault) → r ≡ Err fault
      by_batch (Ok b) read so =
          absurd (no_fault w b (nat_le b.agent w.agents) (b.seq == next_seq w.journals b.agent) (first_broken w.sheet (put w.journals b) (placed b)) (nat_lt (length w.packets) w.room) fault
          (subst (λ (r : Result Batch BatchFault). (or_refused w (or_bad_batch r >>= on_batch w)).0 ≡ Refused (refusal.BadBatch fault)) read so))
      by_batch (Err f) bad so = ap Err (same_fault f so)

  pub bad_index_there : (why : Refusal) → answer_to w text ≡ Refused why → is_of_rule why ≡ true → world_index w (offered (offer_of text)) ≡ bad_index w.sheet w.journals text
  unfolding answer_to
  bad_index_there why is rule = by_batch (batch_in text) refl is
    where
      by_batch : (r : Result Batch BatchFault) → batch_in text ≡ r → journaled r ≡ Refused why
          → world_index w (offered (elim r [ Ok b ↦ Good text | Err fault ↦ Bad fault ])) ≡ bad_index w.sheet w.journals text
      by_batch (Ok b) read so =
          let next = is_next w b (nat_le b.agent w.agents) (b.seq == next_seq w.journals b.agent) (first_broken w.sheet (put w.journals b) (placed b)) (nat_lt (length w.packets) w.room) why
          (subst (λ (r : Result Batch BatchFault). (or_refused w (or_bad_batch r >>= on_batch w)).0 ≡ Refused why) read so) rule in
          ap (λ (r : Result Batch BatchFault). world_index w (or_bad_batch r)) read
          ∙ (ap (λ t. option_map (λ (p : Position). p.index) (if t then first_bad w.sheet (put w.journals b) (placed b) else None)) next
          ∙ ap (λ (x : Batch). option_map (λ (p : Position). p.index) (first_bad w.sheet (put w.journals x) (placed x))) (sym (batch_of_is text b read)))
      by_batch (Err f) bad so = absurd (let same = same_refusal w (refusal.BadBatch f) why so in let no : is_of_rule (refusal.BadBatch f) ≡ true = ap is_of_rule same ∙ rule in cc)

  pub is_answer : IsAnswer (answer_to w text)
  unfolding answer_to
  is_answer = by_batch (batch_in text) refl
    where
      by_batch : (r : Result Batch BatchFault) → batch_in text ≡ r → IsAnswer (journaled r)
      by_batch (Ok b) read =
          subst (λ (r : Result Batch BatchFault). IsAnswer (or_refused w (or_bad_batch r >>= on_batch w)).0) (sym read)
          (answers w b (nat_le b.agent w.agents) (b.seq == next_seq w.journals b.agent) (first_broken w.sheet (put w.journals b) (placed b)) (nat_lt (length w.packets) w.room))
      by_batch (Err f) bad = inr (refusal.BadBatch f, refl)

  -- what is journaled is a batch
  pub journaled_is_batch : IsJournaled (answer_to w text) → (b : Batch) × (batch_in text ≡ Ok b)
  unfolding answer_to
  journaled_is_batch is = by_batch (batch_in text) refl is.1
    where
      by_batch : (r : Result Batch BatchFault) → batch_in text ≡ r → journaled r ≡ Journaled is.0 → (b : Batch) × (r ≡ Ok b)
      by_batch (Ok b) read so = (b, refl)
      by_batch (Err f) bad so = absurd (cc)

-- ---- what is told

-- of what is no bad record the index is not told
pub same_told : (w : World) (lines : ℕ) (text : List ℕ) (bad : Option ℕ) (why : Refusal) → IsBadIn w text why bad
    → told_of_text lines w.sheet text bad why ≡ told_of_text lines w.sheet text (bad_index w.sheet w.journals text) why
same_told w lines text bad refusal.BadTarget is = ap (λ i. told_of_text lines w.sheet text i refusal.BadTarget) (is refl)
same_told w lines text bad refusal.Unpriced is = ap (λ i. told_of_text lines w.sheet text i refusal.Unpriced) (is refl)
same_told w lines text bad (refusal.BadBatch fault) is = refl
same_told w lines text bad (refusal.WrongSeq wanted) is = refl
same_told w lines text bad refusal.NoPacket is = refl
same_told w lines text bad refusal.NoNode is = refl
same_told w lines text bad (refusal.NotClosed learned) is = refl
same_told w lines text bad (refusal.Missing agent seq) is = refl
same_told w lines text bad refusal.AllClosed is = refl
same_told w lines text bad refusal.NoBallot is = refl
same_told w lines text bad refusal.WorldFull is = refl
same_told w lines text bad refusal.NoAgent is = refl
same_told w lines text bad refusal.Observer is = refl
same_told w lines text bad (refusal.BadKept fault) is = refl
same_told w lines text bad refusal.NotKept is = refl

-- ---- by the reply

pub answered : (w : World) (text : List ℕ) (e : Event) → e ≡ Journal (offer_of text) → (step w e).0 ≡ answer_to w text
unfolding answer_to
answered w text e is = ap (λ m. (step w m).0) is

pub stepped : (w v : World) (b : Offered) (e : Event) (r : Reply) → (r, v) ≡ step w e → e ≡ Journal (offer_of b.text) → r ≡ answer_to w b.text
stepped w v b e r is same = ap (λ (o : Reply × World). o.0) is ∙ answered w b.text e same

pub nothing_told : (input told : List ℕ) (w : World) (b : Offered) → IsJournaled (answer_to w b.text) → told ≡ told ++ told_of_answer input w b (answer_to w b.text)
nothing_told input told w b is = sym (ap (λ r. told ++ told_of_answer input w b r) is.1 ∙ append-nil told)

pub refusal_told : (input old new : List ℕ) (w : World) (b : Offered) (why : Refusal) → answer_to w b.text ≡ Refused why → new ≡ old ++ told_of_offered input w b why
    → new ≡ old ++ told_of_answer input w b (answer_to w b.text)
refusal_told input old new w b why is told = told ∙ ap (λ r. old ++ told_of_answer input w b r) (sym is)

-- of want of memory nothing is said
pub refused_or : (P Q : List ℕ → Type 0) → ((told : List ℕ) → P told → Q told) → (fault : WriteFault) → IsRefusedOr P fault → IsRefusedOr Q fault
refused_or P Q from (written.Refused told) is = from told.items is
refused_or P Q from written.OutOfMemory is = is
refused_or P Q from written.Read is = is
refused_or P Q from written.TooLong is = is
refused_or P Q from written.NotClosed is = is
refused_or P Q from written.Write is = is

pub refused_now : (input told : List ℕ) (w : World) (b : Offered) (fault : WriteFault) → (why : Refusal) × (answer_to w b.text ≡ Refused why)
    → told ≡ [] ++ told_of_answer input w b (answer_to w b.text) → ((text : List ℕ) → told ≡ line text → IsRefusedOr (λ words. words ≡ text) fault)
    → IsRefusedOr (IsRefusedNow input w b) fault
refused_now input told w b fault answer is from =
    let one = is_line input w b answer.0 in
    let same : told ≡ line one.0 = is ∙ (ap (told_of_answer input w b) answer.1 ∙ one.1) in
    refused_or (λ words. words ≡ one.0) (IsRefusedNow input w b)
    (λ words so. record { why = answer.0; refused = answer.1; is_told = ap line so ∙ sym one.1 }) fault (from one.0 same)
