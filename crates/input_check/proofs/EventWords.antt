-- What is told of a refused batch, and of its first bad record.
use Rattle.std.proofs.Common.{◌≡◌, ℕ, Bool, true, false, ◌&&◌, ◌==◌, List, length, Option, Some, None, Result, Ok, Err, refl, sym, ap, ◌∙◌, subst, nat_le, nat_lt}
use Rattle.std.specs.Prelude.{if◌then◌else◌}
use Rattle.std.specs.Option.{option_map}
use Rattle.metering_model.specs.Batch.{Batch}
use Rattle.metering_model.specs.BatchReading.{batch_in}
use Rattle.metering_model.specs.FirstFailure.{◌>>=◌, holds_or}
use Rattle.metering_model.specs.Holding.{Position, placed, put}
use Rattle.metering_model.specs.JournalRules.{first_broken, next_seq}
use Rattle.metering_model.specs.Sheet as model
use Rattle.metering_model.specs.Step.{Outcome, batch_of as offered, on_batch, or_bad_batch, or_refused, step, unless_broken}
use Rattle.metering_model.specs.World.{World, Good, Bad, Journal, Journaled, Reply, Refused, offer_of, with_packet, CarriesBatch}
use Rattle.metering_model.specs.declared.BatchFault.{BatchFault}
use Rattle.metering_model.specs.declared.BrokenRule.{BrokenRule}
use Rattle.metering_model.specs.declared.BrokenRule.TheVariants.{BadTarget as BreaksTarget, Unpriced as BreaksPrice}
use Rattle.metering_model.specs.declared.Refusal.{Refusal}
use Rattle.metering_model.specs.declared.Refusal.TheVariants as refusal
use Rattle.batch_view.proofs.BatchLemmas.{batch_of_is}
use Rattle.journal_rules.specs.FirstBad.{first_bad}
use Rattle.metering_model.specs.RatedAlone.{journaled_in, world_before}
use Rattle.fault_lines.specs.Told.{bad_index, told_of_text}
use Rattle.input_check.specs.Inner.Replies.{is_of_rule}

-- ---- a journal

same_refusal : (w : World) (a b : Refusal) → (or_refused w (Err a)).0 ≡ Refused b → a ≡ b
same_refusal w a b is = cc

module _ (w : World) (b : Batch) where
  abbrev pub outcome : (of next : Bool) → Option BrokenRule → Result ℕ Refusal → Result Outcome Refusal
  outcome of next broken room =
      holds_or of refusal.NoAgent >>= λ _. holds_or next (refusal.WrongSeq (next_seq w.journals b.agent)) >>= λ _. unless_broken broken >>= λ _.
      room >>= λ k. Ok (Journaled k, with_packet (CarriesBatch b) (record w { journals = put w.journals b }))

  -- what a batch is refused for tells no fault of its text
  no_fault : (of next : Bool) (broken : Option BrokenRule) (room : Bool) (fault : BatchFault)
      → (or_refused w (outcome of next broken (if room then Ok (length w.packets) else Err refusal.WorldFull))).0 ≡ Refused (refusal.BadBatch fault) → ⊥
  no_fault false next broken room fault is = let same = same_refusal w _ _ is in cc
  no_fault true false broken room fault is = let same = same_refusal w _ _ is in cc
  no_fault true true (Some BreaksTarget) room fault is = let same = same_refusal w _ _ is in cc
  no_fault true true (Some BreaksPrice) room fault is = let same = same_refusal w _ _ is in cc
  no_fault true true None false fault is = let same = same_refusal w _ _ is in cc
  no_fault true true None true fault is = cc

  -- what breaks a rule is of an agent of the world, and comes next
  is_next : (of next : Bool) (broken : Option BrokenRule) (room : Bool) (why : Refusal)
      → (or_refused w (outcome of next broken (if room then Ok (length w.packets) else Err refusal.WorldFull))).0 ≡ Refused why → is_of_rule why ≡ true → (of && next) ≡ true
  is_next false next broken room why is rule = absurd (let same = same_refusal w refusal.NoAgent why is in let no : is_of_rule refusal.NoAgent ≡ true = ap is_of_rule same ∙ rule in cc)
  is_next true false broken room why is rule =
      absurd (let same = same_refusal w (refusal.WrongSeq (next_seq w.journals b.agent)) why is in let no : is_of_rule (refusal.WrongSeq (next_seq w.journals b.agent)) ≡ true = ap is_of_rule same ∙ rule in cc)
  is_next true true broken room why is rule = refl

-- the index that a world gives of an event's first bad record
abbrev world_index : World → Result Batch Refusal → Option ℕ
world_index w r =
    option_map (λ p. p.index)
    (elim r [ Ok b ↦ (if nat_le b.agent w.agents && (b.seq == next_seq w.journals b.agent) then first_bad w.sheet (put w.journals b) (placed b) else None) | Err why ↦ None ])

module _ (w : World) (text : List ℕ) where
  abbrev journaled : Result Batch BatchFault → Reply
  journaled r = (or_refused w (offered (elim r [ Ok b ↦ Good text | Err fault ↦ Bad fault ]) >>= on_batch w)).0

  pub bad_batch_there : (fault : BatchFault) → (step w (Journal (offer_of text))).0 ≡ Refused (refusal.BadBatch fault) → batch_in text ≡ Err fault
  bad_batch_there fault is = by_batch (batch_in text) refl is
    where
      same_fault : (f : BatchFault) → (or_refused w (Err (refusal.BadBatch f))).0 ≡ Refused (refusal.BadBatch fault) → f ≡ fault
      same_fault f so = cc

      by_batch : (r : Result Batch BatchFault) → batch_in text ≡ r → journaled r ≡ Refused (refusal.BadBatch fault) → r ≡ Err fault
      by_batch (Ok b) read so =
          absurd (no_fault w b (nat_le b.agent w.agents) (b.seq == next_seq w.journals b.agent) (first_broken w.sheet (put w.journals b) (placed b)) (nat_lt (length w.packets) w.room) fault
          (subst (λ (r : Result Batch BatchFault). (or_refused w (or_bad_batch r >>= on_batch w)).0 ≡ Refused (refusal.BadBatch fault)) read so))
      by_batch (Err f) bad so = ap Err (same_fault f so)

  pub bad_index_there : (why : Refusal) → (step w (Journal (offer_of text))).0 ≡ Refused why → is_of_rule why ≡ true → world_index w (offered (offer_of text)) ≡ bad_index w.sheet w.journals text
  bad_index_there why is rule = by_batch (batch_in text) refl is
    where
      by_batch : (r : Result Batch BatchFault) → batch_in text ≡ r → journaled r ≡ Refused why
          → world_index w (offered (elim r [ Ok b ↦ Good text | Err fault ↦ Bad fault ])) ≡ bad_index w.sheet w.journals text
      by_batch (Ok b) read so =
          let next = is_next w b (nat_le b.agent w.agents) (b.seq == next_seq w.journals b.agent) (first_broken w.sheet (put w.journals b) (placed b)) (nat_lt (length w.packets) w.room) why
          (subst (λ (r : Result Batch BatchFault). (or_refused w (or_bad_batch r >>= on_batch w)).0 ≡ Refused why) read so) rule in
          ap (λ (r : Result Batch BatchFault). world_index w (or_bad_batch r)) read
          ∙ (ap (λ t. option_map (λ (p : Position). p.index) (if t then first_bad w.sheet (put w.journals b) (placed b) else None)) next
          ∙ ap (λ (x : Batch). option_map (λ (p : Position). p.index) (first_bad w.sheet (put w.journals x) (placed x))) (sym (batch_of_is text b read)))
      by_batch (Err f) bad so = absurd (let same = same_refusal w (refusal.BadBatch f) why so in let no : is_of_rule (refusal.BadBatch f) ≡ true = ap is_of_rule same ∙ rule in cc)

-- ---- a batch that is rated

module _ (sheet : model.Sheet) (issuer : model.Issuer) (b : Batch) where
  alone : (of next : Bool) (broken : Option BrokenRule) (room : Bool) (fault : BatchFault)
      → (outcome (world_before sheet issuer) b of next broken (if room then Ok 0 else Err refusal.WorldFull) >>= λ _. Ok b) ≡ Err (refusal.BadBatch fault) → ⊥
  alone false next broken room fault is = cc
  alone true false broken room fault is = cc
  alone true true (Some BreaksTarget) room fault is = cc
  alone true true (Some BreaksPrice) room fault is = cc
  alone true true None false fault is = cc
  alone true true None true fault is = cc

  pub no_fault_alone : (text : List ℕ) (fault : BatchFault) → batch_in text ≡ Ok b → journaled_in sheet issuer text ≡ Err (refusal.BadBatch fault) → ⊥
  unfolding journaled_in
  no_fault_alone text fault read is =
      let w = world_before sheet issuer in
      alone (nat_le b.agent w.agents) (b.seq == next_seq w.journals b.agent) (first_broken w.sheet (put w.journals b) (placed b)) true fault (rw read at is)

-- ---- which record is asked only where it is told

pub same_told : (n : ℕ) (sheet : model.Sheet) (text : List ℕ) (one two : Option ℕ) (why : Refusal) → (is_of_rule why ≡ true → one ≡ two) → told_of_text n sheet text one why ≡ told_of_text n sheet text two why
same_told n sheet text one two refusal.BadTarget same = ap (λ o. told_of_text n sheet text o refusal.BadTarget) (same refl)
same_told n sheet text one two refusal.Unpriced same = ap (λ o. told_of_text n sheet text o refusal.Unpriced) (same refl)
same_told n sheet text one two (refusal.BadBatch fault) same = refl
same_told n sheet text one two (refusal.WrongSeq wanted) same = refl
same_told n sheet text one two refusal.NoPacket same = refl
same_told n sheet text one two refusal.NoNode same = refl
same_told n sheet text one two (refusal.NotClosed learned) same = refl
same_told n sheet text one two (refusal.Missing agent seq) same = refl
same_told n sheet text one two refusal.AllClosed same = refl
same_told n sheet text one two refusal.NoBallot same = refl
same_told n sheet text one two refusal.WorldFull same = refl
same_told n sheet text one two refusal.NoAgent same = refl
same_told n sheet text one two refusal.Observer same = refl
same_told n sheet text one two (refusal.BadKept fault) same = refl
same_told n sheet text one two refusal.NotKept same = refl
