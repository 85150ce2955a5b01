-- The line that is told of a journal's batch which breaks a rule is that of the first record for which its world refuses it.
use Rattle.std.proofs.Common.{◌≡◌, ℕ, ◌+◌, Bool, true, false, ◌==◌, List, length, Option, Some, None, Result, Ok, Err, refl, sym, ap, ◌∙◌, arith, nat_le, nat_lt}
use Rattle.std.specs.Prelude.{if◌then◌else◌}
use Rattle.std.specs.Option.{option_map}
use Rattle.std.proofs.lemmas.List.{length-take-le}
use Rattle.metering_model.specs.Batch.{Batch, IsBatch, batch_text}
use Rattle.metering_model.specs.BatchReading.{batch_in}
use Rattle.metering_model.specs.FirstFailure.{◌>>=◌}
use Rattle.metering_model.specs.Holding.{placed, put}
use Rattle.metering_model.specs.JournalRules.{first_broken, next_seq}
use Rattle.metering_model.specs.Step.{batch_of as offered, on_batch, or_bad_batch, or_refused, step}
use Rattle.metering_model.specs.World.{Bad, CarriesBatch, Good, Journal, Journaled, Refused, Reply, World, next_packet, offer_of, with_packet}
use Rattle.metering_model.specs.declared.BatchFault.{BatchFault}
use Rattle.metering_model.specs.declared.BrokenRule.{BrokenRule}
use Rattle.metering_model.specs.declared.BrokenRule.TheVariants as rules
use Rattle.metering_model.specs.declared.Refusal.{Refusal}
use Rattle.metering_model.specs.declared.Refusal.TheVariants as refusal
use Rattle.metering_model.proofs.BatchLaws.{batch_read, batch_written}
use Rattle.fault_lines.specs.Told.{bad_index, line_of, line_within}
use Rattle.input_check.specs.Checks.{IsFirstRefusedIn, first_records, refused_by, reply_with_room}
use Rattle.input_check.proofs.EventWords.{outcome}
use Rattle.input_check.proofs.FirstBadLines.{batch_counts, line_is}
use Rattle.input_check.proofs.FirstBadRecords.{fewer_are_batch, first_of_batch}

told_apart : (rule other : BrokenRule) → Refused (refused_by rule) ≡ Refused (refused_by other) → rule ≡ other
told_apart rules.BadTarget rules.BadTarget same = refl
told_apart rules.BadTarget rules.Unpriced same = absurd (cc)
told_apart rules.Unpriced rules.BadTarget same = absurd (cc)
told_apart rules.Unpriced rules.Unpriced same = refl

no_bad_batch : (rule : BrokenRule) (fault : BatchFault) → Refused (refusal.BadBatch fault) ≡ Refused (refused_by rule) → ⊥
no_bad_batch rules.BadTarget fault same = cc
no_bad_batch rules.Unpriced fault same = cc

no_agent : (rule : BrokenRule) → Refused refusal.NoAgent ≡ Refused (refused_by rule) → ⊥
no_agent rules.BadTarget same = cc
no_agent rules.Unpriced same = cc

no_wrong_seq : (rule : BrokenRule) (wanted : ℕ) → Refused (refusal.WrongSeq wanted) ≡ Refused (refused_by rule) → ⊥
no_wrong_seq rules.BadTarget wanted same = cc
no_wrong_seq rules.Unpriced wanted same = cc

module _ (w : World) where
  -- ---- what a batch is answered, by the tests of it

  abbrev tested : Batch → (of next : Bool) → Option BrokenRule → Reply
  tested b of next broken = (or_refused w (outcome w b of next broken (next_packet w))).0

  abbrev broken_there : Batch → Option BrokenRule
  broken_there b = first_broken w.sheet (put w.journals b) (placed b)

  abbrev is_of : Batch → Bool
  is_of b = nat_le b.agent w.agents

  abbrev is_next : Batch → Bool
  is_next b = b.seq == next_seq w.journals b.agent

  abbrev answer : List ℕ → Reply
  answer text = (step w (Journal (offer_of text))).0

  answered : (text : List ℕ) (b : Batch) → batch_in text ≡ Ok b → answer text ≡ tested b (is_of b) (is_next b) (broken_there b)
  answered text b read =
      ap (λ (r : Result Batch BatchFault). (or_refused w (offered (elim r [ Ok c ↦ Good text | Err fault ↦ Bad fault ]) >>= on_batch w)).0) read
      ∙ ap (λ (r : Result Batch BatchFault). (or_refused w (or_bad_batch r >>= on_batch w)).0) read

  answered_no_batch : (text : List ℕ) (fault : BatchFault) → batch_in text ≡ Err fault → answer text ≡ Refused (refusal.BadBatch fault)
  answered_no_batch text fault bad =
      ap (λ (r : Result Batch BatchFault). (or_refused w (offered (elim r [ Ok c ↦ Good text | Err f ↦ Bad f ]) >>= on_batch w)).0) bad

  by_tests : (b : Batch) (broken : Option BrokenRule) → is_of b ≡ true → is_next b ≡ true → broken_there b ≡ broken
      → tested b (is_of b) (is_next b) (broken_there b) ≡ tested b true true broken
  by_tests b broken of next is =
      ap (λ t. tested b t (is_next b) (broken_there b)) of ∙ (ap (λ t. tested b true t (broken_there b)) next ∙ ap (tested b true true) is)

  with_room : (b : Batch) (room : Result ℕ Refusal)
      → (or_refused w (room >>= λ k. Ok (Journaled k, with_packet (CarriesBatch b) (record w { journals = put w.journals b })))).0 ≡ reply_with_room room
  with_room b (Ok k) = refl
  with_room b (Err why) = refl

  refused_for : (b : Batch) (rule : BrokenRule) → tested b true true (Some rule) ≡ Refused (refused_by rule)
  refused_for b rules.BadTarget = refl
  refused_for b rules.Unpriced = refl

  -- ---- what breaks a rule

  -- The text is a batch of one of the world's agents, its next, that breaks the rule.
  record Breaks (text : List ℕ) (rule : BrokenRule) : Type 0 where
    pub batch : Batch
    pub is_batch : batch_in text ≡ Ok batch
    pub of : is_of batch ≡ true
    pub next : is_next batch ≡ true
    pub broken : broken_there batch ≡ Some rule

  no_room_told : (rule : BrokenRule) (t : Bool) → reply_with_room (if t then Ok (length w.packets) else Err refusal.WorldFull) ≡ Refused (refused_by rule) → ⊥
  no_room_told rules.BadTarget true same = cc
  no_room_told rules.Unpriced true same = cc
  no_room_told rules.BadTarget false same = cc
  no_room_told rules.Unpriced false same = cc

  breaks : (text : List ℕ) (rule : BrokenRule) → answer text ≡ Refused (refused_by rule) → Breaks text rule
  breaks text rule so = by_batch (batch_in text) refl
    where
      by_rule : (b : Batch) → batch_in text ≡ Ok b → is_of b ≡ true → is_next b ≡ true → (o : Option BrokenRule) → broken_there b ≡ o → tested b true true o ≡ Refused (refused_by rule) → Breaks text rule
      by_rule b read of next None is told = absurd (no_room_told rule (nat_lt (length w.packets) w.room) (sym (with_room b (next_packet w)) ∙ told))
      by_rule b read of next (Some other) is told =
          let same = told_apart other rule (sym (refused_for b other) ∙ told) in
          record { batch = b; is_batch = read; of = of; next = next; broken = is ∙ ap Some same }

      by_seq : (b : Batch) → batch_in text ≡ Ok b → is_of b ≡ true → (t : Bool) → is_next b ≡ t → tested b true t (broken_there b) ≡ Refused (refused_by rule) → Breaks text rule
      by_seq b read of true is told = by_rule b read of is (broken_there b) refl told
      by_seq b read of false is told = absurd (no_wrong_seq rule (next_seq w.journals b.agent) told)

      by_agent : (b : Batch) → batch_in text ≡ Ok b → (t : Bool) → is_of b ≡ t → tested b t (is_next b) (broken_there b) ≡ Refused (refused_by rule) → Breaks text rule
      by_agent b read true is told = by_seq b read is (is_next b) refl told
      by_agent b read false is told = absurd (no_agent rule told)

      by_batch : (r : Result Batch BatchFault) → batch_in text ≡ r → Breaks text rule
      by_batch (Ok b) read = by_agent b read (is_of b) refl (sym (answered text b read) ∙ so)
      by_batch (Err fault) bad = absurd (no_bad_batch rule fault (sym (answered_no_batch text fault bad) ∙ so))

  pub refused_for_first_there : (text : List ℕ) (rule : BrokenRule) → answer text ≡ Refused (refused_by rule)
      → (b : Batch) × IsBatch text b × IsFirstRefusedIn w b (refused_by rule) (line_within (bad_index w.sheet w.journals text) (refused_by rule))
  refused_for_first_there text rule so =
      let is = breaks text rule so in
      let b = is.batch in
      let whole = batch_read text b is.is_batch in
      let found = first_of_batch w.sheet w.journals b rule is.broken in
      let i = found.0 in
      let first = found.1 in
      let above = fewer_are_batch i text b whole in
      let with_it = fewer_are_batch (i + 1) text b whole in
      let fewer = first_records i b in
      let one_more = first_records (i + 1) b in
      let long = length-take-le i b.records (omega (arith, first.within)) in (
        b,
        whole,
        record {
          index = i;
          within = first.within;
          counted = line_is w.sheet w.journals text b rule is.is_batch ∙ ap (λ o. line_of (option_map (λ p. p.index) o)) first.bad
              ∙ omega (arith, batch_counts (batch_text fewer) fewer above, long);
          taken = answered (batch_text fewer) fewer (batch_written _ _ above) ∙ (by_tests fewer None is.of is.next first.above ∙ with_room fewer (next_packet w));
          refused = answered (batch_text one_more) one_more (batch_written _ _ with_it) ∙ (by_tests one_more (Some rule) is.of is.next first.with_it ∙ refused_for one_more rule);
        },
      )
