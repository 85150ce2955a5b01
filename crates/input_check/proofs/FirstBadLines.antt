-- The line that is told of a batch which breaks a rule of the journals is that of the first record for which it is refused.
use Rattle.std.proofs.Common.{◌≡◌, ℕ, ◌+◌, Bool, true, false, List, [], length, Option, Some, None, Result, Ok, Err, refl, sym, ap, ◌∙◌, arith, eq-eqb}
use Rattle.std.specs.Prelude.{◌==◌}
use Rattle.std.specs.List.{list_all}
use Rattle.std.specs.Option.{option_map}
use Rattle.std.proofs.lemmas.Bool.{and_from, eqb-true}
use Rattle.std.proofs.lemmas.List.{length-map, length-take-le}
use Rattle.metering_model.specs.Batch.{Batch, IsBatch, batch_text, lacks}
use Rattle.metering_model.specs.BatchReading.{batch_in}
use Rattle.metering_model.specs.declared.BatchFault.{BatchFault}
use Rattle.metering_model.specs.declared.BrokenRule.{BrokenRule}
use Rattle.metering_model.specs.declared.BrokenRule.TheVariants as rules
use Rattle.metering_model.specs.declared.Refusal.{Refusal}
use Rattle.metering_model.specs.declared.Refusal.TheVariants as refusal
use Rattle.metering_model.specs.Holding.{Holding, placed, put}
use Rattle.metering_model.specs.JournalRules.{first_broken}
use Rattle.metering_model.specs.Sheet as model
use Rattle.metering_model.specs.Transcript.{line_count}
use Rattle.metering_model.proofs.BatchLaws.{batch_lines, batch_read, batch_written, head_of, lines_are_text}
use Rattle.metering_model.proofs.LineLaws.{HeadLimits, head_lacks_feed, record_line, records_lack_feed}
use Rattle.batch_view.proofs.BatchLemmas.{batch_of_is}
use Rattle.journal_rules.specs.FirstBad.{first_bad}
use Rattle.input_sections.proofs.CountedLines.{lines_count}
use Rattle.metering_model.specs.RatedAlone.{journaled_in}
use Rattle.batch_player.proofs.JournaledLaws.{bad_target, later_batch, no_batch, taken, unpriced}
use Rattle.fault_lines.specs.Told.{bad_index, line_of, line_within}
use Rattle.input_check.specs.Checks.{IsFirstRefused, first_records, refused_by}
use Rattle.input_check.proofs.FirstBadRecords.{fewer_are_batch, first_of_batch}

-- ---- the lines of a batch

-- a head line, and one for each record
pub batch_counts : (text : List ℕ) (b : Batch) → IsBatch text b → line_count (batch_text b) ≡ 1 + length b.records
batch_counts text b is =
    let limits : HeadLimits (head_of b) = record { agent = is.agent; seq = is.seq; count = is.count } in
    let feeds : list_all (lacks 10) (batch_lines b) ≡ true = and_from _ _ (head_lacks_feed (head_of b) limits) (records_lack_feed b.records is.records) in
    omega (arith, ap line_count (lines_are_text b), lines_count (batch_lines b) feeds, length-map b.records record_line)

pub line_is : (sheet : model.Sheet) (h : Holding) (text : List ℕ) (b : Batch) (rule : BrokenRule) → batch_in text ≡ Ok b
    → line_within (bad_index sheet h text) (refused_by rule) ≡ line_of (option_map (λ p. p.index) (first_bad sheet (put h b) (placed b)))
line_is sheet h text b rules.BadTarget read = ap (λ (x : Batch). line_of (option_map (λ p. p.index) (first_bad sheet (put h x) (placed x)))) (batch_of_is text b read)
line_is sheet h text b rules.Unpriced read = ap (λ (x : Batch). line_of (option_map (λ p. p.index) (first_bad sheet (put h x) (placed x)))) (batch_of_is text b read)

-- ---- why a batch is refused

told_apart : (rule other : BrokenRule) → ◌≡◌ {A = Result Batch Refusal} (Err (refused_by rule)) (Err (refused_by other)) → rule ≡ other
told_apart rules.BadTarget rules.BadTarget same = refl
told_apart rules.BadTarget rules.Unpriced same = absurd (cc)
told_apart rules.Unpriced rules.BadTarget same = absurd (cc)
told_apart rules.Unpriced rules.Unpriced same = refl

no_bad_batch : (rule : BrokenRule) (fault : BatchFault) → ◌≡◌ {A = Result Batch Refusal} (Err (refusal.BadBatch fault)) (Err (refused_by rule)) → ⊥
no_bad_batch rules.BadTarget fault same = cc
no_bad_batch rules.Unpriced fault same = cc

no_wrong_seq : (rule : BrokenRule) (wanted : ℕ) → ◌≡◌ {A = Result Batch Refusal} (Err (refusal.WrongSeq wanted)) (Err (refused_by rule)) → ⊥
no_wrong_seq rules.BadTarget wanted same = cc
no_wrong_seq rules.Unpriced wanted same = cc

module _ (sheet : model.Sheet) (issuer : model.Issuer) where
  -- a batch, its agent's first, that breaks the rule is refused so
  refused_so : (text : List ℕ) (b : Batch) (rule : BrokenRule) → batch_in text ≡ Ok b → b.seq ≡ 1 → first_broken sheet (put [] b) (placed b) ≡ Some rule
      → journaled_in sheet issuer text ≡ Err (refused_by rule)
  refused_so text b rules.BadTarget read first broken = bad_target sheet issuer text b read first broken
  refused_so text b rules.Unpriced read first broken = unpriced sheet issuer text b read first broken

  -- The text is a batch, its agent's first, that breaks the rule.
  record Breaks (text : List ℕ) (rule : BrokenRule) : Type 0 where
    pub batch : Batch
    pub is_batch : batch_in text ≡ Ok batch
    pub first : batch.seq ≡ 1
    pub broken : first_broken sheet (put [] batch) (placed batch) ≡ Some rule

  breaks : (text : List ℕ) (rule : BrokenRule) → journaled_in sheet issuer text ≡ Err (refused_by rule) → Breaks text rule
  breaks text rule so = by_batch (batch_in text) refl
    where
      by_rule : (b : Batch) → batch_in text ≡ Ok b → b.seq ≡ 1 → (o : Option BrokenRule) → first_broken sheet (put [] b) (placed b) ≡ o → Breaks text rule
      by_rule b read first None none = absurd (let is = sym (taken sheet issuer text b read first none) ∙ so in cc)
      by_rule b read first (Some other) broken =
          let same = told_apart other rule (sym (refused_so text b other read first broken) ∙ so) in
          record { batch = b; is_batch = read; first = first; broken = broken ∙ ap Some same }

      by_seq : (b : Batch) → batch_in text ≡ Ok b → (t : Bool) → (b.seq == 1) ≡ t → Breaks text rule
      by_seq b read true is = by_rule b read (eqb-true b.seq 1 is) (first_broken sheet (put [] b) (placed b)) refl
      by_seq b read false is = absurd (no_wrong_seq rule 1 (sym (later_batch sheet issuer text b read (λ one. let two = eq-eqb b.seq 1 one in cc)) ∙ so))

      by_batch : (r : Result Batch BatchFault) → batch_in text ≡ r → Breaks text rule
      by_batch (Ok b) read = by_seq b read (b.seq == 1) refl
      by_batch (Err fault) bad = absurd (no_bad_batch rule fault (sym (no_batch sheet issuer text fault bad) ∙ so))

  pub refused_for_first : (text : List ℕ) (rule : BrokenRule) → journaled_in sheet issuer text ≡ Err (refused_by rule)
      → (b : Batch) × IsBatch text b × IsFirstRefused sheet issuer b (refused_by rule) (line_within (bad_index sheet [] text) (refused_by rule))
  refused_for_first text rule so =
      let is = breaks text rule so in
      let b = is.batch in
      let whole = batch_read text b is.is_batch in
      let found = first_of_batch sheet [] b rule is.broken in
      let i = found.0 in
      let first = found.1 in
      let above = fewer_are_batch i text b whole in
      let with_it = fewer_are_batch (i + 1) text b whole in
      let long = length-take-le i b.records (omega (arith, first.within)) in (
        b,
        whole,
        record {
          index = i;
          within = first.within;
          counted = line_is sheet [] text b rule is.is_batch ∙ ap (λ o. line_of (option_map (λ p. p.index) o)) first.bad
              ∙ omega (arith, batch_counts (batch_text (first_records i b)) (first_records i b) above, long);
          taken = taken sheet issuer (batch_text (first_records i b)) (first_records i b) (batch_written _ _ above) is.first first.above;
          refused = refused_so (batch_text (first_records (i + 1) b)) (first_records (i + 1) b) rule (batch_written _ _ with_it) is.first first.with_it;
        },
      )
