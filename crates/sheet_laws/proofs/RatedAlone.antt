-- A batch that is rated by itself is rated alike under both sheets.
use Rattle.std.proofs.Common.{◌≡◌, ℕ, true, List, [], refl, sym, ap, subst, ◌∙◌, inl, inr, arith, Option, Some, None, Result, Ok, Err, ℤ, ◌<ℤ◌, ◌≤ℤ◌, nat_le, eqb-true}
use Rattle.std.specs.Prelude.{◌≢◌, slice_get, ◌==◌}
use Rattle.std.specs.List.{AllZip}
use Rattle.std.specs.Option.{option_and_then, IsSomeAnd}
use Rattle.std.proofs.lemmas.Bool.{cases_lt}
use Rattle.std.proofs.lemmas.Option.{none-some}
use Rattle.metering_model.specs.FirstFailure.{◌>>=◌}
use Rattle.metering_model.specs.Dates.{period_end}
use Rattle.metering_model.specs.Batch.{Batch, Reading}
use Rattle.metering_model.specs.BatchReading.{batch_in}
use Rattle.metering_model.specs.declared.BatchFault.{BatchFault}
use Rattle.metering_model.specs.declared.BrokenRule.{BrokenRule}
use Rattle.metering_model.specs.declared.BrokenRule.TheVariants.{BadTarget, Unpriced}
use Rattle.metering_model.specs.declared.Refusal.{Refusal}
use Rattle.metering_model.specs.declared.Refusal.TheVariants.{NoAgent, WrongSeq}
use Rattle.metering_model.specs.declared.Refusal.TheVariants.{Unpriced as IsUnpriced}
use Rattle.metering_model.specs.Sheet.{Sheet, Issuer}
use Rattle.metering_model.specs.Cut.{Cut, zero_cut, last_of}
use Rattle.metering_model.specs.Holding.{Holding, Position, reading_of, reading_at, placed, put, up_to}
use Rattle.metering_model.specs.JournalRules.{MeetsJournalRules, next_seq, first_broken}
use Rattle.metering_model.specs.Front.{is_due, front}
use Rattle.metering_model.specs.Rows.{placed_rows, rows}
use Rattle.metering_model.specs.File.{file}
use Rattle.metering_model.specs.World.{World}
use Rattle.metering_model.specs.Step.{Outcome, or_bad_batch, unless_broken, on_batch}
use Rattle.metering_model.proofs.BatchLaws.{IsWellFormed-read}
use Rattle.metering_model.proofs.Fronts.{front_goes_on}
use Rattle.metering_model.proofs.HoldingLaws.{held-up_to_beyond}
use Rattle.metering_model.proofs.Journals.{MeetsJournalRules-nil, MeetsJournalRules-put}
use Rattle.metering_model.proofs.RulesUpToCut.{MeetsJournalRules-up_to}
use Rattle.metering_model.proofs.StepLaws.{step_ok, test_step, ok_same}
use Rattle.group_laws.proofs.Agreed.{last_of-zero}
use Rattle.row_laws.proofs.CountLaws.{place_from_one}
use Rattle.sheet_laws.specs.Longer.{GoesOnFrom, NamesAllAlike, day_start}
use Rattle.sheet_laws.specs.Runs.{PricesAllOf}
use Rattle.sheet_laws.specs.Pairs.{IsPricedBefore, StayAlike}
use Rattle.metering_model.specs.RatedAlone.{world_before, journaled_in, front_alone, placed_rows_alone, file_by}
use Rattle.sheet_laws.proofs.DayStarts.{starts_before_day}
use Rattle.sheet_laws.proofs.FoundReadings.{above_too}
use Rattle.sheet_laws.proofs.Months.{in_batch, starts_in_time}
use Rattle.sheet_laws.proofs.PairedRows.{rows_stay, rows_pair}
use Rattle.sheet_laws.proofs.TwoRuns.{mapped, outcome_under, BreaksTheSame, batch_moved, breaks_the_same, priced_breaks_the_same}

-- ---- the batch, or the refusal

module _ (old new : Sheet) (issuer : Issuer) where
  abbrev world_old : World
  world_old = world_before old issuer

  kept_batch : (b : Batch) (r : Result Outcome Refusal) → (mapped (outcome_under new) r >>= λ _. Ok b) ≡ (r >>= λ _. Ok b)
  kept_batch b (Ok o) = refl
  kept_batch b (Err e) = refl

  journaled_alike : (b : Batch) → BreaksTheSame new world_old b → (on_batch (world_before new issuer) b >>= λ _. Ok b) ≡ (on_batch world_old b >>= λ _. Ok b)
  journaled_alike b same = ap (λ (r : Result Outcome Refusal). r >>= λ _. Ok b) (batch_moved new world_old b same) ∙ kept_batch b (on_batch world_old b)

  abbrev journaled_of : Sheet → Result Batch Refusal → Result Batch Refusal
  journaled_of sheet r = r >>= λ b. on_batch (world_before sheet issuer) b >>= λ _. Ok b

  refused_too : (sheet : Sheet) (b : Batch) → on_batch (world_before sheet issuer) b ≡ Err IsUnpriced → journaled_of sheet (Ok b) ≡ Err IsUnpriced
  refused_too sheet b e = ap (λ (r : Result Outcome Refusal). r >>= λ _. Ok b) e

  same_of : (r : Result Batch Refusal) → (journaled_of old r ≡ Err IsUnpriced → ⊥) → (journaled_of new r ≡ Err IsUnpriced → ⊥) → journaled_of new r ≡ journaled_of old r
  same_of (Err e) p q = refl
  same_of (Ok b) p q = journaled_alike b (breaks_the_same new world_old b (λ e. p (refused_too old b e)) (λ e. q (refused_too new b e)))

  priced_of : (r : Result Batch Refusal) → PricesAllOf old new → (journaled_of old r ≡ Err IsUnpriced → ⊥) → journaled_of new r ≡ journaled_of old r
  priced_of (Err e) prices p = refl
  priced_of (Ok b) prices p = journaled_alike b (priced_breaks_the_same new world_old b prices (λ e. p (refused_too old b e)))

  pub same_journaled : (text : List ℕ) → journaled_in old issuer text ≢ Err IsUnpriced → journaled_in new issuer text ≢ Err IsUnpriced → journaled_in new issuer text ≡ journaled_in old issuer text
  unfolding journaled_in
  same_journaled text p q = same_of (or_bad_batch (batch_in text)) p q

  pub priced_journaled : (text : List ℕ) → PricesAllOf old new → journaled_in old issuer text ≢ Err IsUnpriced → journaled_in new issuer text ≡ journaled_in old issuer text
  unfolding journaled_in
  priced_journaled text prices p = priced_of (or_bad_batch (batch_in text)) prices p

-- ---- a batch that is journaled meets the rules

none_broken : (o : Option BrokenRule) (u : Unit {0}) → unless_broken o ≡ Ok u → o ≡ None
none_broken None u e = refl
none_broken (Some BadTarget) u e = absurd (cc)
none_broken (Some Unpriced) u e = absurd (cc)

was_read : (r : Result Batch BatchFault) (b : Batch) → or_bad_batch r ≡ Ok b → r ≡ Ok b
was_read (Ok x) b e = cc
was_read (Err fault) b e = absurd (cc)

pub rules_alone : (sheet : Sheet) (issuer : Issuer) (text : List ℕ) (b : Batch) → journaled_in sheet issuer text ≡ Ok b → MeetsJournalRules sheet (put [] b)
unfolding journaled_in
rules_alone sheet issuer text b e =
    let one = step_ok (or_bad_batch (batch_in text)) _ b e in
    let c : Batch = one.0 in
    let two = step_ok (on_batch (world_before sheet issuer) c) (λ _. Ok c) b one.2 in
    let is : c ≡ b = ok_same {E = Refusal} c b two.2 in
    let three = test_step (nat_le c.agent 64) NoAgent _ two.0 two.1 in
    let four = test_step (c.seq == next_seq [] c.agent) (WrongSeq (next_seq [] c.agent)) _ two.0 three.1 in
    let five = step_ok (unless_broken (first_broken sheet (put [] c) (placed c))) _ two.0 four.1 in
    subst (λ (x : Batch). MeetsJournalRules sheet (put [] x)) is
    (MeetsJournalRules-put sheet [] c (MeetsJournalRules-nil sheet) (IsWellFormed-read text c (was_read (batch_in text) c one.1)) (eqb-true _ _ four.0) (none_broken _ five.0 five.1))

-- ---- its rows

-- what can be closed for a period starts before the period ends
alone_in_time : (base period : ℕ) (sheet : Sheet) (h : Holding) → MeetsJournalRules sheet h → (at : Position) (r : Reading) → reading_at (up_to (front base h (zero_cut 64) period) h) at ≡ Some r → r.start <ℤ period_end base period
alone_in_time base period sheet h rules at r e = elim (cases_lt (last_of to at.agent) at.seq) [
  | inl beyond ↦ absurd (none-some r (sym (ap (option_and_then (λ (b : Batch). option_and_then reading_of (slice_get b.records at.index))) (held-up_to_beyond to h at.agent at.seq beyond)) ∙ e))
  | inr within ↦
      let there = above_too h to at r e in
      let b = in_batch h at r there in
      let none = last_of-zero 64 at.agent in
      let some = place_from_one h at r rules.is_holding there in
      let due = (front_goes_on base period h (zero_cut 64)).due at.agent at.seq (omega (arith, none, some)) within in
      starts_in_time base period b.0 at.index r (subst (λ o. IsSomeAnd o (λ c. is_due base period c ≡ true)) b.1 due) b.2
]
  where
    to : Cut
    to = front base h (zero_cut 64) period

module _ (day : ℤ) (old new : Sheet) (goes : GoesOnFrom day old new) (issuer : Issuer) (text : List ℕ) (period : ℕ) where
  pub rows_pair_alone : (b : Batch) → journaled_in old issuer text ≡ Ok b → journaled_in new issuer text ≡ Ok b →
      AllZip (StayAlike day old new (put [] b)) (placed_rows_alone old issuer b period) (placed_rows_alone new issuer b period)
  rows_pair_alone b e f =
      subst (λ base. AllZip (StayAlike day old new (put [] b)) (placed_rows_alone old issuer b period) (placed_rows new issuer (put [] b) period (zero_cut 64) (front base (put [] b) (zero_cut 64) period))) (sym goes.base)
      (rows_pair day old new goes issuer (put [] b) period (zero_cut 64) (front_alone old b period)
      (MeetsJournalRules-up_to old (front_alone old b period) (put [] b) (rules_alone old issuer text b e)) (MeetsJournalRules-up_to new (front_alone old b period) (put [] b) (rules_alone new issuer text b f)))

  abbrev file_of_batch : Sheet → Batch → List ℕ
  file_of_batch sheet b = file (rows sheet issuer (put [] b) period (zero_cut 64) (front_alone sheet b period))

  file_stays_alone : (b : Batch) → MeetsJournalRules old (put [] b) →
      ((at : Position) (r : Reading) → reading_at (up_to (front_alone old b period) (put [] b)) at ≡ Some r → IsPricedBefore day r) →
      NamesAllAlike old new (put [] b) → file_of_batch new b ≡ file_of_batch old b
  file_stays_alone b rules before names =
      ap (λ base. file (rows new issuer (put [] b) period (zero_cut 64) (front base (put [] b) (zero_cut 64) period))) goes.base
      ∙ ap file (rows_stay day old new goes issuer (put [] b) period (zero_cut 64) (front_alone old b period) (MeetsJournalRules-up_to old (front_alone old b period) (put [] b) rules) before (λ at r found. names at r (above_too (put [] b) (front_alone old b period) at r found)))

  module _ (p : journaled_in old issuer text ≢ Err IsUnpriced) (q : journaled_in new issuer text ≢ Err IsUnpriced) (names : (b : Batch) → journaled_in old issuer text ≡ Ok b → NamesAllAlike old new (put [] b)) where
    by_batch : (r : Result Batch Refusal) → ((b : Batch) → r ≡ Ok b → file_of_batch new b ≡ file_of_batch old b) → (r >>= λ b. Ok (file_of_batch new b)) ≡ (r >>= λ b. Ok (file_of_batch old b))
    by_batch (Ok b) same = ap (λ t. Ok t) (same b refl)
    by_batch (Err e) same = refl

    same_file : ((b : Batch) → journaled_in old issuer text ≡ Ok b → file_of_batch new b ≡ file_of_batch old b) → file_by new issuer period text ≡ file_by old issuer period text
    same_file same = ap (λ (r : Result Batch Refusal). r >>= λ b. Ok (file_of_batch new b)) (same_journaled old new issuer text p q) ∙ by_batch (journaled_in old issuer text) same

    pub rated_in_time : period_end old.base period ≤ℤ day_start day → file_by new issuer period text ≡ file_by old issuer period text
    rated_in_time ends = same_file (λ b e.
        let rules = rules_alone old issuer text b e in
        file_stays_alone b rules (λ at r found _. starts_before_day r.start (period_end old.base period) day (alone_in_time old.base period old (put [] b) rules at r found) ends) (names b e))

    pub rated_before : ((b : Batch) → journaled_in old issuer text ≡ Ok b → (at : Position) (r : Reading) → reading_at (put [] b) at ≡ Some r → IsPricedBefore day r) →
        file_by new issuer period text ≡ file_by old issuer period text
    rated_before before = same_file (λ b e.
        file_stays_alone b (rules_alone old issuer text b e) (λ at r found. before b e at r (above_too (put [] b) (front_alone old b period) at r found)) (names b e))
