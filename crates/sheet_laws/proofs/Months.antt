-- The files of months that are over are the same under a sheet that goes on from where they end.
use Rattle.std.proofs.Common.{◌≡◌, ℕ, zero, suc, ◌≤◌, Bool, true, List, [], ◌∷◌, refl, sym, ap, subst, ◌∙◌, inl, inr, arith, Option, Some, None, ℤ, ◌<ℤ◌, ◌≤ℤ◌, Contains}
use Rattle.std.specs.Prelude.{slice_get, int_lt}
use Rattle.std.specs.List.{list_all}
use Rattle.std.specs.Option.{option_and_then, IsSomeAnd}
use Rattle.std.proofs.lemmas.Bool.{cases_lt, and_parts}
use Rattle.std.proofs.lemmas.Int.{ints}
use Rattle.std.proofs.lemmas.Option.{same_Some, none-some}
use Rattle.metering_model.specs.Dates.{period_end}
use Rattle.metering_model.specs.Batch.{Batch, Record, Reading, Reads, Amends}
use Rattle.metering_model.specs.Cut.{Cut, last_of}
use Rattle.metering_model.specs.Sheet.{Sheet, Issuer}
use Rattle.metering_model.specs.Holding.{Holding, IsHolding, Position, held, reading_of, reading_at, up_to}
use Rattle.metering_model.specs.JournalRules.{MeetsJournalRules}
use Rattle.metering_model.specs.Front.{starts_before, is_due, AreDueBetween}
use Rattle.metering_model.specs.Rows.{rows}
use Rattle.metering_model.specs.File.{file}
use Rattle.metering_model.specs.Limits.{most_packets}
use Rattle.metering_model.specs.World.{World, Event, Snapshot, Reply, Exported, opening}
use Rattle.metering_model.specs.Step.{cut_before, play}
use Rattle.metering_model.specs.Transcript.{file_of}
use Rattle.metering_model.proofs.HoldingLaws.{held-up_to, held-up_to_beyond}
use Rattle.metering_model.proofs.RulesUpToCut.{MeetsJournalRules-up_to}
use Rattle.row_laws.proofs.CountLaws.{place_from_one}
use Rattle.row_laws.proofs.DueLaws.{due_later}
use Rattle.group_laws.specs.Headline.{IsExport, HoldsAfter}
use Rattle.group_laws.proofs.EveryRun.{holds_after}
use Rattle.transcript_laws.proofs.InTime.{were_due}
use Rattle.sheet_laws.specs.Longer.{GoesOnFrom, NamesAllAlike, day_start}
use Rattle.sheet_laws.proofs.DayStarts.{starts_before_day}
use Rattle.sheet_laws.proofs.FoundReadings.{above_too}
use Rattle.sheet_laws.proofs.PairedRows.{rows_stay}

-- ---- readings of batches that are due

pub each_passes : {A : Type 0} (test : A → Bool) (xs : List A) (k : ℕ) (x : A) → list_all test xs ≡ true → slice_get xs k ≡ Some x → test x ≡ true
each_passes test [] k x all e = absurd (none-some _ e)
each_passes test (y ∷ ys) zero x all e = subst (λ z. test z ≡ true) (same_Some y x e) (and_parts (test y) (list_all test ys) all).0
each_passes test (y ∷ ys) (suc k) x all e = each_passes test ys k x (and_parts (test y) (list_all test ys) all).1 e

from_int_lt : (a b : ℤ) → int_lt a b ≡ true → a <ℤ b
from_int_lt a b h = grind (arith, ints)

-- a reading that is found stands in a batch that is held
pub in_batch : (h : Holding) (at : Position) (r : Reading) → reading_at h at ≡ Some r → (b : Batch) × (held h at.agent at.seq ≡ Some b) × (slice_get b.records at.index ≡ Some (Reads r))
in_batch h at r e = by_batch (held h at.agent at.seq) refl e
  where
    is_read : (o : Option Record) → option_and_then reading_of o ≡ Some r → o ≡ Some (Reads r)
    is_read None e = absurd (none-some _ e)
    is_read (Some (Reads s)) e = ap (λ x. Some (Reads x)) (same_Some s r e)
    is_read (Some (Amends seq index value)) e = absurd (none-some _ e)

    by_batch : (o : Option Batch) → held h at.agent at.seq ≡ o → option_and_then (λ b. option_and_then reading_of (slice_get b.records at.index)) o ≡ Some r →
        (b : Batch) × (held h at.agent at.seq ≡ Some b) × (slice_get b.records at.index ≡ Some (Reads r))
    by_batch None is e = absurd (none-some _ e)
    by_batch (Some b) is e = (b, is, is_read (slice_get b.records at.index) e)

pub starts_in_time : (base period : ℕ) (b : Batch) (k : ℕ) (r : Reading) → is_due base period b ≡ true → slice_get b.records k ≡ Some (Reads r) → r.start <ℤ period_end base period
starts_in_time base period b k r due e = from_int_lt r.start (period_end base period) (each_passes (starts_before (period_end base period)) b.records k (Reads r) due e)

-- Where each cut of a list adds only what is due, a reading up to the cut of a period starts before the period ends.
module _ (base agents : ℕ) (h : Holding) (ok : IsHolding h) (cuts : List Cut)
    (due : (period : ℕ) (to : Cut) → slice_get cuts period ≡ Some to → AreDueBetween base period h (cut_before agents cuts period) to)
  where
    due_up_to : (period : ℕ) (to : Cut) → slice_get cuts period ≡ Some to → (agent seq : ℕ) (b : Batch) → 1 ≤ seq → seq ≤ last_of to agent → held h agent seq ≡ Some b → is_due base period b ≡ true
    due_up_to period to is agent seq b some within found = elim (cases_lt (last_of (cut_before agents cuts period) agent) seq) [
      | inl above ↦ subst (λ o. IsSomeAnd o (λ c. is_due base period c ≡ true)) found (due period to is agent seq above within)
      | inr below ↦
          let was = were_due base agents h cuts due period to is agent seq some below in
          let earlier = was.1 in
          due_later base was.0 period b (omega (arith, earlier)) (subst (λ o. IsSomeAnd o (λ c. is_due base was.0 c ≡ true)) found was.2)
    ]

    pub reading_in_time : (period : ℕ) (to : Cut) → slice_get cuts period ≡ Some to → (at : Position) (r : Reading) → reading_at (up_to to h) at ≡ Some r → r.start <ℤ period_end base period
    reading_in_time period to is at r e = elim (cases_lt (last_of to at.agent) at.seq) [
      | inl beyond ↦ absurd (none-some r (sym (ap (option_and_then (λ (b : Batch). option_and_then reading_of (slice_get b.records at.index))) (held-up_to_beyond to h at.agent at.seq beyond)) ∙ e))
      | inr within ↦
          let there : reading_at h at ≡ Some r = sym (ap (option_and_then (λ (b : Batch). option_and_then reading_of (slice_get b.records at.index))) (held-up_to to h at.agent at.seq within)) ∙ e in
          let b = in_batch h at r there in
          starts_in_time base period b.0 at.index r (due_up_to period to is at.agent at.seq b.0 (place_from_one h at r ok there) within b.1) b.2
    ]

-- ---- a run

module _ (voters observers agents : ℕ) (old : Sheet) (issuer : Issuer) (events : List Event) where
  abbrev replies : List Reply
  replies = (play (opening voters observers agents old issuer) events).0

  abbrev reached : World
  reached = (play (opening voters observers agents old issuer) events).1

  headline : HoldsAfter voters observers agents old issuer events replies reached
  headline = holds_after most_packets voters observers agents old issuer events

  due : (period : ℕ) (to : Cut) → slice_get headline.cuts period ≡ Some to → AreDueBetween old.base period reached.journals (cut_before agents headline.cuts period) to
  due period to is =
      subst (λ x. AreDueBetween x.base period reached.journals (cut_before agents headline.cuts period) to) headline.sheet_kept
      (subst (λ n. AreDueBetween reached.sheet.base period reached.journals (cut_before n headline.cuts period) to) headline.agents_kept
      (headline.are_the_cuts.due period to is))

  module _ (s : Snapshot) (has : Contains replies (Exported s)) where
    export : IsExport reached headline.cuts s
    export = headline.exports s has

    pub sheet_of_export : s.sheet ≡ old
    sheet_of_export = export.sheet ∙ headline.sheet_kept

    pub starts_before_end : (at : Position) (r : Reading) → reading_at s.batches at ≡ Some r → r.start <ℤ period_end old.base s.period
    starts_before_end at r e =
        reading_in_time old.base agents reached.journals headline.rules.is_holding headline.cuts due s.period s.to export.to at r
        (subst (λ h. reading_at h at ≡ Some r) export.batches e)

    -- what is exported was journaled
    pub names_of_export : (new : Sheet) → NamesAllAlike old new reached.journals → NamesAllAlike old new s.batches
    names_of_export new names at r e = names at r (above_too reached.journals s.to at r (subst (λ h. reading_at h at ≡ Some r) export.batches e))

    pub file_stays : (new : Sheet) (day : ℤ) → GoesOnFrom day old new → period_end old.base s.period ≤ℤ day_start day → NamesAllAlike old new s.batches → file_of (record s { sheet = new }) ≡ file_of s
    file_stays new day goes ends names =
        let rules : MeetsJournalRules old s.batches = subst (λ x. MeetsJournalRules x s.batches) sheet_of_export export.rules in
        ap file
        (rows_stay day old new goes s.issuer s.batches s.period s.from s.to (MeetsJournalRules-up_to old s.to s.batches rules)
        (λ at r found _. starts_before_day r.start (period_end old.base s.period) day (starts_before_end at r (above_too s.batches s.to at r found)) ends)
        (λ at r found. names at r (above_too s.batches s.to at r found)))
        ∙ ap (λ x. file (rows x s.issuer s.batches s.period s.from s.to)) (sym sheet_of_export)
