-- How the premises are met.
use Rattle.std.proofs.Common.{◌≡◌, ℕ, List, ap, subst, refl, ◌∙◌, arith, Some, ℤ, pos, negsuc, ◌≤ℤ◌, option_map}
use Rattle.std.specs.Prelude.{slice_get}
use Rattle.std.specs.List.{Contains}
use Rattle.std.specs.Option.{option_and_then}
use Rattle.std.proofs.lemmas.Int.{ints}
use Rattle.metering_model.specs.Batch.{Batch}
use Rattle.metering_model.specs.Dates.{period_end}
use Rattle.metering_model.specs.Holding.{Holding, reading_of, reading_at}
use Rattle.metering_model.specs.Sheet.{Sheet}
use Rattle.metering_model.specs.World.{Snapshot}
use Rattle.sheet_laws.specs.Longer.{IsLonger, NamesAllAlike, without_from, day_start}
use Rattle.sheet_laws.proofs.FoundReadings.{above_too}
use Rattle.sheet_laws.proofs.LongerSheets.{goes_on, prices_all}
use Rattle.process_laws.specs.LocalSteps.{Group, HasExported, saying}
use Rattle.process_laws.specs.Histories.{begun}
use Rattle.process_laws.proofs.OwnBatches.{held_own}
use Rattle.price_change_laws.specs.SheetedHistories.{SheetedAct, sheeted_answers, sheeted_after, IsSheetedHistory, IsTakenOver, AreTakenOver, EndsBeforeChange}
use Rattle.price_change_laws.proofs.ClosedMonths.{are_journaled}

pub takes_over : (day : ℤ) (old last : Sheet) → IsLonger day old last → IsTakenOver last old
takes_over day old last longer = record { base = longer.base; prices = prices_all day old last longer }

pub takes_over_itself : (last : Sheet) → IsTakenOver last last
takes_over_itself last = record { base = refl; prices = λ r fit. fit }

pub takes_over_both : (first second third : Sheet) → IsTakenOver second first → IsTakenOver third second → IsTakenOver third first
takes_over_both first second third one two = record { base = two.base ∙ one.base; prices = λ r fit. two.prices r (one.prices r fit) }

pub ends_by : (day : ℤ) (last : Sheet) (s : Snapshot) → IsLonger day s.sheet last → period_end last.base s.period ≤ℤ day_start day
    → NamesAllAlike s.sheet last s.batches → EndsBeforeChange last s
ends_by day last s longer ends named = record { day = day; goes_on = goes_on day s.sheet last longer; ends = ends; named = named }

-- each stamp has a day that begins at it or later
some_day : (stamp : ℤ) → (day : ℤ) × (stamp ≤ℤ day_start day)
some_day (pos n) = (pos n, grind (arith, ints))
some_day (negsuc n) = (pos 0, grind (arith, ints))

pub ends_by_itself : (s : Snapshot) → EndsBeforeChange s.sheet s
ends_by_itself s = let by = some_day (period_end s.sheet.base s.period) in record {
  day = by.0;
  goes_on = record { base = refl; prices = λ sku before p early e. ap (option_map without_from) e; commitments = λ id c e. e };
  ends = by.1;
  named = λ at r e id is. refl;
}

module _ (g : Group) (acts : List SheetedAct) (history : IsSheetedHistory g (begun g) acts) (taken : AreTakenOver g.sheet acts) where
  -- what is exported of an agent stands in its journal
  pub names_of_export : (s : Snapshot) → Contains (sheeted_answers g (begun g) acts) (saying (HasExported s))
      → ((agent : ℕ) → NamesAllAlike s.sheet g.sheet ((sheeted_after g (begun g) acts).journals agent)) → NamesAllAlike s.sheet g.sheet s.batches
  names_of_export s has names at r e =
      names at.agent at r
      (above_too ((sheeted_after g (begun g) acts).journals at.agent) s.to at r
      (subst (λ (h : Holding). reading_at h at ≡ Some r) (are_journaled g acts history taken s has at.agent)
      (ap (option_and_then (λ (b : Batch). option_and_then reading_of (slice_get b.records at.index))) (held_own at.agent at.seq s.batches) ∙ e)))
