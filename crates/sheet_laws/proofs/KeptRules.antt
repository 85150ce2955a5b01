-- A sheet that prices all that another does breaks no rule of journals that meet those under the other.
use Rattle.std.proofs.Common.{◌≡◌, Option, Some, None, ◌∙◌}
use Rattle.metering_model.specs.Sheet.{Sheet}
use Rattle.metering_model.specs.Holding.{Holding, records_in_order}
use Rattle.metering_model.specs.JournalRules.{MeetsJournalRules}
use Rattle.metering_model.specs.declared.BrokenRule.{BrokenRule}
use Rattle.metering_model.specs.declared.BrokenRule.TheVariants.{Unpriced}
use Rattle.sheet_laws.specs.Runs.{PricesAllOf}
use Rattle.sheet_laws.proofs.TwoRuns.{priced_broken}

not_unpriced : (o : Option BrokenRule) → o ≡ None → o ≡ Some Unpriced → ⊥
not_unpriced o none some = absurd (cc)

pub rules_kept : (old new : Sheet) (h : Holding) → PricesAllOf old new → MeetsJournalRules old h → MeetsJournalRules new h
rules_kept old new h prices meets = record {
  is_holding = meets.is_holding;
  no_gap = meets.no_gap;
  none_broken = priced_broken old new h prices (records_in_order h) (not_unpriced _ meets.none_broken) ∙ meets.none_broken;
}
