-- What is asked of the records tells which of them breaks a rule first.
use Rattle.std.proofs.Common.{◌≡◌, ℕ, ◌+◌, List, [], ◌∷◌, map, refl, ap₂, Some, None}
use Rattle.metering_model.specs.Batch.{Record, Reads, Amends}
use Rattle.metering_model.specs.Sheet.{Sheet}
use Rattle.metering_model.specs.Holding.{Holding, Position}
use Rattle.metering_model.specs.JournalRules.{broken_by, first_broken}
use Rattle.batch_store.specs.Asked.{asked_in}
use Rattle.journal_rules.specs.FirstBad.{first_bad}
use Rattle.journal_rules.specs.Inner.Left.{placed_from}
use Rattle.journal_rules.proofs.BrokenLaws.{or_later}

module _ (sheet : Sheet) (h : Holding) where
  same_rule : (at : Position) (what : Record) → broken_by sheet h at what ≡ broken_by sheet h at (asked_in what)
  same_rule at (Reads r) = refl
  same_rule at (Amends seq index value) = refl

  pub same_broken : (agent seq index : ℕ) (rs : List Record)
      → first_broken sheet h (placed_from agent seq index rs) ≡ first_broken sheet h (placed_from agent seq index (map asked_in rs))
  same_broken agent seq index [] = refl
  same_broken agent seq index (r ∷ rs) =
      ap₂ or_later (same_rule (record { agent = agent; seq = seq; index = index }) r) (same_broken agent seq (index + 1) rs)

  pub same_bad : (agent seq index : ℕ) (rs : List Record)
      → first_bad sheet h (placed_from agent seq index rs) ≡ first_bad sheet h (placed_from agent seq index (map asked_in rs))
  same_bad agent seq index [] = refl
  same_bad agent seq index (r ∷ rs) =
      let here : Position = record { agent = agent; seq = seq; index = index } in
      ap₂ (λ rule later. elim rule [ Some broken ↦ Some here | None ↦ later ]) (same_rule here r) (same_bad agent seq (index + 1) rs)
