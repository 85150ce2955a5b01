-- The prices that are listed, one day more.
use Rattle.std.proofs.Common.{ℕ, List, [], ◌∷◌, ◌++◌, refl, ap, sym, ◌∙◌}
use Rattle.std.proofs.lemmas.List.{append-nil, append_assoc}
use Rattle.metering_model.specs.Dates.{IsDayText}
use Rattle.metering_model.specs.Sheet.{Sheet}
use Rattle.sheet_changes.specs.FieldChanges.{ListsPrices, PriceDay, price_lines}

pub lists_more : (old new : Sheet) (days : List PriceDay) (day : PriceDay) (prices date : List ℕ) → IsDayText date day.day → ListsPrices old new days prices → ListsPrices old new (days ++ day ∷ []) (prices ++ price_lines old new day date)
lists_more old new [] day prices date is none = (date, [], is, refl, ap (λ t. t ++ price_lines old new day date) none ∙ sym (append-nil (price_lines old new day date)))
lists_more old new (d ∷ ds) day prices date is lists =
    let first = price_lines old new d lists.0 in
    (lists.0, lists.1 ++ price_lines old new day date, lists.2, lists_more old new ds day lists.1 date is lists.3, ap (λ t. t ++ price_lines old new day date) lists.4 ∙ append_assoc first lists.1 (price_lines old new day date))
