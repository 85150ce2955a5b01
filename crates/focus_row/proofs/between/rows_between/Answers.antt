use Rattle.std.proofs.Common.{ap, ◌∙◌}
use Rattle.std.proofs.lemmas.List.Folds.{flat_map-map}
use Rattle.metering_model.specs.Sheet.{Issuer}
use Rattle.metering_model.specs.Rows.{rows}
use Rattle.focus_row.proofs.StopLaws.{rows_start}
use Rattle.focus_row.proofs.between.rows_between.Goals as goal

pub returns : goal.returns
returns c =
    flat_map-map (λ rs. rs) _ c.in_ok-places.places.items
    ∙ c.in_ok-places.ensures.all
    ∙ rows_start _ c.agents-agents.ensures.stored.is_holding
    ∙ ap (λ (issuer : Issuer). rows c.args.sheet.now issuer c.args.store.now.batches c.args.period c.args.from.now c.args.to.now) c.new.ensures.issuer
