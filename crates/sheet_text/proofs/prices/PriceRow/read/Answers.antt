-- The steps of reading, and the first that fails.
use Rattle.std.proofs.Common.{refl}
use Rattle.std.proofs.lemmas.Result.{err_from_is_err_and}
use Rattle.metering_model.proofs.StepLaws.{ok_step_from}
use Rattle.sheet_text.specs.RowReading.{price_row_in}
use Rattle.sheet_text.proofs.Chains.{fails_here, fails_behind}
use Rattle.sheet_text.proofs.prices.PriceRow.read.Goals as goal

pub returns-in_err-sku : goal.returns-in_err-sku
unfolding price_row_in
returns-in_err-sku c =
    let told = err_from_is_err_and c.from_residual.result c.from_residual.ensures.1 in
    rw (told.1, told.2) (fails_here _ _ _ c.in_err-sku.ensures.gives)

pub returns-in_err-price_id : goal.returns-in_err-price_id
unfolding price_row_in
returns-in_err-price_id c =
    let told = err_from_is_err_and c.from_residual-in_err-price_id.result c.from_residual-in_err-price_id.ensures.1 in
    rw (told.1, told.2) (fails_behind _ _ _ _ c.in_ok-sku.ensures.gives (fails_here _ _ _ c.in_err-price_id.ensures.gives))

pub returns-in_err-from : goal.returns-in_err-from
unfolding price_row_in
returns-in_err-from c =
    let told = err_from_is_err_and c.from_residual-in_err-from.result c.from_residual-in_err-from.ensures.1 in
    rw (told.1, told.2) (
    fails_behind _ _ _ _ c.in_ok-sku.ensures.gives (
    fails_behind _ _ _ _ c.in_ok-price_id.ensures.gives (
    fails_here _ _ _ c.in_err-from.ensures)))

pub returns-in_err-description : goal.returns-in_err-description
unfolding price_row_in
returns-in_err-description c =
    let told = err_from_is_err_and c.from_residual-in_err-description.result c.from_residual-in_err-description.ensures.1 in
    rw (told.1, told.2) (
    fails_behind _ _ _ _ c.in_ok-sku.ensures.gives (
    fails_behind _ _ _ _ c.in_ok-price_id.ensures.gives (
    fails_behind _ _ _ _ c.in_ok-from.ensures (
    fails_here _ _ _ c.in_err-description.ensures.gives))))

pub returns-in_err-service : goal.returns-in_err-service
unfolding price_row_in
returns-in_err-service c =
    let told = err_from_is_err_and c.from_residual-in_err-service.result c.from_residual-in_err-service.ensures.1 in
    rw (told.1, told.2) (
    fails_behind _ _ _ _ c.in_ok-sku.ensures.gives (
    fails_behind _ _ _ _ c.in_ok-price_id.ensures.gives (
    fails_behind _ _ _ _ c.in_ok-from.ensures (
    fails_behind _ _ _ _ c.in_ok-description.ensures.gives (
    fails_here _ _ _ c.in_err-service.ensures.gives)))))

pub returns-in_err-category : goal.returns-in_err-category
unfolding price_row_in
returns-in_err-category c =
    let told = err_from_is_err_and c.from_residual-in_err-category.result c.from_residual-in_err-category.ensures.1 in
    rw (told.1, told.2) (
    fails_behind _ _ _ _ c.in_ok-sku.ensures.gives (
    fails_behind _ _ _ _ c.in_ok-price_id.ensures.gives (
    fails_behind _ _ _ _ c.in_ok-from.ensures (
    fails_behind _ _ _ _ c.in_ok-description.ensures.gives (
    fails_behind _ _ _ _ c.in_ok-service.ensures.gives (
    fails_here _ _ _ c.in_err-category.ensures))))))

pub returns-in_err-consumed_unit : goal.returns-in_err-consumed_unit
unfolding price_row_in
returns-in_err-consumed_unit c =
    let told = err_from_is_err_and c.from_residual-in_err-consumed_unit.result c.from_residual-in_err-consumed_unit.ensures.1 in
    rw (told.1, told.2) (
    fails_behind _ _ _ _ c.in_ok-sku.ensures.gives (
    fails_behind _ _ _ _ c.in_ok-price_id.ensures.gives (
    fails_behind _ _ _ _ c.in_ok-from.ensures (
    fails_behind _ _ _ _ c.in_ok-description.ensures.gives (
    fails_behind _ _ _ _ c.in_ok-service.ensures.gives (
    fails_behind _ _ _ _ c.in_ok-category.ensures (
    fails_here _ _ _ c.in_err-consumed_unit.ensures.gives)))))))

pub returns-in_err-pricing_unit : goal.returns-in_err-pricing_unit
unfolding price_row_in
returns-in_err-pricing_unit c =
    let told = err_from_is_err_and c.from_residual-in_err-pricing_unit.result c.from_residual-in_err-pricing_unit.ensures.1 in
    rw (told.1, told.2) (
    fails_behind _ _ _ _ c.in_ok-sku.ensures.gives (
    fails_behind _ _ _ _ c.in_ok-price_id.ensures.gives (
    fails_behind _ _ _ _ c.in_ok-from.ensures (
    fails_behind _ _ _ _ c.in_ok-description.ensures.gives (
    fails_behind _ _ _ _ c.in_ok-service.ensures.gives (
    fails_behind _ _ _ _ c.in_ok-category.ensures (
    fails_behind _ _ _ _ c.in_ok-consumed_unit.ensures.gives (
    fails_here _ _ _ c.in_err-pricing_unit.ensures.gives))))))))

pub returns-in_err-per : goal.returns-in_err-per
unfolding price_row_in
returns-in_err-per c =
    let told = err_from_is_err_and c.from_residual-in_err-per.result c.from_residual-in_err-per.ensures.1 in
    rw (told.1, told.2) (
    fails_behind _ _ _ _ c.in_ok-sku.ensures.gives (
    fails_behind _ _ _ _ c.in_ok-price_id.ensures.gives (
    fails_behind _ _ _ _ c.in_ok-from.ensures (
    fails_behind _ _ _ _ c.in_ok-description.ensures.gives (
    fails_behind _ _ _ _ c.in_ok-service.ensures.gives (
    fails_behind _ _ _ _ c.in_ok-category.ensures (
    fails_behind _ _ _ _ c.in_ok-consumed_unit.ensures.gives (
    fails_behind _ _ _ _ c.in_ok-pricing_unit.ensures.gives (
    fails_here _ _ _ c.in_err-per.ensures.gives)))))))))

pub returns-in_err-list : goal.returns-in_err-list
unfolding price_row_in
returns-in_err-list c =
    let told = err_from_is_err_and c.from_residual-in_err-list.result c.from_residual-in_err-list.ensures.1 in
    rw (told.1, told.2) (
    fails_behind _ _ _ _ c.in_ok-sku.ensures.gives (
    fails_behind _ _ _ _ c.in_ok-price_id.ensures.gives (
    fails_behind _ _ _ _ c.in_ok-from.ensures (
    fails_behind _ _ _ _ c.in_ok-description.ensures.gives (
    fails_behind _ _ _ _ c.in_ok-service.ensures.gives (
    fails_behind _ _ _ _ c.in_ok-category.ensures (
    fails_behind _ _ _ _ c.in_ok-consumed_unit.ensures.gives (
    fails_behind _ _ _ _ c.in_ok-pricing_unit.ensures.gives (
    fails_behind _ _ _ _ c.in_ok-per.ensures.gives (
    fails_here _ _ _ c.in_err-list.ensures))))))))))

pub returns-in_err-contracted : goal.returns-in_err-contracted
unfolding price_row_in
returns-in_err-contracted c =
    let told = err_from_is_err_and c.from_residual-in_err-contracted.result c.from_residual-in_err-contracted.ensures.1 in
    rw (told.1, told.2) (
    fails_behind _ _ _ _ c.in_ok-sku.ensures.gives (
    fails_behind _ _ _ _ c.in_ok-price_id.ensures.gives (
    fails_behind _ _ _ _ c.in_ok-from.ensures (
    fails_behind _ _ _ _ c.in_ok-description.ensures.gives (
    fails_behind _ _ _ _ c.in_ok-service.ensures.gives (
    fails_behind _ _ _ _ c.in_ok-category.ensures (
    fails_behind _ _ _ _ c.in_ok-consumed_unit.ensures.gives (
    fails_behind _ _ _ _ c.in_ok-pricing_unit.ensures.gives (
    fails_behind _ _ _ _ c.in_ok-per.ensures.gives (
    fails_behind _ _ _ _ c.in_ok-list.ensures (
    fails_here _ _ _ c.in_err-contracted.ensures)))))))))))

pub returns : goal.returns
unfolding price_row_in
returns c =
    ok_step_from _ _ _ _ c.in_ok-sku.ensures.gives (
    ok_step_from _ _ _ _ c.in_ok-price_id.ensures.gives (
    ok_step_from _ _ _ _ c.in_ok-from.ensures (
    ok_step_from _ _ _ _ c.in_ok-description.ensures.gives (
    ok_step_from _ _ _ _ c.in_ok-service.ensures.gives (
    ok_step_from _ _ _ _ c.in_ok-category.ensures (
    ok_step_from _ _ _ _ c.in_ok-consumed_unit.ensures.gives (
    ok_step_from _ _ _ _ c.in_ok-pricing_unit.ensures.gives (
    ok_step_from _ _ _ _ c.in_ok-per.ensures.gives (
    ok_step_from _ _ _ _ c.in_ok-list.ensures (
    ok_step_from _ _ _ _ c.in_ok-contracted.ensures refl))))))))))
