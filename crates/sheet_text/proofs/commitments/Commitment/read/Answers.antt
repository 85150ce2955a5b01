-- The steps of reading, and the first that fails.
use Rattle.std.proofs.Common.{refl}
use Rattle.std.proofs.lemmas.Result.{err_from_is_err_and}
use Rattle.metering_model.proofs.StepLaws.{ok_step_from}
use Rattle.sheet_text.specs.RowReading.{commitment_in}
use Rattle.sheet_text.proofs.Chains.{fails_here, fails_behind}
use Rattle.sheet_text.proofs.commitments.Commitment.read.Goals as goal

pub returns-in_err-id : goal.returns-in_err-id
unfolding commitment_in
returns-in_err-id c =
    let told = err_from_is_err_and c.from_residual.result c.from_residual.ensures.1 in
    rw (told.1, told.2) (fails_here _ _ _ c.in_err-id.ensures.gives)

pub returns-in_err-sku : goal.returns-in_err-sku
unfolding commitment_in
returns-in_err-sku c =
    let told = err_from_is_err_and c.from_residual-in_err-sku.result c.from_residual-in_err-sku.ensures.1 in
    rw (told.1, told.2) (fails_behind _ _ _ _ c.in_ok-id.ensures.gives (fails_here _ _ _ c.in_err-sku.ensures.gives))

pub returns-in_err-buy : goal.returns-in_err-buy
unfolding commitment_in
returns-in_err-buy c =
    let told = err_from_is_err_and c.from_residual-in_err-buy.result c.from_residual-in_err-buy.ensures.1 in
    rw (told.1, told.2) (
    fails_behind _ _ _ _ c.in_ok-id.ensures.gives (
    fails_behind _ _ _ _ c.in_ok-sku.ensures.gives (
    fails_here _ _ _ c.in_err-buy.ensures.gives)))

pub returns-in_err-category : goal.returns-in_err-category
unfolding commitment_in
returns-in_err-category c =
    let told = err_from_is_err_and c.from_residual-in_err-category.result c.from_residual-in_err-category.ensures.1 in
    rw (told.1, told.2) (
    fails_behind _ _ _ _ c.in_ok-id.ensures.gives (
    fails_behind _ _ _ _ c.in_ok-sku.ensures.gives (
    fails_behind _ _ _ _ c.in_ok-buy.ensures.gives (
    fails_here _ _ _ c.in_err-category.ensures))))

pub returns-in_err-kind : goal.returns-in_err-kind
unfolding commitment_in
returns-in_err-kind c =
    let told = err_from_is_err_and c.from_residual-in_err-kind.result c.from_residual-in_err-kind.ensures.1 in
    rw (told.1, told.2) (
    fails_behind _ _ _ _ c.in_ok-id.ensures.gives (
    fails_behind _ _ _ _ c.in_ok-sku.ensures.gives (
    fails_behind _ _ _ _ c.in_ok-buy.ensures.gives (
    fails_behind _ _ _ _ c.in_ok-category.ensures (
    fails_here _ _ _ c.in_err-kind.ensures.gives)))))

pub returns-in_err-rate : goal.returns-in_err-rate
unfolding commitment_in
returns-in_err-rate c =
    let told = err_from_is_err_and c.from_residual-in_err-rate.result c.from_residual-in_err-rate.ensures.1 in
    rw (told.1, told.2) (
    fails_behind _ _ _ _ c.in_ok-id.ensures.gives (
    fails_behind _ _ _ _ c.in_ok-sku.ensures.gives (
    fails_behind _ _ _ _ c.in_ok-buy.ensures.gives (
    fails_behind _ _ _ _ c.in_ok-category.ensures (
    fails_behind _ _ _ _ c.in_ok-kind.ensures.gives (
    fails_here _ _ _ c.in_err-rate.ensures))))))

pub returns : goal.returns
unfolding commitment_in
returns c =
    ok_step_from _ _ _ _ c.in_ok-id.ensures.gives (
    ok_step_from _ _ _ _ c.in_ok-sku.ensures.gives (
    ok_step_from _ _ _ _ c.in_ok-buy.ensures.gives (
    ok_step_from _ _ _ _ c.in_ok-category.ensures (
    ok_step_from _ _ _ _ c.in_ok-kind.ensures.gives (
    ok_step_from _ _ _ _ c.in_ok-rate.ensures refl)))))
