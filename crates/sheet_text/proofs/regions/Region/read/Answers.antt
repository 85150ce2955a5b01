-- The steps of reading, and the first that fails.
use Rattle.std.proofs.Common.{refl}
use Rattle.std.proofs.lemmas.Result.{err_from_is_err_and}
use Rattle.metering_model.proofs.StepLaws.{ok_step_from}
use Rattle.sheet_text.specs.RowReading.{region_in}
use Rattle.sheet_text.proofs.Chains.{fails_here, fails_behind}
use Rattle.sheet_text.proofs.regions.Region.read.Goals as goal

pub returns-in_err-id : goal.returns-in_err-id
unfolding region_in
returns-in_err-id c =
    let told = err_from_is_err_and c.from_residual.result c.from_residual.ensures.1 in
    rw (told.1, told.2) (fails_here _ _ _ c.in_err-id.ensures.gives)

pub returns-in_err-name : goal.returns-in_err-name
unfolding region_in
returns-in_err-name c =
    let told = err_from_is_err_and c.from_residual-in_err-name.result c.from_residual-in_err-name.ensures.1 in
    rw (told.1, told.2) (fails_behind _ _ _ _ c.in_ok-id.ensures.gives (fails_here _ _ _ c.in_err-name.ensures.gives))

pub returns : goal.returns
unfolding region_in
returns c = ok_step_from _ _ _ _ c.in_ok-id.ensures.gives (ok_step_from _ _ _ _ c.in_ok-name.ensures.gives refl)
