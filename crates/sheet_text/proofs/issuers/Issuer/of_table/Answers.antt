-- The steps of reading, and the first that fails.
use Rattle.std.proofs.Common.{refl}
use Rattle.std.proofs.lemmas.Result.{err_from_is_err_and}
use Rattle.metering_model.proofs.StepLaws.{ok_step_from}
use Rattle.sheet_text.specs.IssuerReading.{issuer_in}
use Rattle.sheet_text.proofs.Chains.{fails_here, fails_behind}
use Rattle.sheet_text.proofs.issuers.Issuer.of_table.Goals as goal

pub returns-in_err-provider-clause-gives : goal.returns-in_err-provider-clause-gives
unfolding issuer_in
returns-in_err-provider-clause-gives c =
    let told = err_from_is_err_and c.from_residual.result c.from_residual.ensures.1 in
    rw (told.1, told.2) (fails_here _ _ _ c.in_err-provider.ensures.gives)

pub returns-in_err-publisher-clause-gives : goal.returns-in_err-publisher-clause-gives
unfolding issuer_in
returns-in_err-publisher-clause-gives c =
    let told = err_from_is_err_and c.from_residual-in_err-publisher.result c.from_residual-in_err-publisher.ensures.1 in
    rw (told.1, told.2) (fails_behind _ _ _ _ c.in_ok-provider.ensures.gives (fails_here _ _ _ c.in_err-publisher.ensures.gives))

pub returns-in_err-issuer-clause-gives : goal.returns-in_err-issuer-clause-gives
unfolding issuer_in
returns-in_err-issuer-clause-gives c =
    let told = err_from_is_err_and c.from_residual-in_err-issuer.result c.from_residual-in_err-issuer.ensures.1 in
    rw (told.1, told.2) (
    fails_behind _ _ _ _ c.in_ok-provider.ensures.gives (
    fails_behind _ _ _ _ c.in_ok-publisher.ensures.gives (
    fails_here _ _ _ c.in_err-issuer.ensures.gives)))

pub returns-in_err-account_id-clause-gives : goal.returns-in_err-account_id-clause-gives
unfolding issuer_in
returns-in_err-account_id-clause-gives c =
    let told = err_from_is_err_and c.from_residual-in_err-account_id.result c.from_residual-in_err-account_id.ensures.1 in
    rw (told.1, told.2) (
    fails_behind _ _ _ _ c.in_ok-provider.ensures.gives (
    fails_behind _ _ _ _ c.in_ok-publisher.ensures.gives (
    fails_behind _ _ _ _ c.in_ok-issuer.ensures.gives (
    fails_here _ _ _ c.in_err-account_id.ensures.gives))))

pub returns-in_err-account_name-clause-gives : goal.returns-in_err-account_name-clause-gives
unfolding issuer_in
returns-in_err-account_name-clause-gives c =
    let told = err_from_is_err_and c.from_residual-in_err-account_name.result c.from_residual-in_err-account_name.ensures.1 in
    rw (told.1, told.2) (
    fails_behind _ _ _ _ c.in_ok-provider.ensures.gives (
    fails_behind _ _ _ _ c.in_ok-publisher.ensures.gives (
    fails_behind _ _ _ _ c.in_ok-issuer.ensures.gives (
    fails_behind _ _ _ _ c.in_ok-account_id.ensures.gives (
    fails_here _ _ _ c.in_err-account_name.ensures.gives)))))

pub returns-in_err-currency-clause-gives : goal.returns-in_err-currency-clause-gives
unfolding issuer_in
returns-in_err-currency-clause-gives c =
    let told = err_from_is_err_and c.from_residual-in_err-currency.result c.from_residual-in_err-currency.ensures.1 in
    rw (told.1, told.2) (
    fails_behind _ _ _ _ c.in_ok-provider.ensures.gives (
    fails_behind _ _ _ _ c.in_ok-publisher.ensures.gives (
    fails_behind _ _ _ _ c.in_ok-issuer.ensures.gives (
    fails_behind _ _ _ _ c.in_ok-account_id.ensures.gives (
    fails_behind _ _ _ _ c.in_ok-account_name.ensures.gives (
    fails_here _ _ _ c.in_err-currency.ensures.gives))))))

pub returns-in_err-other_service-clause-gives : goal.returns-in_err-other_service-clause-gives
unfolding issuer_in
returns-in_err-other_service-clause-gives c =
    let told = err_from_is_err_and c.from_residual-in_err-other_service.result c.from_residual-in_err-other_service.ensures.1 in
    rw (told.1, told.2) (
    fails_behind _ _ _ _ c.in_ok-provider.ensures.gives (
    fails_behind _ _ _ _ c.in_ok-publisher.ensures.gives (
    fails_behind _ _ _ _ c.in_ok-issuer.ensures.gives (
    fails_behind _ _ _ _ c.in_ok-account_id.ensures.gives (
    fails_behind _ _ _ _ c.in_ok-account_name.ensures.gives (
    fails_behind _ _ _ _ c.in_ok-currency.ensures.gives (
    fails_here _ _ _ c.in_err-other_service.ensures.gives)))))))

pub returns-clause-gives : goal.returns-clause-gives
unfolding issuer_in
returns-clause-gives c =
    ok_step_from _ _ _ _ c.in_ok-provider.ensures.gives (
    ok_step_from _ _ _ _ c.in_ok-publisher.ensures.gives (
    ok_step_from _ _ _ _ c.in_ok-issuer.ensures.gives (
    ok_step_from _ _ _ _ c.in_ok-account_id.ensures.gives (
    ok_step_from _ _ _ _ c.in_ok-account_name.ensures.gives (
    ok_step_from _ _ _ _ c.in_ok-currency.ensures.gives (
    ok_step_from _ _ _ _ c.in_ok-other_service.ensures.gives refl))))))
