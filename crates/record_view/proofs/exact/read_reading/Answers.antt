-- Where each field meets its rule, the reading is that of its fields, and lends them; the first that does not ends it.
use Rattle.std.proofs.Common.{None, sym, ap, rules}
use Rattle.record_view.specs.Parts.{lent}
use Rattle.record_view.specs.Inner.RecordSteps.{reading_in}
use Rattle.record_view.specs.Lent.{lent_texts}
use Rattle.record_view.proofs.RecordLaws.{all_steps, kind_broken, start_broken, end_broken, order_broken, resource_broken, key_broken, value_broken, sign_broken, commitment_broken, tags_broken, handed_on}
use Rattle.record_view.proofs.exact.read_reading.Goals as goal

pub returns-clause-ok : goal.returns-clause-ok
returns-clause-ok c =
    all_steps _ _ _ _ _ _ _ _ _ _ _ _ _ _ (sym c.in_ok-kind.ensures) (sym c.in_ok-start.ensures) (sym c.in_ok-end.ensures)
    (sym c.in_ok-check_order.ensures) (sym c.in_ok-check_text.ensures) (sym c.in_ok-check_text-2.ensures) (sym c.in_ok-check_key.ensures)
    (sym c.in_ok-value.ensures) (sym c.in_ok-check_sign.ensures) (sym c.in_ok-check_commitment.ensures) c.in_ok-tags.ensures.read

pub returns-clause-lent : goal.returns-clause-lent
returns-clause-lent c =
    let f = c.args.fields.now in
    ap (λ ts. lent_texts (lent f.start) (lent f.end) (lent f.account) (lent f.resource) (lent f.key) (lent f.commitment) ts None) c.in_ok-tags.ensures.lent

pub returns-in_err-kind-clause-err : goal.returns-in_err-kind-clause-err
returns-in_err-kind-clause-err c =
    handed_on _ c.from_residual.result _ c.from_residual.ensures
    (kind_broken _ _ _ _ _ _ _ _ _ _ (sym c.in_err-kind.ensures))

pub returns-in_err-start-clause-err : goal.returns-in_err-start-clause-err
returns-in_err-start-clause-err c =
    handed_on _ c.from_residual-in_err-start.result _ c.from_residual-in_err-start.ensures
    (start_broken _ _ _ _ _ _ _ _ _ _ _ (sym c.in_ok-kind.ensures) (sym c.in_err-start.ensures))

pub returns-in_err-end-clause-err : goal.returns-in_err-end-clause-err
returns-in_err-end-clause-err c =
    handed_on _ c.from_residual-in_err-end.result _ c.from_residual-in_err-end.ensures
    (end_broken _ _ _ _ _ _ _ _ _ _ _ _ (sym c.in_ok-kind.ensures) (sym c.in_ok-start.ensures) (sym c.in_err-end.ensures))

pub returns-in_err-check_order-clause-err : goal.returns-in_err-check_order-clause-err
returns-in_err-check_order-clause-err c =
    handed_on _ c.from_residual-in_err-check_order.result _ c.from_residual-in_err-check_order.ensures
    (order_broken _ _ _ _ _ _ _ _ _ _ _ _ _ (sym c.in_ok-kind.ensures) (sym c.in_ok-start.ensures) (sym c.in_ok-end.ensures) (sym c.in_err-check_order.ensures))

pub returns-in_err-check_text-clause-err : goal.returns-in_err-check_text-clause-err
unfolding reading_in
returns-in_err-check_text-clause-err c = search rules

pub returns-in_err-check_text-2-clause-err : goal.returns-in_err-check_text-2-clause-err
returns-in_err-check_text-2-clause-err c =
    handed_on _ c.from_residual-in_err-check_text-2.result _ c.from_residual-in_err-check_text-2.ensures
    (resource_broken _ _ _ _ _ _ _ _ _ _ _ _ _ (sym c.in_ok-kind.ensures) (sym c.in_ok-start.ensures) (sym c.in_ok-end.ensures) (sym c.in_ok-check_order.ensures)
    (sym c.in_ok-check_text.ensures) (sym c.in_err-check_text-2.ensures))

pub returns-in_err-check_key-clause-err : goal.returns-in_err-check_key-clause-err
returns-in_err-check_key-clause-err c =
    handed_on _ c.from_residual-in_err-check_key.result _ c.from_residual-in_err-check_key.ensures
    (key_broken _ _ _ _ _ _ _ _ _ _ _ _ _ (sym c.in_ok-kind.ensures) (sym c.in_ok-start.ensures) (sym c.in_ok-end.ensures) (sym c.in_ok-check_order.ensures)
    (sym c.in_ok-check_text.ensures) (sym c.in_ok-check_text-2.ensures) (sym c.in_err-check_key.ensures))

pub returns-in_err-value-clause-err : goal.returns-in_err-value-clause-err
returns-in_err-value-clause-err c =
    handed_on _ c.from_residual-in_err-value.result _ c.from_residual-in_err-value.ensures
    (value_broken _ _ _ _ _ _ _ _ _ _ _ _ _ (sym c.in_ok-kind.ensures) (sym c.in_ok-start.ensures) (sym c.in_ok-end.ensures) (sym c.in_ok-check_order.ensures)
    (sym c.in_ok-check_text.ensures) (sym c.in_ok-check_text-2.ensures) (sym c.in_ok-check_key.ensures) (sym c.in_err-value.ensures))

pub returns-in_err-check_sign-clause-err : goal.returns-in_err-check_sign-clause-err
returns-in_err-check_sign-clause-err c =
    handed_on _ c.from_residual-in_err-check_sign.result _ c.from_residual-in_err-check_sign.ensures
    (sign_broken _ _ _ _ _ _ _ _ _ _ _ _ _ _ (sym c.in_ok-kind.ensures) (sym c.in_ok-start.ensures) (sym c.in_ok-end.ensures) (sym c.in_ok-check_order.ensures)
    (sym c.in_ok-check_text.ensures) (sym c.in_ok-check_text-2.ensures) (sym c.in_ok-check_key.ensures) (sym c.in_ok-value.ensures) (sym c.in_err-check_sign.ensures))

pub returns-in_err-check_commitment-clause-err : goal.returns-in_err-check_commitment-clause-err
returns-in_err-check_commitment-clause-err c =
    handed_on _ c.from_residual-in_err-check_commitment.result _ c.from_residual-in_err-check_commitment.ensures
    (commitment_broken _ _ _ _ _ _ _ _ _ _ _ _ _ _ (sym c.in_ok-kind.ensures) (sym c.in_ok-start.ensures) (sym c.in_ok-end.ensures) (sym c.in_ok-check_order.ensures)
    (sym c.in_ok-check_text.ensures) (sym c.in_ok-check_text-2.ensures) (sym c.in_ok-check_key.ensures) (sym c.in_ok-value.ensures) (sym c.in_ok-check_sign.ensures) (sym c.in_err-check_commitment.ensures))

pub returns-in_err-tags-clause-err : goal.returns-in_err-tags-clause-err
returns-in_err-tags-clause-err c =
    handed_on _ c.from_residual-in_err-tags.result _ c.from_residual-in_err-tags.ensures
    (tags_broken _ _ _ _ _ _ _ _ _ _ _ _ _ _ (sym c.in_ok-kind.ensures) (sym c.in_ok-start.ensures) (sym c.in_ok-end.ensures) (sym c.in_ok-check_order.ensures)
    (sym c.in_ok-check_text.ensures) (sym c.in_ok-check_text-2.ensures) (sym c.in_ok-check_key.ensures) (sym c.in_ok-value.ensures) (sym c.in_ok-check_sign.ensures) (sym c.in_ok-check_commitment.ensures) c.in_err-tags.ensures.read)
