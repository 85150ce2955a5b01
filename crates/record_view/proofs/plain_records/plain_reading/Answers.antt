-- The steps that the plain fields have met already, and those that were taken here.
use Rattle.std.proofs.Common.{Some, None, map, ◌∙◌, sym, ap}
use Rattle.record_view.specs.Parts.{lent}
use Rattle.record_view.specs.TagTexts.{tag_of}
use Rattle.record_view.specs.Inner.RecordSteps.{order_step, sign_step, commitment_step}
use Rattle.record_view.specs.Lent.{lent_texts}
use Rattle.record_view.proofs.TagLaws.{tags_read}
use Rattle.record_view.proofs.RecordLaws.{all_steps, stamp_met, text_met, tags_met}
use Rattle.record_view.proofs.ReadingSteps.{not_read, clash, clash_from, clash_from_both}
use Rattle.record_view.proofs.plain_records.plain_reading.Goals as goal

pub returns-clause-stamps : goal.returns-clause-stamps
returns-clause-stamps c = (stamp_met _ _ c.in_ok-start.ensures.ok.0, stamp_met _ _ c.in_ok-start.ensures.ok.1)

pub returns-clause-ok : goal.returns-clause-ok
returns-clause-ok c =
    let p = c.requires in
    let tags = tags_read (lent c.args.plain.now.tags) p.tags ∙ ap (λ ts. Some (map tag_of ts)) (sym c.known-tags.ensures) in
    all_steps _ _ _ _ _ _ _ _ _ _ _ _ _ _ (sym c.in_ok-kind.ensures) c.in_ok-start.ensures.ok.0 c.in_ok-start.ensures.ok.1
    (sym c.in_ok-check_order.ensures) (text_met _ p.account) (text_met _ p.resource) (sym c.in_ok-check_plain_key.ensures)
    (sym c.in_ok-value.ensures) (sym c.in_ok-check_sign.ensures) (sym c.in_ok-check_plain_commitment.ensures) (tags_met _ _ tags)

pub returns-clause-lent : goal.returns-clause-lent
returns-clause-lent c =
    let f = c.args.plain.now in
    ap (λ ts. lent_texts (lent f.start) (lent f.end) (lent f.account) (lent f.resource) (lent f.key) (lent f.commitment) ts None) c.known-tags.ensures

-- ---- where one step does not answer, the model reads no record

pub returns-in_err-kind-clause-err : goal.returns-in_err-kind-clause-err
returns-in_err-kind-clause-err c = not_read _ c.args.letter.now c.args.plain.now (λ a. clash _ _ _ a.kind (sym c.in_err-kind.ensures))

pub returns-in_err-start-clause-err : goal.returns-in_err-start-clause-err
returns-in_err-start-clause-err c =
    not_read _ c.args.letter.now c.args.plain.now (λ a. c.in_err-start.ensures.err a.start_of a.end_of a.start a.end)

pub returns-in_err-check_order-clause-err : goal.returns-in_err-check_order-clause-err
returns-in_err-check_order-clause-err c =
    not_read _ c.args.letter.now c.args.plain.now
    (λ a. clash_from_both order_step _ _ _ _ _ _ _ _ a.start c.in_ok-start.ensures.ok.0 a.end c.in_ok-start.ensures.ok.1 a.order (sym c.in_err-check_order.ensures))

pub returns-in_err-check_plain_key-clause-err : goal.returns-in_err-check_plain_key-clause-err
returns-in_err-check_plain_key-clause-err c =
    not_read _ c.args.letter.now c.args.plain.now (λ a. clash _ _ _ a.key (sym c.in_err-check_plain_key.ensures))

pub returns-in_err-value-clause-err : goal.returns-in_err-value-clause-err
returns-in_err-value-clause-err c = not_read _ c.args.letter.now c.args.plain.now (λ a. clash _ _ _ a.value (sym c.in_err-value.ensures))

pub returns-in_err-check_sign-clause-err : goal.returns-in_err-check_sign-clause-err
returns-in_err-check_sign-clause-err c =
    not_read _ c.args.letter.now c.args.plain.now
    (λ a. clash_from_both sign_step _ _ _ _ _ _ _ _ a.kind (sym c.in_ok-kind.ensures) a.value (sym c.in_ok-value.ensures) a.sign (sym c.in_err-check_sign.ensures))

pub returns-in_err-check_plain_commitment-clause-err : goal.returns-in_err-check_plain_commitment-clause-err
returns-in_err-check_plain_commitment-clause-err c =
    not_read _ c.args.letter.now c.args.plain.now
    (λ a. clash_from (λ k. commitment_step k c.args.plain.now.commitment.text.now) _ _ _ _ _ a.kind (sym c.in_ok-kind.ensures) a.commitment (sym c.in_err-check_plain_commitment.ensures))
