-- One more line.
use Rattle.std.proofs.Common.{◌∷◌, ◌++◌, get_or, map, refl, sym, ap, arith, subst, ◌∙◌, append_assoc, rules}
use Rattle.std.specs.List.{flat_map}
use Rattle.std.proofs.lemmas.List.{get_or_default, take_all}
use Rattle.metering_model.specs.File.{row_text}
use Rattle.focus_row.specs.Rows.{model_row}
use Rattle.focus_csv.specs.Inner.Pieces.{AreOf}
use Rattle.std.proofs.lemmas.Result.{IfOk-from_err}
use Rattle.focus_csv.proofs.BeginningLaws.{on_err}
use Rattle.focus_csv.proofs.RowBefore.{itself_is}
use Rattle.focus_csv.proofs.RowTexts.{rows_more}
use Rattle.focus_csv.proofs.lines.put_lines.Goals as goal

pub loop-i-init : goal.loop-i-init
loop-i-init c = search rules

pub row_at-row-requires : goal.row_at-row-requires
row_at-row-requires c = c.loop-i-test.true

pub set-requires : goal.set-requires
set-requires c = c.loop-i.invariant.held

pub returns-in_err-set-clause-put : goal.returns-in_err-set-clause-put
returns-in_err-set-clause-put c = IfOk-from_err c.from_residual.result _ c.from_residual.ensures.0

pub returns-in_err-set-clause-held : goal.returns-in_err-set-clause-held
returns-in_err-set-clause-held c = IfOk-from_err c.from_residual.result _ c.from_residual.ensures.0

pub returns-in_err-set-clause-forgotten : goal.returns-in_err-set-clause-forgotten
returns-in_err-set-clause-forgotten c = on_err c.from_residual.result c.in_err-set.ensures.forgotten

pub returns-in_default-clause-put : goal.returns-in_default-clause-put
returns-in_default-clause-put c = tt

pub returns-in_default-clause-held : goal.returns-in_default-clause-held
returns-in_default-clause-held c = tt

pub returns-in_default-clause-begins : goal.returns-in_default-clause-begins
returns-in_default-clause-begins c = (_, c.in_default.ensures.kept ∙ c.loop-i.invariant.text)

pub returns-in_default-clause-forgotten : goal.returns-in_default-clause-forgotten
returns-in_default-clause-forgotten c = ap (λ p. p.are_held) c.forget.ensures

pub loop-i-preserved : goal.loop-i-preserved
loop-i-preserved c =
    let rows = c.args.rows.now in
    let last = c.args.last.now in
    let row = c.row_at-row.result.now in
    let before = c.args.text.now.items in
    record {
      text = c.in-Ok.ensures.put (model_row row) c.in_ok-set.ensures.of
          ∙ ap (λ t. t ++ row_text (model_row row)) c.loop-i.invariant.text
          ∙ append_assoc before _ (row_text (model_row row))
          ∙ ap (λ t. before ++ t) (rows_more rows c.loop-i.i row c.loop-i-test.true c.row_at-row.ensures);
      before = c.row_at-row.ensures ∙ get_or_default rows c.loop-i.i row last c.loop-i-test.true ∙ sym (itself_is last rows c.loop-i.i _ refl);
      held = λ _. c.in_ok-set.ensures.of;
    }

pub returns-in_err-set-clause-begins : goal.returns-in_err-set-clause-begins
returns-in_err-set-clause-begins c = on_err c.from_residual.result (_, c.loop-i.invariant.text)

pub returns-clause-put : goal.returns-clause-put
returns-clause-put c =
    let rows = c.args.rows.now in
    c.loop-i.invariant.text
    ∙ ap (λ rs. c.args.text.now.items ++ flat_map row_text (map model_row rs)) (take_all c.loop-i.i rows (omega (arith, c.loop-i-test.false)))

pub returns-clause-begins : goal.returns-clause-begins
returns-clause-begins c = tt

pub returns-clause-forgotten : goal.returns-clause-forgotten
returns-clause-forgotten c = tt

pub returns-clause-held : goal.returns-clause-held
returns-clause-held c held =
    let so = c.loop-i.invariant in
    subst (λ n. AreOf c.loop-i.pieces (model_row (get_or (c.args.last.now ∷ c.args.rows.now) n c.args.last.now)))
    (omega (arith, c.loop-i-test.false, c.loop-i.auto.i-end)) (subst (λ r. AreOf c.loop-i.pieces (model_row r)) so.before (so.held held))
