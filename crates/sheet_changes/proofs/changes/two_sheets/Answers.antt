use Rattle.std.proofs.Common.{Err, Ok, ◌∙◌, ap, subst, sym}
use Rattle.std.proofs.lemmas.Result.{IfErr-weaker, IfOk-weaker}
use Rattle.metering_model.specs.SheetRules.{IsSheet}
use Rattle.sheet_changes.proofs.SaidLaws.{two_of}
use Rattle.sheet_changes.proofs.changes.two_sheets.Goals as goal

pub returns-in-Ok-read_sheet : goal.returns-in-Ok-read_sheet
returns-in-Ok-read_sheet c = record {
  taken =
      IfOk-weaker c.with_last.result _ _ (λ both is.
      two_of c.args.text.now c.in-Ok.unread c.in-Ok-read_sheet.behind c.in-Ok-read_sheet.old (Ok both.1) c.in-Ok.ensures.whole c.in-Ok-read_sheet.ensures.taken is.1
      ∙ ap (λ old. Ok (old, both.1)) (sym is.0)) c.with_last.ensures.taken;
  refused =
      IfErr-weaker c.with_last.result _ _ (λ fault refused other.
      two_of c.args.text.now c.in-Ok.unread c.in-Ok-read_sheet.behind c.in-Ok-read_sheet.old (Err fault) c.in-Ok.ensures.whole c.in-Ok-read_sheet.ensures.taken (refused other)) c.with_last.ensures.refused;
  rules = IfOk-weaker c.with_last.result _ _ (λ both is. (subst IsSheet (sym is.0) c.in-Ok-read_sheet.ensures.rules, is.2)) c.with_last.ensures.taken;
}
