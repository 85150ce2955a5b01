use Rattle.std.proofs.Common.{◌∷◌, codes, sym, ap, ◌∙◌}
use Rattle.std.proofs.lemmas.List.{take_rest}
use Rattle.metering_model.specs.BatchReading.{fields_in}
use Rattle.metering_model.proofs.FieldLaws.{same_read}
use Rattle.packet_text.proofs.PartsRead.{behind_p1}
use Rattle.packet_text.proofs.reading.behind_format.Goals as goal

pub returns-then-is_same : goal.returns-then-is_same
returns-then-is_same c =
    let line = c.args.line.now in
    behind_p1 line (same_read _ _ (sym c.is_same.ensures ∙ c.if-is_same.true)) ∙ ap (λ t. codes "P1" ∷ fields_in t) (sym (take_rest line 3))

pub returns-then-is_same-2 : goal.returns-then-is_same-2
returns-then-is_same-2 c =
    c.in-Some.ensures ∙ ap (λ v. v ∷ fields_in c.in-Some.rest.now) (same_read _ _ (sym c.is_same-2.ensures ∙ c.if-is_same-2.true))
