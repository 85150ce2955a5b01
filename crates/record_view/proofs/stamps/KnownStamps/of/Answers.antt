-- Texts that are those of the stamps have them, and others are not.
use Rattle.std.proofs.Common.{◌∙◌, sym, ap, ap₂}
use Rattle.std.proofs.lemmas.Bool.{false≢true}
use Rattle.std.proofs.lemmas.Slice.Eq.{bytes_eq-Decides}
use Rattle.std.specs.Option.{option_zip}
use Rattle.metering_model.specs.Dates.{stamp_in}
use Rattle.utc_calendar.proofs.StampTexts.{same_text}
use Rattle.record_view.proofs.stamps.KnownStamps.of.Goals as goal
use Rattle.record_view.proofs.stamps.KnownStamps.of.Goals.{else-eq-via-then-eq+else-eq-2, else-eq-via-else-eq}

pub returns-then-eq-2-clause-known : goal.returns-then-eq-2-clause-known
returns-then-eq-2-clause-known c =
    let known = c.args.self.now in
    let first = ap stamp_in (same_text c.args.first.now known.first.now (sym c.if-eq.ensures)) ∙ known.start_is in
    let second = ap stamp_in (same_text c.args.second.now known.second.now (sym c.if-eq-2.ensures)) ∙ known.end_is in
    ap₂ option_zip (sym first) (sym second)

pub returns-else-eq-clause-none : goal.returns-else-eq-clause-none
returns-else-eq-clause-none c = λ same.
    let known = c.args.self.now in
    elim c.else-eq.branch [
      | else-eq-via-then-eq+else-eq-2 w ↦ false≢true (w.if-eq-2.ensures ∙ (bytes_eq-Decides c.args.second.now known.second.now).1 same.1)
      | else-eq-via-else-eq w ↦ false≢true (w.if-eq.ensures ∙ (bytes_eq-Decides c.args.first.now known.first.now).1 same.0)
    ]
