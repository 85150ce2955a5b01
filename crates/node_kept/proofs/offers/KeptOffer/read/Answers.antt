use Rattle.std.proofs.Common.{Ok, sym, ap, ◌∙◌}
use Rattle.std.specs.Arc.{arc_value}
use Rattle.metering_model.specs.KeptText.{kept_in}
use Rattle.node_kept.proofs.Limits.{good_offer}
use Rattle.node_kept.proofs.WholeTexts.{read_begins}
use Rattle.node_kept.proofs.offers.KeptOffer.read.Goals as goal

pub returns-in-Ok-new-clause-read : goal.returns-in-Ok-new-clause-read
returns-in-Ok-new-clause-read c =
    good_offer c.args.text.items (arc_value c.in-Ok-new.kept)
    (ap kept_in (sym c.deref.ensures.value) ∙ c.in-Ok.ensures.ok ∙ ap Ok (sym c.in-Ok-new.ensures.ok))

pub returns-in-Ok-clause-want : goal.returns-in-Ok-clause-want
returns-in-Ok-clause-want c = read_begins c.args.text.items c.in-Ok.kept (ap kept_in (sym c.deref.ensures.value) ∙ c.in-Ok.ensures.ok)
