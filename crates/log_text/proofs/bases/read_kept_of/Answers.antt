-- The text has as many lines as it is read from.
use Rattle.std.proofs.Common.{◌≡◌, Ok, sym, ap, ◌∙◌, arith}
use Rattle.metering_model.specs.KeptText.{KeptAmong}
use Rattle.log_text.proofs.ReadSections.{kept_of}
use Rattle.log_text.proofs.bases.read_kept_of.Goals as goal

pub returns : goal.returns
returns c =
    let agents = c.agents.ensures.value ∙ ap (λ (k : KeptAmong). k.agents) c.parts.view_is in
    let same : c.agents.result ≡ c.args.agents = omega arith in
    (kept_of c.args.agents c.args.lines c.args.text.now c.requires c.into_parts-parts.result c.agents.result (c.in-Ok.ensures.ok ∙ ap Ok (sym c.into_parts-parts.ensures.value)) agents same, c.into_parts-parts.ensures.kept)
