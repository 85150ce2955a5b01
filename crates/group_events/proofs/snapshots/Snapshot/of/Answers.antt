use Rattle.std.proofs.Common.{◌≡◌, refl, sym, ap, ◌∙◌, rules}
use Rattle.std.specs.Arc.{arc_value}
use Rattle.metering_model.specs.Holding.{up_to}
use Rattle.group_events.proofs.Parts.{exportable}
use Rattle.group_events.proofs.snapshots.Snapshot.of.Goals as goal

pub invariant_of-result : goal.invariant_of-result
invariant_of-result c =
    let part = c.in_ok-batches.ensures in
    let cut : c.deref.result.now ≡ arc_value c.args.to = search rules in (
      ap (λ s. s.agents) part ∙ sym c.requires.agents,
      exportable _ c.args.held.now.batches (ap (λ s. s.batches) part ∙ ap (λ t. up_to t c.args.held.now.batches) cut) c.requires.grows c.requires.whole c.requires.met,
    )

pub returns : goal.returns
returns c =
    let part = ap (λ s. s.batches) c.in_ok-batches.ensures in
    let cut : c.deref.result.now ≡ arc_value c.args.to = search rules in
    rw (part, cut) refl
