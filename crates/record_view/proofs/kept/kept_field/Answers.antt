-- Each of the first nine spans lies in the source.
use Rattle.std.proofs.Common.{◌<◌, length, take, subst, arith}
use Rattle.std.proofs.lemmas.List.{get_or-take, length-take-le}
use Rattle.record_view.specs.Inner.KeptFields.{LiesWithin}
use Rattle.record_view.proofs.kept.kept_field.Goals as goal

pub field_at-requires-clause-ordered : goal.field_at-requires-clause-ordered
field_at-requires-clause-ordered c =
    let short : c.args.index < length (take 9 c.args.spans.now) = omega (arith, length-take-le 9 c.args.spans.now (omega arith)) in
    let lies = subst (LiesWithin c.args.source.now) (get_or-take 9 c.args.spans.now c.args.index (record { from = 0; to = 0 }) c.requires.nine) (c.requires.within c.args.index (record { from = 0; to = 0 }) short) in
    lies.0

pub field_at-requires-clause-within : goal.field_at-requires-clause-within
field_at-requires-clause-within c =
    let short : c.args.index < length (take 9 c.args.spans.now) = omega (arith, length-take-le 9 c.args.spans.now (omega arith)) in
    let lies = subst (LiesWithin c.args.source.now) (get_or-take 9 c.args.spans.now c.args.index (record { from = 0; to = 0 }) c.requires.nine) (c.requires.within c.args.index (record { from = 0; to = 0 }) short) in
    lies.1
