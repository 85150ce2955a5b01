-- A place is looked up in its part.
use Rattle.std.proofs.Common.{◌<◌, ◌≤◌, ◌/◌, ◌%◌, length, sym, ap, ap₂, subst, ◌∙◌, arith, get_or}
use Rattle.batch_store.specs.Inner.Rows.{part_at}
use Rattle.batch_store.proofs.RowLaws.{at_part, part_longer, part_within, rest_small, split}
use Rattle.batch_store.proofs.row.Row.at.Goals as goal

pub part_at-requires : goal.part_at-requires
part_at-requires c =
    let long = ap length c.self.view_is in
    let within = part_within c.self.inside.parts.items c.self.inside.last.items c.args.place (c.args.place / 64) (c.args.place % 64) c.self.invariant.full c.self.invariant.few (omega (arith, long, c.requires)) (split c.args.place) in
    subst (λ xs. c.args.place / 64 ≤ length xs) (sym c.deref.ensures.value) within

pub bounds-part_at-place : goal.bounds-part_at-place
bounds-part_at-place c =
    let n = c.args.place in
    let long = ap length c.self.view_is in
    let parts = c.self.inside.parts.items in
    let last = c.self.inside.last.items in
    let is = split n in
    let within = part_within parts last n (n / 64) (n % 64) c.self.invariant.full c.self.invariant.few (omega (arith, long, c.requires)) is in
    let lent = c.part_at.ensures ∙ ap₂ (λ xs ys. part_at xs ys (n / 64)) c.deref.ensures.value c.deref-2.ensures.value in
    subst (λ xs. n % 64 < length xs) (sym lent) (part_longer parts last (n / 64) (n % 64) c.self.invariant.full (rest_small n) within (omega (arith, long, c.requires, is)))

pub returns : goal.returns
returns c =
    let n = c.args.place in
    let long = ap length c.self.view_is in
    let parts = c.self.inside.parts.items in
    let last = c.self.inside.last.items in
    let is = split n in
    let within = part_within parts last n (n / 64) (n % 64) c.self.invariant.full c.self.invariant.few (omega (arith, long, c.requires)) is in
    let lent = c.part_at.ensures ∙ ap₂ (λ xs ys. part_at xs ys (n / 64)) c.deref.ensures.value c.deref-2.ensures.value in
    let found = c.index-part_at-place.result in
    c.index-part_at-place.is
    ∙ (ap (λ xs. get_or xs (n % 64) found) lent
    ∙ (at_part parts last n (n / 64) (n % 64) found c.self.invariant.full (rest_small n) within is ∙ ap (λ xs. get_or xs n found) c.self.view_is))
