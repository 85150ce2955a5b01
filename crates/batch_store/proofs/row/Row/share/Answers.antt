-- What is shared is whole parts, and the first of the part behind them.
use Rattle.std.proofs.Common.{◌≡◌, ◌≤◌, ◌/◌, ◌%◌, length, take, sym, ap, ap₂, subst, ◌∙◌, arith}
use Rattle.std.specs.Arc.{arc_value}
use Rattle.batch_store.specs.Inner.Rows.{AreClones, in_parts, part_at}
use Rattle.batch_store.proofs.RowLaws.{copied, length_taken, part_length, part_within, rest_small, shared_row, split, ArePartClones}
use Rattle.batch_store.proofs.row.Row.share.Goals as goal

pub slice_bounds-extend_from_slice-end : goal.slice_bounds-extend_from_slice-end
slice_bounds-extend_from_slice-end c =
    let n = c.args.count in
    let long = ap length c.self.view_is in
    let within = part_within c.self.inside.parts.items c.self.inside.last.items n (n / 64) (n % 64) c.self.invariant.full c.self.invariant.few (omega (arith, long, c.requires)) (split n) in
    sym (length_taken (n / 64) c.deref.result.now (subst (λ xs. n / 64 ≤ length xs) (sym c.deref.ensures.value) within))

pub part_at-requires : goal.part_at-requires
part_at-requires c =
    let n = c.args.count in
    let long = ap length c.self.view_is in
    let within = part_within c.self.inside.parts.items c.self.inside.last.items n (n / 64) (n % 64) c.self.invariant.full c.self.invariant.few (omega (arith, long, c.requires)) (split n) in
    subst (λ xs. n / 64 ≤ length xs) (sym c.deref-2.ensures.value) within

pub slice_bounds-extend_from_slice-end-2 : goal.slice_bounds-extend_from_slice-end-2
slice_bounds-extend_from_slice-end-2 c =
    let n = c.args.count in
    let long = ap length c.self.view_is in
    let parts = c.self.inside.parts.items in
    let last = c.self.inside.last.items in
    let is = split n in
    let within = part_within parts last n (n / 64) (n % 64) c.self.invariant.full c.self.invariant.few (omega (arith, long, c.requires)) is in
    let lent = c.part_at.ensures ∙ ap₂ (λ xs ys. part_at xs ys (n / 64)) c.deref-2.ensures.value c.deref-3.ensures.value in
    sym (length_taken (n % 64) c.part_at.result.now (subst (λ xs. n % 64 ≤ length xs) (sym lent) (part_length parts last (n / 64) (n % 64) c.self.invariant.full (rest_small n) within (omega (arith, long, c.requires, is)))))

pub invariant_of-result : goal.invariant_of-result
invariant_of-result c =
    let n = c.args.count in
    let long = ap length c.self.view_is in
    let parts = c.self.inside.parts.items in
    let last = c.self.inside.last.items in
    let lent = c.part_at.ensures ∙ ap₂ (λ xs ys. part_at xs ys (n / 64)) c.deref-2.ensures.value c.deref-3.ensures.value in
    let qs = c.extend_from_slice.new.self.items in
    let ys = c.extend_from_slice-2.new.self.items in
    let zp : ArePartClones (take (n / 64) c.deref.result.now) qs = copied (λ a b. arc_value b ≡ arc_value a) (take (n / 64) c.deref.result.now) c.in_ok-parts.parts.items qs c.in_ok-parts.ensures.items c.in_ok-extend_from_slice.ensures.items in
    let zl : AreClones (take (n % 64) c.part_at.result.now) ys = copied (λ a b. arc_value b ≡ arc_value a) (take (n % 64) c.part_at.result.now) c.in_ok-last.last.items ys c.in_ok-last.ensures.items c.in_ok-extend_from_slice-2.ensures.items in
    let shared = shared_row parts last c.self.inside.count n (n / 64) (n % 64) qs ys c.self.invariant (omega (arith, long, c.requires)) (split n) (rest_small n)
    (subst (λ xs. ArePartClones (take (n / 64) xs) qs) c.deref.ensures.value zp) (subst (λ xs. AreClones (take (n % 64) xs) ys) lent zl) in
    shared.0

pub returns : goal.returns
returns c =
    let n = c.args.count in
    let long = ap length c.self.view_is in
    let parts = c.self.inside.parts.items in
    let last = c.self.inside.last.items in
    let lent = c.part_at.ensures ∙ ap₂ (λ xs ys. part_at xs ys (n / 64)) c.deref-2.ensures.value c.deref-3.ensures.value in
    let qs = c.extend_from_slice.new.self.items in
    let ys = c.extend_from_slice-2.new.self.items in
    let zp : ArePartClones (take (n / 64) c.deref.result.now) qs = copied (λ a b. arc_value b ≡ arc_value a) (take (n / 64) c.deref.result.now) c.in_ok-parts.parts.items qs c.in_ok-parts.ensures.items c.in_ok-extend_from_slice.ensures.items in
    let zl : AreClones (take (n % 64) c.part_at.result.now) ys = copied (λ a b. arc_value b ≡ arc_value a) (take (n % 64) c.part_at.result.now) c.in_ok-last.last.items ys c.in_ok-last.ensures.items c.in_ok-extend_from_slice-2.ensures.items in
    let shared = shared_row parts last c.self.inside.count n (n / 64) (n % 64) qs ys c.self.invariant (omega (arith, long, c.requires)) (split n) (rest_small n)
    (subst (λ xs. ArePartClones (take (n / 64) xs) qs) c.deref.ensures.value zp) (subst (λ xs. AreClones (take (n % 64) xs) ys) lent zl) in
    subst (λ xs. AreClones (take n xs) (in_parts qs ys)) c.self.view_is shared.1
