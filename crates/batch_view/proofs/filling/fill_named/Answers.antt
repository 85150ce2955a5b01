use Rattle.std.proofs.Common.{◌-◌, None, slice_index_or, sym, subst, arith, ap, ◌∙◌}
use Rattle.batch_view.proofs.FilledLaws.{IsFilledFrom, filled_first, filled_more, filled_passed, filled_other, filled_all}
use Rattle.batch_view.proofs.filling.fill_named.Goals.{then-has_effect, else-has_effect}
use Rattle.batch_view.proofs.filling.fill_named.Goals as goal

pub loop-left-init : goal.loop-left-init
loop-left-init c =
    let ends = c.end_of_position-left.ensures in
    (omega arith, λ k less. filled_first c.args.sorted.now c.args.seq c.args.is_own c.requires.small c.requires.rising c.end_of_position-left.result ends.point ends.within k (slice_index_or c.args.values.now k None))

pub offset_bounds-sorted-left : goal.offset_bounds-sorted-left
offset_bounds-sorted-left c = let ends = c.end_of_position-left.ensures.within in let low = c.loop-left.invariant.0 in omega (arith, ends, low)

pub bounds-sorted-left : goal.bounds-sorted-left
bounds-sorted-left c = let ends = c.end_of_position-left.ensures.within in let low = c.loop-left.invariant.0 in omega (arith, ends, low)

pub returns-then-amendment-seq-clause-filled : goal.returns-then-amendment-seq-clause-filled
returns-then-amendment-seq-clause-filled c = λ k less.
    let ends = c.end_of_position-left.ensures in
    filled_other c.args.sorted.now c.args.seq c.args.is_own c.requires.small c.requires.rising c.end_of_position-left.result ends.point ends.within k (slice_index_or c.args.values.now k None)
    c.loop-left.left (omega arith) c.loop-left.invariant.0 c.index-sorted-left.result c.index-sorted-left.is (slice_index_or c.loop-left.values k None) c.if-amendment-seq.true (c.loop-left.invariant.1 k less)

pub loop-left-preserved : goal.loop-left-preserved
loop-left-preserved c =
    let ends = c.end_of_position-left.ensures in
    let low = c.loop-left.invariant.0 in (
      omega (arith, low),
      λ k less.
          let old = slice_index_or c.args.values.now k None in
          let now = slice_index_or c.loop-left.values k None in
          let a = c.index-sorted-left.result in
          let so_far = c.loop-left.invariant.1 k less in
          elim c.if-has_effect.branch [
            | then-has_effect w ↦
                let put = filled_more c.args.sorted.now c.args.seq c.args.is_own c.requires.small c.requires.rising c.end_of_position-left.result ends.point ends.within k old c.loop-left.left
                (omega arith) low a c.index-sorted-left.is now c.if-amendment-seq.false (sym c.has_effect.ensures ∙ w.if-has_effect.true) so_far in
                let is = ap (λ vs. slice_index_or vs k None) w.values-is ∙ w.fill_value.ensures.filled k (omega (arith, less)) in
                subst (λ v. IsFilledFrom c.args.sorted.now c.args.seq c.args.is_own (c.loop-left.left - 1) k old v) (sym is) put
            | else-has_effect w ↦
                let put = filled_passed c.args.sorted.now c.args.seq c.args.is_own c.requires.small c.requires.rising c.end_of_position-left.result ends.point ends.within k old c.loop-left.left
                (omega arith) low a c.index-sorted-left.is now (sym c.has_effect.ensures ∙ w.if-has_effect.false) so_far in
                subst (λ vs. IsFilledFrom c.args.sorted.now c.args.seq c.args.is_own (c.loop-left.left - 1) k old (slice_index_or vs k None)) (sym w.values-is) put
          ],
    )

pub returns-clause-filled : goal.returns-clause-filled
returns-clause-filled c = λ k less.
    filled_all c.args.sorted.now c.args.seq c.args.is_own c.loop-left.left k (slice_index_or c.args.values.now k None) (slice_index_or c.loop-left.values k None) (omega arith) (c.loop-left.invariant.1 k less)
