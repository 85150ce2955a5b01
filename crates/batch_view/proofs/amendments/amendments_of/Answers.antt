use Rattle.std.proofs.Common.{◌≡◌, [], ◌++◌, All, ap, ap₂, ◌∙◌, subst, sym, arith, get_or}
use Rattle.std.specs.List.{cons_option}
use Rattle.batch_view.specs.Inner.Amended.{IsSmall}
use Rattle.batch_view.proofs.AmendedLemmas.{kept_take, small_more}
use Rattle.batch_view.proofs.amendments.amendments_of.Goals as goal

pub loop-own-preserved : goal.loop-own-preserved
loop-own-preserved c =
    let e = c.index-entries-from.result in
    let at : c.from.result ≡ c.loop-own.own = omega (arith, c.from.ensures) in
    let here = c.index-entries-from.is ∙ ap (λ n. get_or c.args.entries.now n e) at in
    let next = kept_take c.args.entries.now c.loop-own.own e (omega arith) here in
    let pushed = c.in_ok-push_some.ensures in
    record {
      so_far = pushed ∙ ap₂ (λ xs o. xs ++ cons_option o []) c.loop-own.invariant.so_far c.amendment_at.ensures.is ∙ sym next;
      small = subst (All IsSmall) (sym pushed) (small_more _ _ c.loop-own.invariant.small c.amendment_at.ensures.small);
    }
