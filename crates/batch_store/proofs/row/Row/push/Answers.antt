-- Behind the others stands one more, or a part with it.
use Rattle.std.proofs.Common.{◌∷◌, ◌++◌, [], length, sym, ap, subst, arith}
use Rattle.batch_store.specs.Inner.Rows.{AreClones, batches_in, in_parts}
use Rattle.batch_store.proofs.RowLaws.{one_behind, one_part_more}
use Rattle.batch_store.proofs.row.Row.push.Goals as goal

pub returns-then-len-lt-MANY-clause-added : goal.returns-then-len-lt-MANY-clause-added
returns-then-len-lt-MANY-clause-added c =
    let long = ap length c.self.view_is in
    let now = c.push.new.self.items in
    let added = one_behind c.self.inside.parts.items c.self.inside.last.items now c.self.inside.count c.args.batch c.self.invariant (omega (arith, long, c.requires)) (omega arith) c.in_ok-push.ensures.items in
    subst (λ xs. AreClones (xs ++ c.args.batch ∷ []) (in_parts c.self.inside.parts.items now)) c.self.view_is added.1

pub invariant_of-self-2 : goal.invariant_of-self-2
invariant_of-self-2 c =
    let long = ap length c.self.view_is in
    let last = c.self.inside.last.items in
    let part = c.in_ok-new.field-0 in
    let own : AreClones (last ++ c.args.batch ∷ []) (batches_in part) =
    subst (λ xs. AreClones (xs ++ c.args.batch ∷ []) (batches_in part)) c.deref.ensures.value (subst (λ v. AreClones (c.deref.result.now ++ c.args.batch ∷ []) v.items) (sym c.in_ok-new.ensures.ok) c.in_ok-part.ensures) in
    (one_part_more c.self.inside.parts.items c.push-2.new.self.items last c.clear.new.self.items c.self.inside.count c.args.batch part c.self.invariant (omega (arith, long, c.requires)) (omega arith) own c.in_ok-push-2.ensures.items c.clear.ensures.items).0

pub returns-clause-added : goal.returns-clause-added
returns-clause-added c =
    let long = ap length c.self.view_is in
    let last = c.self.inside.last.items in
    let part = c.in_ok-new.field-0 in
    let own : AreClones (last ++ c.args.batch ∷ []) (batches_in part) =
    subst (λ xs. AreClones (xs ++ c.args.batch ∷ []) (batches_in part)) c.deref.ensures.value (subst (λ v. AreClones (c.deref.result.now ++ c.args.batch ∷ []) v.items) (sym c.in_ok-new.ensures.ok) c.in_ok-part.ensures) in
    let added = one_part_more c.self.inside.parts.items c.push-2.new.self.items last c.clear.new.self.items c.self.inside.count c.args.batch part c.self.invariant (omega (arith, long, c.requires)) (omega arith) own c.in_ok-push-2.ensures.items c.clear.ensures.items in
    subst (λ xs. AreClones (xs ++ c.args.batch ∷ []) (in_parts c.push-2.new.self.items c.clear.new.self.items)) c.self.view_is added.1
