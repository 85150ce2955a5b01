use Rattle.std.proofs.Common.{◌≡◌, ◌∷◌, [], ◌++◌, sym, subst}
use Rattle.std.specs.Arc.{arc_value}
use Rattle.batch_store.specs.Inner.Rows.{AreClones}
use Rattle.batch_store.proofs.Clones.{clones_joined, same_clones}
use Rattle.batch_store.proofs.RowLaws.{copied}
use Rattle.batch_store.proofs.row.part_of.Goals as goal

pub returns : goal.returns
returns c =
    let now = c.extend_from_slice.new.self.items in
    let clones : AreClones c.args.batches.now now = copied (λ a b. arc_value b ≡ arc_value a) c.args.batches.now c.in_ok-part.part.items now c.in_ok-part.ensures.items c.in_ok-extend_from_slice.ensures.items in
    let own = c.args.batch ∷ [] in
    subst (AreClones (c.args.batches.now ++ own)) (sym c.in_ok-push.ensures.items) (clones_joined c.args.batches.now now own own clones (same_clones own))
