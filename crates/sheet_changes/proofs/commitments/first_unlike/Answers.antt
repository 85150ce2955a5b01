use Rattle.std.proofs.Common.{All, arith, rules, sym, subst, ◌∙◌}
use Rattle.std.proofs.lemmas.List.{take_all}
use Rattle.sheet_changes.specs.Changes.{IsFirstUnlike}
use Rattle.sheet_changes.specs.Inner.Compared.{HasSame}
use Rattle.sheet_changes.proofs.CommitmentLaws.{unlike_at}
use Rattle.sheet_changes.proofs.commitments.first_unlike.Goals as goal

pub returns-then-not-has_same : goal.returns-then-not-has_same
returns-then-not-has_same c =
    let other : ¬ HasSame c.args.old.now c.args.new.now c.commitment-item.result = λ same. let yes = c.has_same.ensures.1 same in absurd (search rules) in
    subst (IsFirstUnlike c.args.old.now c.args.new.now) (sym c.id.ensures)
    (unlike_at c.args.old.now c.args.new.now c.args.commitments.now c.loop-commitment.commitment-index c.commitment-item.result c.requires c.loop-commitment.invariant (omega arith) (sym c.commitment-item.is) other)

pub returns : goal.returns
returns c =
    subst (All (HasSame c.args.old.now c.args.new.now)) (take_all c.loop-commitment.commitment-index c.args.commitments.now (omega arith) ∙ c.requires) c.loop-commitment.invariant
