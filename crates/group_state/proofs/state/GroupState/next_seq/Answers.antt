use Rattle.std.proofs.Common.{◌≡◌, true, None, ap, subst}
use Rattle.std.specs.Option.{is_some}
use Rattle.metering_model.specs.Holding.{held}
use Rattle.metering_model.specs.World.{World}
use Rattle.group_state.proofs.Parts.{next_is_absent}
use Rattle.group_state.proofs.state.GroupState.next_seq.Goals as goal

pub returns-clause-next : goal.returns-clause-next
returns-clause-next c =
    let same = ap (λ (w : World). w.journals) c.self.view_is in
    let found = c.first_absent.ensures in
    next_is_absent c.args.self.now.sheet c.args.self.now.journals c.args.agent c.first_absent.result c.requires.rules
    (subst (λ h. held h c.args.agent c.first_absent.result ≡ None) same found.absent)
    found.range.0
    (λ seq low high. subst (λ h. is_some (held h c.args.agent seq) ≡ true) same (found.below seq low high))
