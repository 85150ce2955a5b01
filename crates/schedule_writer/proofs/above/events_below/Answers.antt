use Rattle.std.specs.Arc.{arc_value}
use Rattle.std.proofs.lemmas.Result.{IfOk-weaker}
use Rattle.schedule_writer.proofs.AboveLaws.{above_is}
use Rattle.schedule_writer.proofs.above.events_below.Goals as goal

pub returns : goal.returns
returns c =
    let p = c.args.plan.now in
    IfOk-weaker c.behind_issuer.result _ _
    (λ rest is. above_is c.args.text.now p.voters p.observers p.agents c.in_ok-unread.unread c.in_ok-unread-2.unread rest (arc_value p.sheet.now) c.args.issuer.now
    c.in_ok-unread.ensures (rw c.deref.ensures at c.in_ok-unread-2.ensures) is)
    c.behind_issuer.ensures
