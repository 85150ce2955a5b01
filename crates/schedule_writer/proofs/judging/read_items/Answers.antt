use Rattle.std.specs.Arc.{arc_value}
use Rattle.schedule_writer.proofs.JudgedLaws.{nothing_judged}
use Rattle.schedule_writer.proofs.judging.read_items.Goals as goal

pub returns-in-Ok-taken : goal.returns-in-Ok-taken
returns-in-Ok-taken c =
    let issuer = arc_value c.args.issuer.now in
    let so = (rw c.deref.ensures at c.in-Ok-taken.ensures.judged) issuer (nothing_judged (arc_value c.args.sheet.now) issuer c.in-Ok.world c.in-Ok.ensures) in
    record { found = c.in-Ok-taken.ensures.found; taken = so.taken; asked = so.asked; within = c.in-Ok-taken.ensures.within; refused = tt }

pub returns-in-Err : goal.returns-in-Err
returns-in-Err c =
    let issuer = arc_value c.args.issuer.now in
    let refused = (rw c.deref.ensures at c.in-Err.ensures.refused) issuer (nothing_judged (arc_value c.args.sheet.now) issuer c.in-Ok.world c.in-Ok.ensures) in
    record { found = tt; taken = tt; asked = tt; within = tt; refused = refused }
