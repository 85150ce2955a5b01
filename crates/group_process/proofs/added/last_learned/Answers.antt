use Rattle.group_process.proofs.AddedLaws.{learned_told}
use Rattle.group_process.proofs.added.last_learned.Goals as goal

pub returns-in-Some : goal.returns-in-Some
returns-in-Some c = rw (c.deref.ensures) (learned_told _ _ _ c.current_period-periods.ensures.value c.in-Some.ensures)
