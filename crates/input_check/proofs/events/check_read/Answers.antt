use Rattle.std.proofs.lemmas.Result.{on_ok_weaker}
use Rattle.input_check.proofs.SaidLaws.{in_two_parts}
use Rattle.input_check.proofs.events.check_read.Goals as goal

pub returns-clause-said : goal.returns-clause-said
returns-clause-said c = c.check_behind.ensures.said

pub returns-clause-warned : goal.returns-clause-warned
returns-clause-warned c =
    on_ok_weaker c.check_behind.result (λ ahead. in_two_parts c.args.warned.now.items _ _ _ _ c.in-Ok.ensures ahead) c.check_behind.ensures.ahead

pub returns-clause-fault : goal.returns-clause-fault
returns-clause-fault c = c.check_behind.ensures.fault
