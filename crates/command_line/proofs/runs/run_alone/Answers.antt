use Rattle.std.proofs.Common.{Err, ap, subst}
use Rattle.command_line.specs.Runs.{AsksFor}
use Rattle.command_line.proofs.WholeRuns.{asks_for_no_threads, ends, ends_at_words, memory_alone}
use Rattle.command_line.proofs.runs.run_alone.Goals as goal

pub returns-in-Err-clause-ended : goal.returns-in-Err-clause-ended
returns-in-Err-clause-ended g c =
    ends_at_words _ g.R.Source g.W.Sink g.E.Sink c.args.args c.in-Err.fault c.ending.result _ _ _ _ c.ending.ensures.status c.ending.ensures.told
    (λ is. c.in-Err.ensures.not_asked (ap Err is)) c.in-Err.ensures.not_given

pub returns-in-Err-clause-only_memory : goal.returns-in-Err-clause-only_memory
returns-in-Err-clause-only_memory g c size threads =
    memory_alone c.args.args c.in-Err.fault c.ending.result c.ending.ensures.status (λ is. c.in-Err.ensures.not_asked (ap Err is)) size threads

pub returns-in-Ok-outcome-clause-ended : goal.returns-in-Ok-outcome-clause-ended
returns-in-Ok-outcome-clause-ended g c =
    let came = c.in-Ok-outcome.ensures in
    ends g.R.Source g.W.Sink g.E.Sink c.args.args c.in-Ok.wanted.command c.in-Ok-outcome.outcome c.ended.result _ _ _ _ _ _
    c.in-Ok.ensures.asked came.outcome c.ended.ensures.ending came.read came.unread

pub returns-in-Ok-outcome-clause-only_memory : goal.returns-in-Ok-outcome-clause-only_memory
returns-in-Ok-outcome-clause-only_memory g c size threads =
    absurd (asks_for_no_threads c.args.args c.in-Ok.wanted.command c.in-Ok-outcome.ensures.alone c.in-Ok.ensures.asked size threads)

pub returns-clause-threads : goal.returns-clause-threads
returns-clause-threads g c = subst (AsksFor c.args.args) c.in-Err-outcome.ensures.threads c.in-Ok.ensures.asked
