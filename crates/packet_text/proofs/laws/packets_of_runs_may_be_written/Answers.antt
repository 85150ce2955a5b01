-- Every run keeps the limits of a group, and these are within those of texts.
use Rattle.packet_text.proofs.SentByRuns.{run_sent, run_written}
use Rattle.packet_text.proofs.laws.packets_of_runs_may_be_written.Goals as goal

pub returns-clause-limits : goal.returns-clause-limits
returns-clause-limits c = run_sent

pub returns-clause-written : goal.returns-clause-written
returns-clause-written c = λ room voters observers agents sheet issuer events group name few some most.
    run_written room voters observers agents sheet issuer events group name few some most
