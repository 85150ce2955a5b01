use Rattle.node_threads.proofs.groups.run_group.Goals as goal

pub returns-clause-agree : goal.returns-clause-agree
returns-clause-agree g c = c.in_ok-logs.ensures.agree

pub returns-clause-files : goal.returns-clause-files
returns-clause-files g c = c.in_ok-logs.ensures.files

pub returns-clause-whole : goal.returns-clause-whole
returns-clause-whole g c = c.in_ok-logs.ensures.whole
