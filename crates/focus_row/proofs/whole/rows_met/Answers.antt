use Rattle.focus_row.proofs.whole.rows_met.Goals as goal

pub rows_between-requires-clause-agents : goal.rows_between-requires-clause-agents
rows_between-requires-clause-agents c = c.requires.cuts.agents

pub rows_between-requires-clause-grows : goal.rows_between-requires-clause-grows
rows_between-requires-clause-grows c = c.requires.cuts.grows

pub rows_between-requires-clause-whole : goal.rows_between-requires-clause-whole
rows_between-requires-clause-whole c = c.requires.whole

pub rows_between-requires-clause-met : goal.rows_between-requires-clause-met
rows_between-requires-clause-met c = c.requires.met
