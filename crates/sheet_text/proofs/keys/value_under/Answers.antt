-- What the map of a table finds under a key.
use Rattle.toml.proofs.Views.{table_get}
use Rattle.sheet_text.specs.Keys.{value_under}
use Rattle.sheet_text.proofs.keys.value_under.Goals as goal

pub returns-in-Some-clause-gives : goal.returns-in-Some-clause-gives
unfolding value_under
returns-in-Some-clause-gives c =
    let found = table_get c.get.result c.name.result.now c.args.table.now.entries c.get.ensures.value in
    rw (← rw (c.name.ensures, c.in-Some.is) at found)

pub returns-in-None-clause-gives : goal.returns-in-None-clause-gives
unfolding value_under
returns-in-None-clause-gives c =
    let found = table_get c.get.result c.name.result.now c.args.table.now.entries c.get.ensures.value in
    rw (← rw (c.name.ensures, c.in-None.is) at found)
