use Rattle.std.proofs.Common.{map}
use Rattle.journal_rules.specs.Stores.{position_of}
use Rattle.focus_row.proofs.PlaceOrder.{found_at, next_if_own, none_if_other, none_if_end, none_past}
use Rattle.focus_row.proofs.places.next_named.Goals as goal

pub returns-then-found-agent-clause-some : goal.returns-then-found-agent-clause-some
returns-then-found-agent-clause-some c =
    let found = found_at c.args.places.now _ _ c.in-Some.ensures.lookup.3 in
    next_if_own (map position_of c.args.places.now) c.args.agent c.args.seq _ c.requires c.first_from.ensures _ found c.if-found-agent.true

pub returns-else-found-agent-clause-none : goal.returns-else-found-agent-clause-none
returns-else-found-agent-clause-none c =
    let found = found_at c.args.places.now _ _ c.in-Some.ensures.lookup.3 in
    none_if_other (map position_of c.args.places.now) c.args.agent c.args.seq _ c.requires c.first_from.ensures _ found c.if-found-agent.false

pub returns-in-None-clause-none : goal.returns-in-None-clause-none
returns-in-None-clause-none c =
    let past = none_past c.args.places.now _ c.in-None.ensures.lookup.3 in
    none_if_end (map position_of c.args.places.now) c.args.agent c.args.seq _ c.requires c.first_from.ensures past
