use Rattle.std.proofs.Common.{get_or, ◌-◌, ap, ◌∙◌}
use Rattle.std.specs.Option.{is_some}
use Rattle.batch_store.proofs.ShelvesLemmas.{held_store}
use Rattle.batch_store.proofs.stores.Store.first_absent.Goals as goal

pub returns-clause-absent : goal.returns-clause-absent
returns-clause-absent c =
    held_store c.self.inside.shelves.items c.args.self.now c.args.agent c.first_absent.result c.index.result.now c.self.view_is c.self.invariant c.requires.from c.requires.to (c.index.ensures ∙ ap (λ n. get_or c.self.inside.shelves.items (n - 1) c.index.result.now) c.from.ensures)
    ∙ c.first_absent.ensures.absent

pub returns-clause-below : goal.returns-clause-below
returns-clause-below c seq low high =
    ap is_some (held_store c.self.inside.shelves.items c.args.self.now c.args.agent seq c.index.result.now c.self.view_is c.self.invariant c.requires.from c.requires.to (c.index.ensures ∙ ap (λ n. get_or c.self.inside.shelves.items (n - 1) c.index.result.now) c.from.ensures))
    ∙ c.first_absent.ensures.below seq low high
