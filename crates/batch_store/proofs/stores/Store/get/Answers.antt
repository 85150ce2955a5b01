use Rattle.std.proofs.Common.{get_or, ◌-◌, ap, sym, ◌∙◌}
use Rattle.batch_store.proofs.ShelvesLemmas.{held_store}
use Rattle.batch_store.proofs.stores.Store.get.Goals as goal

pub returns : goal.returns
returns c =
    c.get.ensures
    ∙ sym (held_store c.self.inside.shelves.items c.args.self.now c.args.agent c.args.seq c.index.result.now c.self.view_is c.self.invariant c.requires.from c.requires.to (c.index.ensures ∙ ap (λ n. get_or c.self.inside.shelves.items (n - 1) c.index.result.now) c.from.ensures))
