use Rattle.std.proofs.Common.{◌-◌, get_or, ap, ◌∙◌}
use Rattle.metering_model.specs.Holding.{held}
use Rattle.batch_store.specs.Inner.Shelves.{at_seq}
use Rattle.batch_store.proofs.AmenderLemmas.{last_found}
use Rattle.batch_store.proofs.ShelvesLemmas.{held_store}
use Rattle.batch_store.proofs.stores.Store.last_amender.Goals as goal

pub returns : goal.returns
returns c =
    let place = c.index.ensures ∙ ap (λ n. get_or c.self.inside.shelves.items (n - 1) c.index.result.now) c.from.ensures in
    last_found (held c.args.self.now.batches c.args.agent) (at_seq c.index.result.now) c.args.seq c.args.upto c.last_amender.result
    (λ s. held_store c.self.inside.shelves.items c.args.self.now c.args.agent s c.index.result.now c.self.view_is c.self.invariant c.requires.from c.requires.to place) c.last_amender.ensures
