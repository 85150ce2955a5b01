use Rattle.std.proofs.Common.{sym, ◌∙◌, arith}
use Rattle.metering_model.proofs.HoldingLaws.{held_place}
use Rattle.batch_view.specs.Batches.{batch_of}
use Rattle.batch_store.proofs.AmendedValues.{values_all}
use Rattle.batch_store.proofs.stores.Store.fill_amended.Goals as goal

pub returns-clause-values : goal.returns-clause-values
returns-clause-values c =
    let h = c.args.self.now.batches in
    let many = c.fill_later.ensures.length in
    values_all h c.args.agent c.args.seq c.args.upto (batch_of c.args.own.now) c.fill_later.new.values c.fill_given.new.values c.requires.stored.is_holding c.requires.upto c.requires.own
    (many ∙ c.requires.length) (λ k less. c.fill_later.ensures.later k (omega (arith, less, many)))
    (c.fill_given.ensures.own (sym (held_place h c.args.agent c.args.seq (batch_of c.args.own.now) c.requires.own).1))
