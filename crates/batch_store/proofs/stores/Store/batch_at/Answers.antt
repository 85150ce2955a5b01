use Rattle.std.proofs.Common.{◌≡◌, true, Option, Some, None, refl, sym, ap, ◌∙◌, Bor}
use Rattle.batch_view.specs.declared.owned.OwnedBatch.{OwnedBatch}
use Rattle.std.specs.Option.{IsSome, option_copied, option_map, is_some}
use Rattle.batch_view.specs.Batches.{batch_of}
use Rattle.metering_model.proofs.HoldingLaws.{held_place}
use Rattle.batch_store.proofs.stores.Store.batch_at.Goals as goal

-- what is lent is there where its batch is
some_lent : (o : Option (Bor OwnedBatch)) → is_some (option_map batch_of (option_copied o)) ≡ true → IsSome o
some_lent None e = absurd (cc)
some_lent (Some b) e = refl

pub unwrap-requires : goal.unwrap-requires
unwrap-requires c = some_lent c.get.result (ap is_some c.get.ensures ∙ c.requires.there)

pub returns-clause-held : goal.returns-clause-held
returns-clause-held c = sym c.get.ensures ∙ (ap (λ o. option_map batch_of (option_copied o)) c.unwrap.ensures ∙ ap (λ b. Some (batch_of b)) (sym c.view.ensures))

pub returns-clause-agent : goal.returns-clause-agent
returns-clause-agent c =
    let found = sym c.get.ensures ∙ (ap (λ o. option_map batch_of (option_copied o)) c.unwrap.ensures ∙ ap (λ b. Some (batch_of b)) (sym c.view.ensures)) in
    (held_place c.args.self.now.batches c.args.agent c.args.seq _ found).0

pub returns-clause-seq : goal.returns-clause-seq
returns-clause-seq c =
    let found = sym c.get.ensures ∙ (ap (λ o. option_map batch_of (option_copied o)) c.unwrap.ensures ∙ ap (λ b. Some (batch_of b)) (sym c.view.ensures)) in
    (held_place c.args.self.now.batches c.args.agent c.args.seq _ found).1
