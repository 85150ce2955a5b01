use Rattle.std.proofs.Common.{◌≡◌, true, sym, subst, ◌∙◌}
use Rattle.std.specs.Option.{option_copied}
use Rattle.metering_model.specs.Holding.{is_batch_at, reading_at}
use Rattle.metering_model.specs.JournalRules.{is_fit_target}
use Rattle.batch_store.specs.Batches.{batch_of}
use Rattle.batch_store.specs.Stores.{position_of}
use Rattle.journal_rules.specs.Inner.Journaled.{stored_in}
use Rattle.journal_rules.proofs.OneMore.{fit_here}
use Rattle.journal_rules.proofs.journaled.Journaled.is_fit_here.Goals as goal

pub returns : goal.returns
returns c =
    let h = (stored_in (option_copied c.self.inside.store)).batches in
    let b = batch_of c.self.inside.batch.now in
    let p = position_of c.args.place in
    let own = subst (λ w. is_batch_at c.args.place.agent c.args.place.seq w.batch ≡ true) (sym c.self.view_is) c.requires in
    subst (λ w. c.has_fit_target.result ≡ is_fit_target c.args.value (reading_at w.batches p)) c.self.view_is
    (c.has_fit_target.ensures ∙ fit_here h b p c.args.value own c.self.invariant.1)
