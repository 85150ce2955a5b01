use Rattle.std.proofs.Common.{◌≡◌, false, sym, ap, subst, ◌∙◌}
use Rattle.std.specs.List.{slice_get}
use Rattle.std.specs.Option.{option_and_then, option_copied}
use Rattle.metering_model.specs.Holding.{is_batch_at, reading_at, reading_of}
use Rattle.metering_model.specs.JournalRules.{is_fit_target}
use Rattle.batch_store.specs.Batches.{batch_of}
use Rattle.batch_store.specs.Stores.{position_of}
use Rattle.journal_rules.specs.Inner.Journaled.{stored_in}
use Rattle.journal_rules.proofs.OneMore.{fit_elsewhere, unfit_elsewhere}
use Rattle.journal_rules.proofs.journaled.Journaled.is_fit_elsewhere.Goals as goal

pub returns-in-Some : goal.returns-in-Some
returns-in-Some c =
    let h = (stored_in (option_copied c.self.inside.store)).batches in
    let b = batch_of c.self.inside.batch.now in
    let p = position_of c.args.place in
    let other = subst (λ w. is_batch_at c.args.place.agent c.args.place.seq w.batch ≡ false) (sym c.self.view_is) c.requires.elsewhere in
    subst (λ w. c.has_fit_target.result ≡ is_fit_target c.args.value (reading_at w.batches p)) c.self.view_is
    (c.has_fit_target.ensures
    ∙ (ap (λ t. is_fit_target c.args.value (option_and_then reading_of (slice_get (batch_of t).records c.args.place.index))) c.view.ensures
    ∙ fit_elsewhere h b p c.args.value (batch_of c.in-Some.batch.now) other c.in-Some.ensures))

pub returns-in-None : goal.returns-in-None
returns-in-None c =
    let h = (stored_in (option_copied c.self.inside.store)).batches in
    let b = batch_of c.self.inside.batch.now in
    let p = position_of c.args.place in
    let other = subst (λ w. is_batch_at c.args.place.agent c.args.place.seq w.batch ≡ false) (sym c.self.view_is) c.requires.elsewhere in
    subst (λ w. false ≡ is_fit_target c.args.value (reading_at w.batches p)) c.self.view_is
    (unfit_elsewhere h b p c.args.value other c.in-None.ensures)
