-- The batches of a store up to a cut make a snapshot.
use Rattle.std.proofs.Common.{◌≡◌, ℕ, None, sym, ap, subst, ◌∙◌}
use Rattle.std.specs.Option.{is_some}
use Rattle.metering_model.specs.Cut.{Cut, IsAtLeast}
use Rattle.metering_model.specs.Holding.{Holding, up_to}
use Rattle.metering_model.specs.JournalRules.{MeetsJournalRules}
use Rattle.metering_model.specs.Sheet.{Issuer, Sheet}
use Rattle.metering_model.specs.Step.{first_missing}
use Rattle.metering_model.specs.World.{Snapshot}
use Rattle.metering_model.proofs.HoldingLaws.{held-up_to, up_to-up_to}
use Rattle.metering_model.proofs.MissingLaws.{held-up_to_where, nothing_missing}
use Rattle.group_events.specs.Snapshots.{IsExportable}

pub exportable : (s : Snapshot) (h : Holding) → s.batches ≡ up_to s.to h → IsAtLeast s.to s.from → first_missing h s.to ≡ None
    → MeetsJournalRules s.sheet (up_to s.to h) → IsExportable s
exportable s h part grows whole met = record {
  grows = grows;
  whole = ap (λ k. first_missing k s.to) part ∙ nothing_missing (up_to s.to h) s.to (λ agent seq from within. ap is_some (held-up_to s.to h agent seq within) ∙ held-up_to_where h s.to whole agent seq from within);
  met = subst (MeetsJournalRules s.sheet) (sym part) met;
  within = ap (up_to s.to) part ∙ (up_to-up_to s.to h ∙ sym part);
}

-- snapshots of the same parts are the same
pub same_parts : (period : ℕ) (f from t to : Cut) (h holding : Holding) (s sheet : Sheet) (i issuer : Issuer)
    → f ≡ from → t ≡ to → h ≡ holding → s ≡ sheet → i ≡ issuer
    → ◌≡◌ {A = Snapshot} (record { period = period; from = f; to = t; batches = up_to t h; sheet = s; issuer = i })
    (record { period = period; from = from; to = to; batches = up_to to holding; sheet = sheet; issuer = issuer })
same_parts period f from t to h holding s sheet i issuer a b c d e = cc
