-- What a reading is worth, by what amendments give its batch's readings.
use Rattle.std.proofs.Common.{◌≡◌, ℕ, ◌≤◌, true, List, Option, Some, None, ℤ, pos, sym, ap, subst, ◌∙◌, arith}
use Rattle.std.specs.Prelude.{◌≤ℤ◌, unwrap_or, slice_index_or}
use Rattle.metering_model.specs.Batch.{Reading, is_priced}
use Rattle.metering_model.specs.Cut.{last_of}
use Rattle.metering_model.specs.Holding.{Holding, Position, reading_at}
use Rattle.metering_model.specs.ValueAtSequence.{value_at}
use Rattle.journal_rules.specs.Stores.{AreAmendedValues}
use Rattle.focus_row.specs.Inner.Left.{Between, MayBeCharged}
use Rattle.focus_row.proofs.StopLaws.{not_negative_at}

-- it is its value,
pub worth : (h : Holding) (p : Position) (r : Reading) (upto : ℕ) (values stood : List (Option ℤ)) (v : ℤ) → AreAmendedValues h p.agent p.seq upto values → stood ≡ values
    → v ≡ unwrap_or (slice_index_or stood p.index None) r.value → reading_at h p ≡ Some r → v ≡ value_at h p upto
worth h p r upto values stood v are same is found = is ∙ (ap (λ vs. unwrap_or (slice_index_or vs p.index None) r.value) same ∙ are p.index r found)

-- and not negative of a priced one.
pub worth_at_to : (s : Between) (may : MayBeCharged s) (p : Position) (r : Reading) (v : ℤ) → v ≡ value_at s.batches p (last_of s.to p.agent) → reading_at s.batches p ≡ Some r → is_priced r.kind ≡ true → p.seq ≤ last_of s.to p.agent → pos 0 ≤ℤ v
worth_at_to s may p r v is found priced within = let same : last_of s.to p.agent ≤ last_of s.to p.agent = omega arith in subst (λ v. pos 0 ≤ℤ v) (sym is) (not_negative_at s may p r (last_of s.to p.agent) found priced within same)
