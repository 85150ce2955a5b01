-- A smaller holding that lacks nothing up to a cut agrees with the greater one up to it.
use Rattle.std.proofs.Common.{◌≡◌, ℕ, Option, Some, None, refl, sym}
use Rattle.metering_model.specs.Batch.{Batch}
use Rattle.metering_model.specs.Cut.{Cut, IsAtLeast}
use Rattle.metering_model.specs.Sheet.{Sheet, Issuer}
use Rattle.metering_model.specs.Holding.{Holding, IsHolding, AgreeUpTo, IsPartOf, LacksNothingUpTo, held}
use Rattle.metering_model.specs.Rows.{rows}
use Rattle.metering_model.proofs.AgreementLaws.{same_rows}

-- two look-ups of which each finds what the other finds
same_found : (a b : Option Batch) → ((x : Batch) → a ≡ Some x → b ≡ Some x) → ((x : Batch) → b ≡ Some x → a ≡ Some x) → a ≡ b
same_found None None f g = refl
same_found None (Some y) f g = g y refl
same_found (Some x) b f g = sym (f x refl)

pub AgreeUpTo-part : (cut : Cut) (h k : Holding) → IsPartOf h k → LacksNothingUpTo cut h k → AgreeUpTo cut h k
AgreeUpTo-part cut h k part whole = record {
  same = λ agent seq within. same_found (held h agent seq) (held k agent seq) (part.had agent seq) (λ b. whole.had agent seq b within);
}

pub rows_stay : (sheet : Sheet) (issuer : Issuer) (h k : Holding) (period : ℕ) (from to : Cut) → IsHolding h → IsHolding k → IsPartOf h k → LacksNothingUpTo to h k → IsAtLeast to from →
    rows sheet issuer h period from to ≡ rows sheet issuer k period from to
rows_stay sheet issuer h k period from to ok ok' part whole grows = same_rows sheet issuer h k period from to ok ok' (AgreeUpTo-part to h k part whole) grows
