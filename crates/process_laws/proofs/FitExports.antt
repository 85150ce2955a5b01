-- What a run exports is fit: the cuts that a node learned grow, and none of the batches breaks a rule.
use Rattle.std.proofs.Common.{◌≡◌, ℕ, zero, suc, true, not, List, [], ◌∷◌, take, refl, ap, is_some, nat_le}
use Rattle.std.proofs.lemmas.Bool.{and_from, le-leb}
use Rattle.metering_model.specs.Cut.{Cut, IsAtLeast, GrowsFrom}
use Rattle.metering_model.specs.World.{World, Snapshot}
use Rattle.group_laws.specs.Headline.{IsExport}
use Rattle.process_laws.specs.LocalSteps.{is_at_least, are_growing, is_unbroken}

at_least_passes : (cut other : Cut) → IsAtLeast cut other → is_at_least cut other ≡ true
at_least_passes [] [] h = refl
at_least_passes [] (b ∷ other) h = absurd h
at_least_passes (a ∷ cut) [] h = absurd h
at_least_passes (a ∷ cut) (b ∷ other) h = and_from (nat_le b a) (is_at_least cut other) (le-leb b a h.0) (at_least_passes cut other h.1)

-- the first of cuts that grow, so many of them, pass
pub growing_passes : (cuts : List Cut) (before : Cut) (count : ℕ) → GrowsFrom before cuts → are_growing before (take count cuts) ≡ true
growing_passes cuts before zero h = refl
growing_passes [] before (suc count) h = refl
growing_passes (cut ∷ cuts) before (suc count) h =
    and_from (is_at_least cut before) (are_growing cut (take count cuts)) (at_least_passes cut before h.0) (growing_passes cuts cut count h.1)

pub is_unbroken-export : (w : World) (cuts : List Cut) (s : Snapshot) → IsExport w cuts s → is_unbroken s ≡ true
is_unbroken-export w cuts s is = ap (λ o. not (is_some o)) is.rules.none_broken
