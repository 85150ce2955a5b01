-- The rows between two cuts are those of the batches up to the later one, one batch after the other.
use Rattle.std.proofs.Common.{◌≡◌, ℕ, List, [], ◌∷◌, ◌++◌, refl, ap, ◌∙◌, Option, Some, None}
use Rattle.std.specs.List.{flat_map, filter_map, cons_option}
use Rattle.metering_model.specs.Sheet.{Sheet, Issuer}
use Rattle.metering_model.specs.Cut.{Cut}
use Rattle.metering_model.specs.Holding.{Holding, Placed, placed, up_to}
use Rattle.metering_model.specs.Rows.{PlacedRow, placed_row, placed_rows}

filter_map-append : (f : Placed → Option PlacedRow) (xs ys : List Placed) → filter_map f (xs ++ ys) ≡ filter_map f xs ++ filter_map f ys
filter_map-append f [] ys = refl
filter_map-append f (x ∷ xs) ys = by_row (f x) (filter_map-append f xs ys)
  where
    by_row : (o : Option PlacedRow) → filter_map f (xs ++ ys) ≡ filter_map f xs ++ filter_map f ys → cons_option o (filter_map f (xs ++ ys)) ≡ cons_option o (filter_map f xs) ++ filter_map f ys
    by_row None e = e
    by_row (Some r) e = ap (λ rs. r ∷ rs) e

rows_of_batches : (f : Placed → Option PlacedRow) (h : Holding) → filter_map f (flat_map placed h) ≡ flat_map (λ b. filter_map f (placed b)) h
rows_of_batches f [] = refl
rows_of_batches f (b ∷ h) = filter_map-append f (placed b) (flat_map placed h) ∙ ap (λ rs. filter_map f (placed b) ++ rs) (rows_of_batches f h)

pub rows_by_batch : (sheet : Sheet) (issuer : Issuer) (h : Holding) (period : ℕ) (from to : Cut) → placed_rows sheet issuer h period from to ≡ flat_map (λ b. filter_map (placed_row sheet issuer h period from to) (placed b)) (up_to to h)
rows_by_batch sheet issuer h period from to = rows_of_batches (placed_row sheet issuer h period from to) (up_to to h)
