-- Inputs, item by item.
use Rattle.std.proofs.Common.{◌≡◌, ℕ, List, [], ◌∷◌, Some, None, refl, codes}
use Rattle.std.specs.Fmt.{digits}
use Rattle.metering_model.specs.NumberText.{decimals_of, worth_of}
use Rattle.metering_model.specs.Schedule.{lines_text}
use Rattle.metering_model.specs.Transcript.{line}
use Rattle.batch_view.specs.Batches.{batch_of}
use Rattle.schedule_writer.specs.Inputs.{Item, Offers, Closes, agents_of, batches_of, closes_of, due_before, least_last, items_in, line_of, offered_length}

abbrev items : List (List ℕ) → List Item
items ls = items_in 60 (lines_text ls) 0

-- ---- a batch above a line that closes a period, and one below it

abbrev parted : List (List ℕ)
parted = codes "B1|1|1|0" ∷ codes "close" ∷ codes "B1|3|1|0" ∷ []

two_batches_parted : items parted
    ≡ Offers (record { from = 0; text = line (codes "B1|1|1|0") }) ∷ Closes ∷ Offers (record { from = 15; text = line (codes "B1|3|1|0") }) ∷ []
unfolding items_in offered_length worth_of decimals_of digits
two_batches_parted = refl

one_stands_above : due_before (items parted) 0 ≡ 1
unfolding items_in offered_length worth_of decimals_of digits
one_stands_above = refl

-- a period without such a line comes behind all
all_before_the_next : due_before (items parted) 1 ≡ 2
unfolding items_in offered_length worth_of decimals_of digits
all_before_the_next = refl

three_agents : agents_of (batches_of (items parted)) ≡ 3
unfolding items_in offered_length batch_of worth_of decimals_of digits
three_agents = refl

-- ---- closes in turn, and as the first line

two_closes : closes_of (items (codes "close" ∷ codes "B1|1|1|0" ∷ codes "close" ∷ codes "close" ∷ [])) ≡ 0 ∷ 1 ∷ 1 ∷ []
unfolding items_in offered_length worth_of decimals_of digits
two_closes = refl

-- of two batches, of which one stands below a line that closes a period, the period after is closed too, unless one is asked for
below_a_close : (least_last None 2 (1 ∷ []) ≡ 1) × (least_last (Some 0) 2 (1 ∷ []) ≡ 0) × (least_last None 1 (1 ∷ []) ≡ 0)
below_a_close = (refl, refl, refl)

without_a_close : (least_last None 2 [] ≡ 0) × (least_last None 0 [] ≡ 0)
without_a_close = (refl, refl)

-- ---- what is no batch

-- a line that is no head stands by itself, so the batch behind it is none of it
no_head : items (codes "B1|1|1|0" ∷ codes "stop" ∷ codes "B1|1|2|0" ∷ [])
    ≡ Offers (record { from = 0; text = line (codes "B1|1|1|0") }) ∷ Offers (record { from = 9; text = line (codes "stop") })
    ∷ Offers (record { from = 14; text = line (codes "B1|1|2|0") }) ∷ []
unfolding items_in offered_length worth_of decimals_of digits
no_head = refl

-- it stands on the second line
its_line : line_of (lines_text (codes "B1|1|1|0" ∷ codes "stop" ∷ [])) (record { from = 9; text = line (codes "stop") }) ≡ 2
its_line = refl

-- of a batch that lacks lines all that is left is offered
too_few_lines : items (codes "B1|1|1|2" ∷ codes "X|1|0|1" ∷ []) ≡ Offers (record { from = 0; text = lines_text (codes "B1|1|1|2" ∷ codes "X|1|0|1" ∷ []) }) ∷ []
unfolding items_in offered_length worth_of decimals_of digits
too_few_lines = refl
