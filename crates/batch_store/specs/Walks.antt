-- How the batches of a store are handed out.
use Rattle.std.specs.Prelude.{List, Option, ℕ}
use Rattle.std.proofs.Common.{Bor}
use Rattle.std.specs.Iterator.{YieldsFirstBy}
use Rattle.metering_model.specs.Holding.{Holding}
use Rattle.batch_view.specs.Batches.{batch_of}

-- a walk is what is left of it
abbrev pub batches_left : Holding → Holding
batches_left h = h

-- A call of `next` gives the first batch that is left, or None at the end.
abbrev pub GivesBatch : Holding → Option (Bor (List ℕ)) → Holding → Type 0
GivesBatch = YieldsFirstBy (λ b. batch_of b.now) batches_left
