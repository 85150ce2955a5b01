-- The front of journals that keep their rules: what may be charged up to it.
use Rattle.std.proofs.Common.{◌≡◌, ℕ, true, length, is_some, Option, Some, None, refl, ◌∙◌, arith}
use Rattle.std.specs.Option.{IsSomeAnd}
use Rattle.std.proofs.lemmas.List.{length-replicate}
use Rattle.metering_model.specs.Batch.{Batch}
use Rattle.metering_model.specs.Cut.{IsAtLeast, zero_cut}
use Rattle.metering_model.specs.Holding.{Holding, held}
use Rattle.metering_model.specs.Front.{front}
use Rattle.metering_model.specs.Step.{first_missing}
use Rattle.metering_model.proofs.Fronts.{front_goes_on, length-front}
use Rattle.metering_model.proofs.MissingLaws.{nothing_missing}
use Rattle.batch_player.proofs.AloneLaws.{last_of_zero}

is_held : (o : Option Batch) (P : Batch → Type 0) → IsSomeAnd o P → is_some o ≡ true
is_held None P h = absurd h
is_held (Some b) P h = refl

pub front_grows : (base period : ℕ) (h : Holding) (n : ℕ) → IsAtLeast (front base h (zero_cut n) period) (zero_cut n)
front_grows base period h n = (front_goes_on base period h (zero_cut n)).grows

pub front_length : (base period : ℕ) (h : Holding) (n : ℕ) → length (front base h (zero_cut n) period) ≡ n
front_length base period h n = length-front base period h (zero_cut n) ∙ length-replicate n 0

pub front_whole : (base period : ℕ) (h : Holding) (n : ℕ) → first_missing h (front base h (zero_cut n) period) ≡ None
front_whole base period h n =
    let to = front base h (zero_cut n) period in
    nothing_missing h to (λ agent seq above upto. is_held (held h agent seq) _ ((front_goes_on base period h (zero_cut n)).due agent seq (omega (arith, last_of_zero n agent, above)) upto))
