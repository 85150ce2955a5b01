-- What is left of a kept text while it is read.
use Rattle.std.specs.Prelude.{◌≡◌, ℕ, ◌||◌, ◌&&◌, ◌==◌, Bool, nat_lt, List, Ok, None}
use Rattle.metering_model.specs.BatchReading.{lines_in}
use Rattle.metering_model.specs.KeptText.{cuts_in, batches_in, next_batch}
use Rattle.metering_model.specs.Cut.{Cut}
use Rattle.metering_model.specs.Batch.{Batch}
use Rattle.metering_model.specs.Holding.{Holding}
use Rattle.metering_model.specs.declared.KeptTextFault.{KeptTextFault}
use Rattle.node_kept.specs.declared.faults.KeptFault.{KeptFault}
use Rattle.node_kept.specs.declared.faults.KeptFault.TheVariants.{Refused, OutOfMemory}

-- what is said of a fault that is told; want of memory says nothing
abbrev pub IfTold : KeptFault → (KeptTextFault → Type 0) → Type 0
IfTold (Refused code line) P = P (record { code = code; line = line })
IfTold OutOfMemory P = Unit {0}

-- The cuts stand at the front of the text, from that line on, and this behind them.
pub record AreCutsOf (text : List ℕ) (line agents count : ℕ) (cuts : List Cut) (left : List ℕ) : Type 0 where
  pub read : cuts_in line agents count (lines_in text).lines ≡ Ok (cuts, (lines_in left).lines)
  pub rest : (lines_in left).rest ≡ (lines_in text).rest

-- The batch stands at the front of the text, and this behind it.
pub record IsNextOf (text : List ℕ) (b : Batch) (left : List ℕ) : Type 0 where
  pub read : next_batch (lines_in text).lines ≡ Ok (b, (lines_in left).lines)
  pub rest : (lines_in left).rest ≡ (lines_in text).rest

-- The batches stand at the front of the text, from the first line on, and this behind them, from the last one on.
pub record AreBatchesOf (text : List ℕ) (first agents count : ℕ) (h : Holding) (last : ℕ) (left : List ℕ) : Type 0 where
  pub read : batches_in first agents None count (lines_in text).lines ≡ Ok (record { batches = h; line = last; left = (lines_in left).lines })
  pub rest : (lines_in left).rest ≡ (lines_in text).rest

-- the second place comes behind the first, by agent and then by sequence
abbrev pub comes_behind : (agent seq next_agent next_seq : ℕ) → Bool
comes_behind agent seq next_agent next_seq = nat_lt agent next_agent || ((agent == next_agent) && nat_lt seq next_seq)
