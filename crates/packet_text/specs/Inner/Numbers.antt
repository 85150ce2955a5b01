-- The period and the ballot of a packet, with others behind them.
use Rattle.std.specs.Prelude.{ℕ, List, [], ◌∷◌, Option, Some, None}
use Rattle.packet_text.specs.PacketText.{◌>>=◌, ballot_in, node_in, period_in}

-- a period, a ballot, and the fields behind them
pub record Numbers : Type 0 where
  pub period : ℕ
  pub ballot : ℕ
  pub rest : List (List ℕ)

-- a period and a ballot, if other fields stand behind them
abbrev pub numbers_in : List (List ℕ) → Option Numbers
numbers_in (period ∷ ballot ∷ field ∷ fields) = do
  p ← period_in period
  b ← ballot_in ballot
  Some (record { period = p; ballot = b; rest = field ∷ fields })
numbers_in _ = None

-- the node that sends a packet, and these numbers
pub record Sent : Type 0 where
  pub from : ℕ
  pub numbers : Numbers

-- a node, a period and a ballot, if other fields stand behind them
abbrev pub sent_in : List (List ℕ) → Option Sent
sent_in [] = None
sent_in (from ∷ fields) = do
  i ← node_in from
  n ← numbers_in fields
  Some (record { from = i; numbers = n })
