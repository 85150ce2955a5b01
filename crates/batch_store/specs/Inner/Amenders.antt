-- Which later batches of an agent amend a batch, and what an index lists of them.
use Rattle.std.specs.Prelude.{◌≡◌, ◌<◌, ◌≤◌, ℕ, ◌+◌, ◌*◌, List, [], Option, Some, None, IsTrue, All}
use Rattle.std.specs.List.{Contains, AllByRecursion, list_any}
use Rattle.std.specs.Ordering.{nat_cmp}
use Rattle.std.specs.BTreeMap.{is_at}
use Rattle.std.specs.BTreeSet.{BTreeSet}
use Rattle.std.specs.declared.sync.Arc.{Arc}
use Rattle.std.specs.declared.alloc.Global.{Global}
use Rattle.std.specs.Arc.{arc_value}
use Rattle.metering_model.specs.Batch.{Batch}
use Rattle.metering_model.specs.Holding.{Holding}
use Rattle.batch_view.specs.declared.owned.Amendment.{Amendment}
use Rattle.batch_view.specs.Kept.{amendments_in}

-- the pairs that an index has; one that was never written has none
abbrev pub pairs_in : Option (Arc (BTreeSet ℕ) Global) → List ℕ
pairs_in None = []
pairs_in (Some pairs) = (arc_value pairs).keys

-- a number that rises with the sequence of a batch, and then with that of a batch that amends it
abbrev pub pair_of : ℕ → ℕ → ℕ
pair_of seq by = seq * 4_294_967_296 + by

-- the batch `by` is listed as one that amends that at the sequence
abbrev pub IsListed : ℕ → ℕ → List ℕ → Type 0
IsListed seq by pairs = IsTrue (list_any (is_at (nat_cmp (pair_of seq by))) pairs)

-- what was listed is so still
abbrev pub KeepsListed : List ℕ → List ℕ → Type 0
KeepsListed old new = (seq by : ℕ) → IsListed seq by old → IsListed seq by new

-- the batch `by` is listed at each earlier sequence that the amendments name
abbrev pub AreListed : ℕ → List Amendment → List ℕ → Type 0
AreListed by amendments pairs = All (λ a. a.seq < by → IsListed a.seq by pairs) amendments

-- no batch above the one sequence and up to the other is listed at `seq`
abbrev pub NoneListed : ℕ → ℕ → ℕ → List ℕ → Type 0
NoneListed seq from to pairs = (by : ℕ) → from < by → by ≤ to → IsListed seq by pairs → ⊥

-- It is the last behind `seq` and up to the other sequence that is listed at `seq`.
pub record IsLastListed (seq upto : ℕ) (pairs : List ℕ) (last : ℕ) : Type 0 where
  pub behind : seq < last
  pub within : last ≤ upto
  pub listed : IsListed seq last pairs
  pub none_later : NoneListed seq last upto pairs

-- each batch is listed at each earlier sequence that it amends
abbrev pub IsIndexOf : Holding → List ℕ → Type 0
IsIndexOf h pairs = AllByRecursion (λ b. AreListed b.seq (amendments_in b) pairs) h

-- the batch amends none at the sequence
abbrev pub Spares : Batch → ℕ → Type 0
Spares b seq = (a : Amendment) → Contains (amendments_in b) a → a.seq ≡ seq → ⊥

-- of the batches that are found above the one sequence and up to the other, none amends that at `seq`
abbrev pub NoneAmends : (ℕ → Option Batch) → ℕ → ℕ → ℕ → Type 0
NoneAmends at seq from to = (by : ℕ) (b : Batch) → from < by → by ≤ to → at by ≡ Some b → Spares b seq

-- it is behind `seq`, and of those that are found behind it and up to the other sequence none amends that at `seq`
pub record IsLastAmender (at : ℕ → Option Batch) (seq upto last : ℕ) : Type 0 where
  pub behind : seq < last
  pub within : last ≤ upto
  pub none_later : NoneAmends at seq last upto
