-- Cuts: how far each agent's batches are charged, and cuts that grow.
use Rattle.std.specs.Prelude.{ℕ, zero, suc, ◌≤◌, List, [], ◌∷◌, replicate, slice_index}
use Rattle.std.specs.List.{AllZip}

-- one last sequence for each agent, agent 1 first; 0 means none
abbrev pub Cut : Type 0
Cut = List ℕ

abbrev pub zero_cut : ℕ → Cut
zero_cut agents = replicate agents 0

-- agents count from 1, so agent 0 has no entry
abbrev pub last_of : Cut → ℕ → ℕ
last_of cut zero = 0
last_of cut (suc a) = slice_index cut a

-- the cut is at or above the other for every agent
abbrev pub IsAtLeast : Cut → Cut → Type 0
IsAtLeast cut other = AllZip (λ a b. a ≤ b) other cut

abbrev pub GrowsFrom : Cut → List Cut → Type 0
GrowsFrom before [] = Unit {0}
GrowsFrom before (cut ∷ cuts) = IsAtLeast cut before × GrowsFrom cut cuts

-- the cuts of periods 0, 1 and so on: the first grows from zero, and each from the one before it
abbrev pub IsGrowing : ℕ → List Cut → Type 0
IsGrowing agents cuts = GrowsFrom (zero_cut agents) cuts
