-- Two sets of more than half of the nodes.
use Rattle.std.proofs.Common.{◌≡◌, ℕ, zero, suc, ◌+◌, ◌<◌, Bool, true, false, cond, [], ◌∷◌, length, refl, Some, count_by, slice_get, arith}
use Rattle.std.proofs.lemmas.List.Sums.{sum_by-cons}
use Rattle.metering_model.specs.Ballot.{Nodes}

abbrev pub marked : Nodes → ℕ
marked set = count_by (λ mark. mark) set

abbrev ShareNode : Nodes → Nodes → Type 0
ShareNode one other = (i : ℕ) × (slice_get one i ≡ Some true) × (slice_get other i ≡ Some true)

later : (a b : Bool) (one other : Nodes) → ShareNode one other → ShareNode (a ∷ one) (b ∷ other)
later a b one other shared = (suc shared.0, shared.1, shared.2)

-- sets that together have more marks than there are nodes have a node in common
pub shared_node : (one other : Nodes) → length one ≡ length other → length one < marked one + marked other → ShareNode one other
shared_node [] [] same more = absurd (omega arith)
shared_node [] (b ∷ other) same more = absurd (omega arith)
shared_node (a ∷ one) [] same more = absurd (omega arith)
shared_node (true ∷ one) (true ∷ other) same more = (zero, refl, refl)
shared_node (true ∷ one) (false ∷ other) same more =
    let left = sum_by-cons (λ mark. cond mark 1 0) true one in
    let right = sum_by-cons (λ mark. cond mark 1 0) false other in
    later true false one other (shared_node one other (omega arith) (omega arith))
shared_node (false ∷ one) (true ∷ other) same more =
    let left = sum_by-cons (λ mark. cond mark 1 0) false one in
    let right = sum_by-cons (λ mark. cond mark 1 0) true other in
    later false true one other (shared_node one other (omega arith) (omega arith))
shared_node (false ∷ one) (false ∷ other) same more =
    let left = sum_by-cons (λ mark. cond mark 1 0) false one in
    let right = sum_by-cons (λ mark. cond mark 1 0) false other in
    later false false one other (shared_node one other (omega arith) (omega arith))
