-- What looks at many bytes at once tell of a whole field.
use Rattle.std.proofs.Common.{◌≡◌, ℕ, ◌+◌, ◌-◌, ◌<◌, ◌≤◌, Bool, true, false, nat_lt, List, Some, None, is_some, length, take, drop, get_or, sym, ap, ◌∙◌, arith, inl, inr}
use Rattle.std.specs.List.{list_any, position}
use Rattle.std.proofs.lemmas.Bool.{cases_lt, lt-ltb, le-ltb}
use Rattle.byte_text.specs.Runs.{IsRun}
use Rattle.byte_text.proofs.FirstPlace.{position_is}
use Rattle.byte_text.proofs.LaneLaws.{ArePassed, stop_found, rest_run, run_found, none_in_last}
use Rattle.record_view.proofs.PartLaws.{found_any}

pub found_here : (test : ℕ → Bool) (d : List ℕ) (k : ℕ) → Some k ≡ position test d → true ≡ list_any test d
found_here test d k h = ap is_some h ∙ found_any test d

found_nowhere : (test : ℕ → Bool) (d : List ℕ) → None ≡ position test d → false ≡ list_any test d
found_nowhere test d h = ap is_some h ∙ found_any test d

-- a look at the first bytes that finds one
pub in_first : (test : ℕ → Bool) (d : List ℕ) (many run : ℕ) → many ≤ length d → IsRun test d many run → run < many → true ≡ list_any test d
in_first test d many run room look short = found_here test d run (sym (position_is test d run (omega arith) look.before (look.here short)))

-- a look behind what was passed that finds one
pub in_next : (test : ℕ → Bool) (d : List ℕ) (at run : ℕ) → ArePassed test d at → at + 16 ≤ length d → IsRun test (take (length d - at) (drop at d)) 16 run → run < 16
    → true ≡ list_any test d
in_next test d at run passed room look short = found_here test d (at + run) (stop_found test d at run passed room look short)

-- the look at the last bytes tells of the whole field
pub in_last : (test : ℕ → Bool) (d : List ℕ) (passed many run : ℕ) → many ≤ length d → length d - many ≤ passed → ((k : ℕ) → k < passed → test (get_or d k 0) ≡ false)
    → IsRun test (take (length d - (length d - many)) (drop (length d - many) d)) many run → nat_lt run many ≡ list_any test d
in_last test d passed many run room near first look =
    let last = rest_run test d (length d - many) many run look in
    elim (cases_lt run many) [
      | inl short ↦ lt-ltb run many short ∙ found_here test d (length d - many + run) (run_found test d passed (length d - many) many run near (omega arith) first last short)
      | inr full ↦ le-ltb run many full ∙ found_nowhere test d (none_in_last test d passed (length d - many) many run near (omega arith) first last full)
    ]

-- a look that finds none has passed all of its bytes
pub all_passed : (test : ℕ → Bool) (d : List ℕ) (many run : ℕ) → IsRun test d many run → many ≤ run → (k : ℕ) → k < many → test (get_or d k 0) ≡ false
all_passed test d many run look full k below = look.before k (omega arith)
