-- One more event has no fault, or has one.
use Rattle.std.proofs.Common.{◌≡◌, ℕ, suc, ◌<◌, ◌≤◌, List, ◌∷◌, length, Result, Ok, Err, Some, None, refl, sym, ap, ◌∙◌}
use Rattle.metering_model.specs.FirstFailure.{◌>>=◌}
use Rattle.metering_model.specs.Schedule.{Planned}
use Rattle.input_sections.specs.declared.faults.ScheduleFault.{ScheduleFault}
use Rattle.input_sections.specs.Sections.{Unread, left}
use Rattle.schedule_reader.specs.Schedules.{event_in, events_in}
use Rattle.schedule_reader.proofs.EventLoop.{nonempty, empty}
use Rattle.input_check.specs.Inner.Faults.{fault_of}

fault_behind : (e : Planned) (r : Result (List Planned) ScheduleFault) → fault_of (r >>= λ (rest : List Planned). Ok (e ∷ rest)) ≡ fault_of r
fault_behind e (Ok rest) = refl
fault_behind e (Err fault) = refl

pub fault_next : (most : ℕ) (u v : Unread) (e : Planned) → 0 < length (left u) → event_in u ≡ Ok (e, v)
    → fault_of (events_in (suc most) u) ≡ fault_of (events_in most v)
unfolding events_in
fault_next most u v e some is =
    ap fault_of (nonempty (left u) _ _ some ∙ ap (λ r. r >>= λ (e : Planned × Unread). events_in most e.1 >>= λ (es : List Planned). Ok (e.0 ∷ es)) is)
    ∙ fault_behind e (events_in most v)

pub fault_here : (most : ℕ) (u : Unread) (fault : ScheduleFault) → 0 < length (left u) → event_in u ≡ Err fault → fault_of (events_in (suc most) u) ≡ Some fault
unfolding events_in
fault_here most u fault some is =
    ap fault_of (nonempty (left u) _ _ some ∙ ap (λ r. r >>= λ (e : Planned × Unread). events_in most e.1 >>= λ (es : List Planned). Ok (e.0 ∷ es)) is)

pub fault_none : (most : ℕ) (u : Unread) → length (left u) ≤ 0 → fault_of (events_in (suc most) u) ≡ None
unfolding events_in
fault_none most u none = ap fault_of (empty (left u) _ _ none)

pub fault_end : (u : Unread) → fault_of (events_in 0 u) ≡ None
unfolding events_in
fault_end u = refl

-- ---- after some events, of which none has a fault

module _ (most : ℕ) (u : Unread) (k : ℕ) (v : Unread) where
  pub found_none : (n : ℕ) → n ≡ suc k → length (left v) ≤ 0 → fault_of (events_in most u) ≡ fault_of (events_in n v) → None ≡ fault_of (events_in most u)
  found_none n more none so = sym (so ∙ ap (λ m. fault_of (events_in m v)) more ∙ fault_none k v none)

  pub found_here : (n : ℕ) (fault : ScheduleFault) → n ≡ suc k → 0 < length (left v) → event_in v ≡ Err fault
      → fault_of (events_in most u) ≡ fault_of (events_in n v) → Some fault ≡ fault_of (events_in most u)
  found_here n fault more some is so = sym (so ∙ ap (λ m. fault_of (events_in m v)) more ∙ fault_here k v fault some is)

  pub found_next : (n : ℕ) (v' : Unread) (e : Planned) → n ≡ suc k → 0 < length (left v) → event_in v ≡ Ok (e, v')
      → fault_of (events_in most u) ≡ fault_of (events_in n v) → fault_of (events_in most u) ≡ fault_of (events_in k v')
  found_next n v' e more some is so = so ∙ ap (λ m. fault_of (events_in m v)) more ∙ fault_next k v v' e some is

pub found_at_end : (most : ℕ) (u v : Unread) (n : ℕ) → n ≡ 0 → fault_of (events_in most u) ≡ fault_of (events_in n v) → None ≡ fault_of (events_in most u)
found_at_end most u v n none so = sym (so ∙ ap (λ m. fault_of (events_in m v)) none ∙ fault_end v)
