-- What is found of a snapshot is so of the file of its period.
use Rattle.std.proofs.Common.{◌≡◌, ◌↔◌, ℕ, Bool, IsTrue, false, Result, Ok, Err, IfOk, sym, subst}
use Rattle.metering_model.specs.World.{World, Snapshot}
use Rattle.metering_model.specs.declared.Refusal.{Refusal}
use Rattle.metering_model.specs.Step.{snapshot}
use Rattle.group_state.specs.Charged.{ChargesAll, IsAllDue}

same_taken : (r : Result Snapshot Refusal) (t u : Snapshot) → r ≡ Ok t → r ≡ Ok u → t ≡ u
same_taken r t u one other = cc

pub all_of_answer : {E : Type 0} (w : World) (node period : ℕ) (t : Snapshot) (found : Result Bool E) → snapshot w node period ≡ Ok t
    → IfOk found (λ all. IsTrue all ↔ IsAllDue w t) → IfOk found (λ all. IsTrue all ↔ ChargesAll w node period)
all_of_answer w node period t (Ok all) is due =
    (λ yes. record { taken = t; answered = is; all = due.0 yes }, λ (c : ChargesAll w node period). due.1 (subst (IsAllDue w) (sym (same_taken (snapshot w node period) t c.taken is c.answered)) c.all))
all_of_answer w node period t (Err e) is due = tt

refused : (r : Result Snapshot Refusal) (t : Snapshot) (why : Refusal) → r ≡ Err why → r ≡ Ok t → ⊥
refused r t why one other = absurd (cc)

pub none_of_refused : (w : World) (node period : ℕ) (why : Refusal) → snapshot w node period ≡ Err why → IsTrue false ↔ ChargesAll w node period
none_of_refused w node period why is = (λ yes. absurd (cc), λ (c : ChargesAll w node period). absurd (refused (snapshot w node period) c.taken why is c.answered))
