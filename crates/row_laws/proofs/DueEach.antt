-- Cuts reach what is due, said period by period.
use Rattle.std.proofs.Common.{◌≡◌, ℕ, suc, ◌+◌, List, [], ◌∷◌, refl, sym, subst, ◌∙◌, arith, Some}
use Rattle.std.specs.Prelude.{slice_get}
use Rattle.metering_model.specs.Cut.{Cut, zero_cut}
use Rattle.metering_model.specs.Holding.{Holding}
use Rattle.metering_model.specs.Front.{AreDueBetween}
use Rattle.std.proofs.lemmas.Option.{same_Some}
use Rattle.metering_model.specs.Step.{cut_before}
use Rattle.row_laws.specs.Due.{AreDueFrom, AreDueOver}
use Rattle.row_laws.proofs.EachFile.{cut_before_is}

due_from : (base q : ℕ) (h : Holding) (before : Cut) (cuts : List Cut) →
    ((p : ℕ) (from to : Cut) → slice_get (before ∷ cuts) p ≡ Some from → slice_get cuts p ≡ Some to → AreDueBetween base (q + p) h from to) →
    AreDueFrom base q h before cuts
due_from base q h before [] each = tt
due_from base q h before (c ∷ cs) each =
    let period : q + 0 ≡ q = omega arith in (
      subst (λ n. AreDueBetween base n h before c) period (each 0 before c refl refl),
      due_from base (q + 1) h c cs (λ p from to e f.
          let next : q + suc p ≡ q + 1 + p = omega arith in
          subst (λ n. AreDueBetween base n h from to) next (each (suc p) from to e f)),
    )

pub due_each : (base : ℕ) (h : Holding) (agents : ℕ) (cuts : List Cut) →
    ((period : ℕ) (to : Cut) → slice_get cuts period ≡ Some to → AreDueBetween base period h (cut_before agents cuts period) to) →
    AreDueOver base h agents cuts
due_each base h agents cuts each = due_from base 0 h (zero_cut agents) cuts (λ p from to e f.
    let same : from ≡ cut_before agents cuts p = same_Some from (cut_before agents cuts p) (sym e ∙ cut_before_is agents cuts p to f) in
    let period : p ≡ 0 + p = omega arith in
    subst (λ c. AreDueBetween base (0 + p) h c to) (sym same) (subst (λ n. AreDueBetween base n h (cut_before agents cuts p) to) period (each p to f)))
