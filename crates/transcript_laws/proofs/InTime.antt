-- Each cut adds only what is due, so what lies below it was due for an earlier period, and no charge starts too late.
use Rattle.std.proofs.Common.{◌≡◌, ℕ, zero, suc, ◌≤◌, List, ap, subst, arith, Some, inl, inr, unwrap_or}
use Rattle.std.specs.Prelude.{slice_get}
use Rattle.std.proofs.lemmas.Bool.{cases_lt}
use Rattle.metering_model.specs.Cut.{Cut, zero_cut, last_of}
use Rattle.metering_model.specs.Holding.{Holding}
use Rattle.metering_model.specs.Front.{AreDueBetween}
use Rattle.metering_model.specs.Step.{cut_before}
use Rattle.row_laws.specs.Due.{WereDueBefore}
use Rattle.group_laws.proofs.Agreed.{earlier_entry, last_of-zero}

pub were_due : (base agents : ℕ) (h : Holding) (cuts : List Cut) →
    ((period : ℕ) (to : Cut) → slice_get cuts period ≡ Some to → AreDueBetween base period h (cut_before agents cuts period) to) →
    (period : ℕ) (to : Cut) → slice_get cuts period ≡ Some to → WereDueBefore base period h (cut_before agents cuts period)
were_due base agents h cuts due zero to e agent seq some upto = let none = last_of-zero agents agent in absurd (omega (arith, some, upto, none))
were_due base agents h cuts due (suc p) to e agent seq some upto =
    let one = earlier_entry cuts p to e in
    let same : cut_before agents cuts (suc p) ≡ one.0 = ap (λ o. unwrap_or o (zero_cut agents)) one.1 in
    let within : seq ≤ last_of one.0 agent = subst (λ (c : Cut). seq ≤ last_of c agent) same upto in
    elim (cases_lt (last_of (cut_before agents cuts p) agent) seq) [
      | inl above ↦ (p, omega arith, due p one.0 one.1 agent seq above within)
      | inr below ↦
          let was = were_due base agents h cuts due p one.0 one.1 agent seq some below in
          let earlier = was.1 in
          (was.0, omega (arith, earlier), was.2)
    ]
