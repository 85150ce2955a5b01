-- The file of each period is that between its cut and the one before it.
use Rattle.std.proofs.Common.{◌≡◌, ℕ, zero, suc, ◌+◌, List, [], ◌∷◌, refl, ap, ◌∙◌, arith, Option, Some, None, unwrap_or}
use Rattle.std.specs.Prelude.{slice_get}
use Rattle.std.proofs.lemmas.Option.{same_Some, none-some}
use Rattle.metering_model.specs.Sheet.{Sheet, Issuer}
use Rattle.metering_model.specs.Cut.{Cut, zero_cut}
use Rattle.metering_model.specs.Holding.{Holding}
use Rattle.metering_model.specs.Rows.{rows}
use Rattle.metering_model.specs.Step.{cut_before}
use Rattle.row_laws.specs.Charged.{files_over, files}

file_over : (sheet : Sheet) (issuer : Issuer) (h : Holding) (q : ℕ) (before : Cut) (cuts : List Cut) (p : ℕ) (from to : Cut) →
    slice_get (before ∷ cuts) p ≡ Some from → slice_get cuts p ≡ Some to →
    slice_get (files_over sheet issuer h q before cuts) p ≡ Some (rows sheet issuer h (q + p) from to)
file_over sheet issuer h q before [] p from to e f = absurd (none-some to f)
file_over sheet issuer h q before (c ∷ cs) zero from to e f =
    let period : q ≡ q + 0 = omega arith in
    let here : slice_get (files_over sheet issuer h q before (c ∷ cs)) 0 ≡ Some (rows sheet issuer h (q + 0) before c) =
    ap (λ n. Some (rows sheet issuer h n before c)) period in
    here ∙ (ap (λ x. Some (rows sheet issuer h (q + 0) x c)) (same_Some before from e) ∙ ap (λ x. Some (rows sheet issuer h (q + 0) from x)) (same_Some c to f))
file_over sheet issuer h q before (c ∷ cs) (suc p) from to e f =
    let period : q + 1 + p ≡ q + suc p = omega arith in
    file_over sheet issuer h (q + 1) c cs p from to e f ∙ ap (λ n. Some (rows sheet issuer h n from to)) period

before_is : (agents : ℕ) (z : Cut) (cuts : List Cut) (p : ℕ) (to : Cut) → slice_get cuts p ≡ Some to → slice_get (z ∷ cuts) p ≡ Some (unwrap_or (slice_get (z ∷ cuts) p) z)
before_is agents z [] p to e = absurd (none-some to e)
before_is agents z (c ∷ cs) zero to e = refl
before_is agents z (c ∷ cs) (suc zero) to e = refl
before_is agents z (c ∷ cs) (suc (suc p)) to e = some_same (slice_get cs p) (before_is agents c cs (suc p) to e)
  where
    some_same : (o : Option Cut) → o ≡ Some (unwrap_or o c) → o ≡ Some (unwrap_or o z)
    some_same None g = absurd (none-some c g)
    some_same (Some x) g = refl

-- of a period that has a cut, the cut before it stands at its number in the list that begins with the zero cut
pub cut_before_is : (agents : ℕ) (cuts : List Cut) (p : ℕ) (to : Cut) → slice_get cuts p ≡ Some to → slice_get (zero_cut agents ∷ cuts) p ≡ Some (cut_before agents cuts p)
cut_before_is agents cuts zero to e = refl
cut_before_is agents cuts (suc p) to e = before_is agents (zero_cut agents) cuts (suc p) to e

pub each_file : (sheet : Sheet) (issuer : Issuer) (h : Holding) (agents : ℕ) (cuts : List Cut) (p : ℕ) (to : Cut) → slice_get cuts p ≡ Some to →
    slice_get (files sheet issuer h agents cuts) p ≡ Some (rows sheet issuer h p (cut_before agents cuts p) to)
each_file sheet issuer h agents cuts p to e =
    let period : 0 + p ≡ p = omega arith in
    file_over sheet issuer h 0 (zero_cut agents) cuts p (cut_before agents cuts p) to (cut_before_is agents cuts p to e) e
    ∙ ap (λ n. Some (rows sheet issuer h n (cut_before agents cuts p) to)) period
