-- Where the file of each period from 0 on is shown, the shown files are those of the cuts, so they add up as those do.
use Rattle.std.proofs.Common.{◌≡◌, ℕ, zero, suc, ◌+◌, List, [], ◌∷◌, length, map, take, refl, sym, ap, ap₂, ◌∙◌, arith, Some}
use Rattle.std.specs.Prelude.{slice_get}
use Rattle.std.proofs.lemmas.Option.{same_Some, none-some}
use Rattle.metering_model.specs.Sheet.{Sheet, Issuer}
use Rattle.metering_model.specs.Cut.{Cut, GrowsFrom, IsGrowing, zero_cut}
use Rattle.metering_model.specs.Holding.{Holding}
use Rattle.metering_model.specs.Rows.{rows}
use Rattle.metering_model.specs.File.{file}
use Rattle.metering_model.specs.Step.{cut_before}
use Rattle.row_laws.specs.Charged.{files_over, files}
use Rattle.row_laws.proofs.EachFile.{cut_before_is}

-- the first of growing cuts grow
grows_on : (from : Cut) (cuts : List Cut) (n : ℕ) → GrowsFrom from cuts → GrowsFrom from (take n cuts)
grows_on from cuts zero h = tt
grows_on from [] (suc n) h = tt
grows_on from (c ∷ cs) (suc n) h = (h.0, grows_on c cs n h.1)

pub first_grow : (agents : ℕ) (cuts : List Cut) (n : ℕ) → IsGrowing agents cuts → IsGrowing agents (take n cuts)
first_grow agents cuts n h = grows_on (zero_cut agents) cuts n h

module _ (sheet : Sheet) (issuer : Issuer) (h : Holding) where
  -- each text is the file of its period, counted from this one, between two neighbours of a list of cuts
  abbrev AreTheFiles : ℕ → Cut → List Cut → List (List ℕ) → Type 0
  AreTheFiles q before cuts texts =
      (p : ℕ) (one : List ℕ) → slice_get texts p ≡ Some one →
      (from to : Cut) × (slice_get (before ∷ cuts) p ≡ Some from) × (slice_get cuts p ≡ Some to) × (one ≡ file (rows sheet issuer h (q + p) from to))

  later_files : (q : ℕ) (before c : Cut) (cuts : List Cut) (t : List ℕ) (texts : List (List ℕ)) → AreTheFiles q before (c ∷ cuts) (t ∷ texts) → AreTheFiles (q + 1) c cuts texts
  later_files q before c cuts t texts are p one e =
      let it = are (suc p) one e in
      let period : q + suc p ≡ q + 1 + p = omega arith in
      (it.0, it.1, it.2, it.3, it.4 ∙ ap (λ n. file (rows sheet issuer h n it.0 it.1)) period)

  files_from : (q : ℕ) (before : Cut) (cuts : List Cut) (texts : List (List ℕ)) → AreTheFiles q before cuts texts → texts ≡ map file (files_over sheet issuer h q before (take (length texts) cuts))
  files_from q before cuts [] are = refl
  files_from q before [] (t ∷ texts) are = let it = are 0 t refl in absurd (none-some it.1 it.3)
  files_from q before (c ∷ cuts) (t ∷ texts) are =
      let it = are 0 t refl in
      let period : q + 0 ≡ q = omega arith in
      let first : t ≡ file (rows sheet issuer h q before c) =
      it.4 ∙ (ap (λ n. file (rows sheet issuer h n it.0 it.1)) period ∙ (ap (λ x. file (rows sheet issuer h q x it.1)) (sym (same_Some before it.0 it.2)) ∙ ap (λ x. file (rows sheet issuer h q before x)) (sym (same_Some c it.1 it.3)))) in
      ap₂ ◌∷◌ first (files_from (q + 1) c cuts texts (later_files q before c cuts t texts are))

  -- so texts of all periods from 0 on are the files of these cuts
  pub are_the_files : (agents : ℕ) (cuts : List Cut) (texts : List (List ℕ)) →
      ((p : ℕ) (one : List ℕ) → slice_get texts p ≡ Some one → (to : Cut) × (slice_get cuts p ≡ Some to) × (one ≡ file (rows sheet issuer h p (cut_before agents cuts p) to))) →
      texts ≡ map file (files sheet issuer h agents (take (length texts) cuts))
  are_the_files agents cuts texts each = files_from 0 (zero_cut agents) cuts texts at_zero
    where
      at_zero : AreTheFiles 0 (zero_cut agents) cuts texts
      at_zero p one e =
          let it = each p one e in
          let period : p ≡ 0 + p = omega arith in
          (cut_before agents cuts p, it.0, cut_before_is agents cuts p it.0 it.1, it.1, it.2 ∙ ap (λ n. file (rows sheet issuer h n (cut_before agents cuts p) it.0)) period)
