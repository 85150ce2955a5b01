-- The headline of every reached world.
use Rattle.std.proofs.Common.{◌≡◌, ℕ, zero, suc, List, [], ◌∷◌, ◌++◌, refl, sym, ap, subst, ◌∙◌, Some}
use Rattle.std.specs.Prelude.{slice_get}
use Rattle.std.proofs.lemmas.Option.{same_Some, none-some}
use Rattle.metering_model.specs.Cut.{Cut}
use Rattle.metering_model.specs.Limits.{most_packets}
use Rattle.metering_model.specs.World.{World, Snapshot, voter_count, opening}
use Rattle.group_laws.specs.Headline.{AtMostOneIsChosen, AreTheCuts, IsExport}
use Rattle.group_laws.proofs.Forms.{HasForms-opening, play_kept}
use Rattle.group_laws.proofs.Fits.{IsFitting, IsFitting-steps, IsFitting-opening}
use Rattle.group_laws.proofs.Agreed.{the_cuts, one_chosen, are_the_cuts}
use Rattle.group_laws.proofs.Exports.{one_export}
use Rattle.group_laws.proofs.ChargedOnce.{charged_once}
use Rattle.group_state.specs.Reached.{IsReached}
use Rattle.group_core.specs.Headline.{HasOneList, LearnsWhatIsChosen, ChargesOnce, IsExportOf}

-- ---- there is one list

-- lists that have the same entries
same_lists : {A : Type 0} (xs ys : List A) → ((q : ℕ) (x : A) → slice_get xs q ≡ Some x → slice_get ys q ≡ Some x) → ((q : ℕ) (y : A) → slice_get ys q ≡ Some y → slice_get xs q ≡ Some y) → xs ≡ ys
same_lists [] [] h k = refl
same_lists [] (y ∷ ys) h k = absurd (none-some y (k 0 y refl))
same_lists (x ∷ xs) [] h k = absurd (none-some x (h 0 x refl))
same_lists (x ∷ xs) (y ∷ ys) h k =
    let first : y ≡ x = same_Some y x (h 0 x refl) in
    ap (λ z. z ∷ xs) (sym first) ∙ ap (λ zs. y ∷ zs) (same_lists xs ys (λ q z e. h (suc q) z e) (λ q z e. k (suc q) z e))

pub same_cuts : (w : World) (cuts others : List Cut) → AreTheCuts w cuts → AreTheCuts w others → cuts ≡ others
same_cuts w cuts others are were = same_lists cuts others (λ p c e. (were.chosen p c).1 ((are.chosen p c).0 e)) (λ p c e. (are.chosen p c).1 ((were.chosen p c).0 e))

-- an entry of a list is one of a list that goes on behind it
pub get_in_longer : {A : Type 0} (xs rest : List A) (k : ℕ) (x : A) → slice_get xs k ≡ Some x → slice_get (xs ++ rest) k ≡ Some x
get_in_longer [] rest k x e = absurd (none-some x e)
get_in_longer (y ∷ xs) rest zero x e = e
get_in_longer (y ∷ xs) rest (suc k) x e = get_in_longer xs rest k x e

pub chosen_if_learned : (w : World) (cuts : List Cut) → AreTheCuts w cuts → LearnsWhatIsChosen w
chosen_if_learned w cuts are = record {
  chosen = λ n period cut has e.
      let goes_on = are.learned n has in
      (are.chosen period cut).0 (subst (λ xs. slice_get xs period ≡ Some cut) goes_on.1 (get_in_longer n.kept.learned goes_on.0 period cut e));
}

-- ---- what the run that led here keeps

pub fitting_here : (w : World) → IsReached w → IsFitting (voter_count w) w
fitting_here w h =
    let begun : World = opening h.voters h.observers h.agents h.sheet h.issuer in
    let led : IsFitting h.voters w = subst (IsFitting h.voters) h.leads
    (play_kept (IsFitting h.voters) (IsFitting-steps h.voters) h.events begun (HasForms-opening most_packets h.voters h.observers h.agents h.sheet h.issuer) (IsFitting-opening most_packets h.voters h.observers h.agents h.sheet h.issuer)) in
    subst (λ N. IsFitting N w) (sym led.told.kept.count) led

module _ (w : World) (h : IsReached w) where
  pub list_here : List Cut
  list_here = the_cuts w (fitting_here w h)

  pub are_list_here : AreTheCuts w list_here
  unfolding list_here
  are_list_here = are_the_cuts w (fitting_here w h)

  pub one_chosen_here : AtMostOneIsChosen w
  one_chosen_here = one_chosen w (fitting_here w h)

  pub one_list_here : HasOneList w
  one_list_here = record { cuts = list_here; are_the_cuts = are_list_here; no_other = λ others are. same_cuts w others list_here are are_list_here }

  pub learned_here : LearnsWhatIsChosen w
  learned_here = chosen_if_learned w list_here are_list_here

  pub charged_once_here : ChargesOnce w
  unfolding list_here
  charged_once_here = record { cuts = list_here; are_the_cuts = are_list_here; charged_once = charged_once w (fitting_here w h) }

-- ---- exports

pub same_exports : (w : World) (s t : Snapshot) → IsExportOf w s → IsExportOf w t → s.period ≡ t.period → s ≡ t
same_exports w s t x y same =
    one_export w x.cuts s t x.is_export (subst (λ cuts. IsExport w cuts t) (same_cuts w y.cuts x.cuts y.are_the_cuts x.are_the_cuts) y.is_export) same
