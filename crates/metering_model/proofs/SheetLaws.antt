-- What holds of each row of a sheet holds of the price, of the commitment and of the region that a reading finds there.
use Rattle.std.proofs.Common.{◌≡◌, ℕ, List, [], ◌∷◌, Option, Some, None, sym, subst, ◌∙◌, inl, inr, Bool}
use Rattle.std.specs.Prelude.{All, find, int_lt}
use Rattle.std.specs.Option.{option_and_then}
use Rattle.std.proofs.lemmas.Bool.{cond-true, cond-false, cases_Bool}
use Rattle.std.proofs.lemmas.Option.{same_Some}
use Rattle.std.proofs.lemmas.List.Elements.{All-head, All-tail, All-filter}
use Rattle.metering_model.specs.Batch.{Reading, is_priced}
use Rattle.metering_model.specs.BatchReading.{is_same}
use Rattle.metering_model.specs.Sheet.{Sheet, PriceRow, Commitment, Region}
use Rattle.metering_model.specs.PriceInForce.{later_of, latest, commitment_with, region_with}
use Rattle.metering_model.specs.Row.{price_of, commitment_of, or_null}
use Rattle.metering_model.proofs.DayLaws.{when_some}

later_has : (P : PriceRow → Type 0) (r : PriceRow) (o : Option PriceRow) (p : PriceRow) → P r → ((s : PriceRow) → o ≡ Some s → P s) → later_of r o ≡ Some p → P p
later_has P r None p here there e = subst P (same_Some r p e) here
later_has P r (Some s) p here there e = elim (cases_Bool (int_lt r.from s.from)) [
  | inl t ↦ there p (sym (cond-true (int_lt r.from s.from) (Some s) (Some r) t) ∙ e)
  | inr f ↦ subst P (same_Some r p (sym (cond-false (int_lt r.from s.from) (Some s) (Some r) f) ∙ e)) here
]

pub latest_has : (P : PriceRow → Type 0) (rs : List PriceRow) (p : PriceRow) → All P rs → latest rs ≡ Some p → P p
latest_has P [] p all e = absurd (cc)
latest_has P (r ∷ rs) p all e = later_has P r (latest rs) p (All-head P r rs all) (λ s f. latest_has P rs s (All-tail P r rs all) f) e

find_has : {A : Type 0} (P : A → Type 0) (test : A → Bool) (xs : List A) (y : A) → All P xs → find test xs ≡ Some y → P y
find_has P test [] y all e = absurd (cc)
find_has P test (x ∷ xs) y all e = elim (cases_Bool (test x)) [
  | inl t ↦ subst P (same_Some x y (sym (cond-true (test x) (Some x) (find test xs) t) ∙ e)) (All-head P x xs all)
  | inr f ↦ find_has P test xs y (All-tail P x xs all) (sym (cond-false (test x) (Some x) (find test xs) f) ∙ e)
]

pub price_has : (P : PriceRow → Type 0) (sheet : Sheet) (r : Reading) (p : PriceRow) → All P sheet.prices → price_of sheet r ≡ Some p → P p
price_has P sheet r p all e = latest_has P _ p (All-filter _ P sheet.prices all) (when_some (is_priced r.kind) _ p e).1

pub commitment_has : (P : Commitment → Type 0) (sheet : Sheet) (r : Reading) (c : Commitment) → All P sheet.commitments → commitment_of sheet r ≡ Some c → P c
commitment_has P sheet r c all e = named (or_null r.commitment) (when_some (is_priced r.kind) _ c e).1
  where
    named : (o : Option (List ℕ)) → option_and_then (commitment_with sheet) o ≡ Some c → P c
    named None f = absurd (cc)
    named (Some id) f = find_has P (λ d. is_same d.id id) sheet.commitments c all f

pub region_has : (P : Region → Type 0) (sheet : Sheet) (id : List ℕ) (x : Region) → All P sheet.regions → region_with sheet id ≡ Some x → P x
region_has P sheet id x all e = find_has P (λ y. is_same y.id id) sheet.regions x all e
