-- What it says of a line that nothing was split off it.
use Rattle.std.proofs.Common.{◌≡◌, ℕ, ◌<◌, ◌==◌, ◌||◌, Bool, true, false, Some, List, ◌∷◌, is_some, length, get_or, refl, sym, ap, subst, ◌∙◌, arith}
use Rattle.std.specs.List.{list_any, position, position_or_len}
use Rattle.std.proofs.lemmas.Bool.{and_parts, eqb-true, eq-eqb, false≢true, ltb-true}
use Rattle.std.proofs.lemmas.Bool.Decides.{nat_tests}
use Rattle.std.proofs.lemmas.List.{length-take-le}
use Rattle.std.proofs.lemmas.List.Folds.{list_all_at}
use Rattle.std.proofs.lemmas.List.Sums.{fails_before_first, passes_at_first}
use Rattle.metering_model.specs.Dates.{has_stamp_form, stamp_in}
use Rattle.utc_calendar.proofs.StampTexts.{no_form}
use Rattle.record_view.specs.Parts.{LentText, part_before, parts_at}
use Rattle.record_view.specs.Inner.Placed.{IsPlaced}
use Rattle.record_view.specs.Inner.Plain.{stops_at}
use Rattle.record_view.specs.Plain.{is_plain_byte, is_plain_line}
use Rattle.record_view.proofs.PartLaws.{found_at, within_any, parts_split, parts_whole}

-- ---- the first part of two or more

-- The byte stands there, and nowhere before.
pub record IsFirstAt (byte : ℕ) (t : List ℕ) (place : ℕ) : Type 0 where
  pub within : place < length t
  pub here : get_or t place 0 ≡ byte
  pub before : (k : ℕ) → k < place → get_or t k 0 ≡ byte → ⊥

first_at : (byte : ℕ) (t : LentText) → position_or_len (λ c. c == byte) t.text < length t.text → IsFirstAt byte t.text (position_or_len (λ c. c == byte) t.text)
first_at byte t within = record {
  within = within;
  here = eqb-true _ _ (passes_at_first (λ c. c == byte) t.text 0 within);
  before = λ k below e. false≢true (sym (fails_before_first (λ c. c == byte) t.text k 0 below) ∙ eq-eqb _ _ e);
}

pub first_of_two : (byte : ℕ) (t first second : LentText) (others : List LentText) → IsPlaced t → parts_at byte t ≡ first ∷ second ∷ others
    → IsFirstAt byte t.text (length first.text)
first_of_two byte t first second others placed h = by_test (list_any (λ c. c == byte) t.text) refl
  where
    by_test : (b : Bool) → list_any (λ c. c == byte) t.text ≡ b → IsFirstAt byte t.text (length first.text)
    by_test false e =
        let one = sym (parts_whole byte t placed e) ∙ h in
        absurd (omega (arith, ap length one))
    by_test true e =
        let within = ltb-true _ _ (within_any (λ c. c == byte) t.text ∙ e) in
        let split = sym (parts_split byte t within) ∙ h in
        let same : part_before byte t ≡ first = cc split in
        let long = sym (length-take-le (position_or_len (λ c. c == byte) t.text) t.text (omega arith)) ∙ ap (λ p. length p.text) same in
        subst (IsFirstAt byte t.text) long (first_at byte t within)

stamp_long : (t : List ℕ) → is_some (stamp_in t) ≡ true → length t ≡ 20
stamp_long t h = by_form (has_stamp_form t) refl
  where
    by_form : (b : Bool) → has_stamp_form t ≡ b → length t ≡ 20
    by_form true e = eqb-true _ _ (and_parts _ _ (and_parts _ _ e).0).0
    by_form false e = absurd (false≢true (ap is_some (no_form t e) ∙ h))

-- where the first of them is a stamp, it ends at the twentieth byte
pub stamp_of_two : (t first second : LentText) (others : List LentText) → IsPlaced t → parts_at 124 t ≡ first ∷ second ∷ others
    → is_some (stamp_in first.text) ≡ true → IsFirstAt 124 t.text 20
stamp_of_two t first second others placed h stamp =
    subst (IsFirstAt 124 t.text) (stamp_long first.text stamp) (first_of_two 124 t first second others placed h)

-- and where it is one byte, at the second
pub byte_of_two : (t first second : LentText) (others : List LentText) → IsPlaced t → parts_at 124 t ≡ first ∷ second ∷ others
    → length first.text ≡ 1 → IsFirstAt 124 t.text 1
byte_of_two t first second others placed h one =
    subst (IsFirstAt 124 t.text) one (first_of_two 124 t first second others placed h)

-- ---- a line of plain bytes and bars

is_bar : (c : ℕ) → stops_at 124 c ≡ true → (c ≡ 124 → ⊥) → (is_plain_byte c || c == 124) ≡ false
is_bar c h other = grind (arith, nat_tests)

-- a scan of it stops at bars alone
pub stops_at_bar : (ts : List ℕ) (i : ℕ) → position (stops_at 124) ts ≡ Some i → (get_or ts i 0 ≡ 124 → ⊥) → is_plain_line ts ≡ false
stops_at_bar ts i h other =
    let found = found_at (stops_at 124) ts i h in
    let stops = ap (λ n. stops_at 124 (get_or ts n 0)) (sym found.0) ∙ passes_at_first (stops_at 124) ts 0 (omega arith) in
    list_all_at (λ c. is_plain_byte c || c == 124) ts i 0 found.1 (is_bar (get_or ts i 0) stops other)
