-- What is read under a key has the form that its key wants.
use Rattle.std.proofs.Common.{◌≡◌, ℕ, ◌≤◌, ◌<◌, Bool, true, false, cond, List, Option, Some, None, Ok, Err, ok_or, ℤ, pos, unsigned_abs, int_le, nat_le, [], length, refl, subst, arith}
use Rattle.std.specs.Prelude.{IsTrue}
use Rattle.std.specs.Result.{result_ok}
use Rattle.std.proofs.lemmas.Bool.{and_parts, ltb-true, leb-true}
use Rattle.std.proofs.lemmas.Int.{ints}
use Rattle.toml.specs.Data.{Data, Members, get_member}
use Rattle.metering_model.specs.declared.NumberFault.TheVariants.{Range}
use Rattle.metering_model.specs.NumberText.{price_within, magnitude_in, price_limit}
use Rattle.metering_model.specs.Dates.{IsBaseMonth, day_in}
use Rattle.metering_model.specs.SheetRules.{is_label, IsDay}
use Rattle.metering_model.specs.FirstFailure.{holds_or}
use Rattle.metering_model.proofs.StepLaws.{step_iff, ok_same}
use Rattle.metering_model.proofs.DayLaws.{day_read}
use Rattle.sheet_text.specs.Names.{Key, key_name}
use Rattle.sheet_text.specs.Keys.{label_under, day_under, base_under, price_under, per_under, rows_in, rows_or_none, rows_under}

pub holds_true : {E : Type 0} (b : Bool) (e : E) (u : Unit {0}) → holds_or b e ≡ Ok u → b ≡ true
holds_true true e u h = refl
holds_true false e u h = absurd (cc)

some_of_ok : {A E : Type 0} (o : Option A) (e : E) (x : A) → ok_or o e ≡ Ok x → o ≡ Some x
some_of_ok (Some y) e x h = cc
some_of_ok None e x h = absurd (cc)

pub label_read : (key : Key) (table : Members) (x : List ℕ) → label_under key table ≡ Ok x → IsTrue (is_label x)
unfolding label_under
label_read key table x h =
    let text = simp step_iff at h in
    subst (λ t. is_label t ≡ true) (ok_same text.0 x text.2.2) (holds_true (is_label text.0) _ _ text.2.1)

pub day_is_read : (key : Key) (table : Members) (d : ℤ) → day_under key table ≡ Ok d → IsDay d
unfolding day_under
day_is_read key table d h =
    let text = simp step_iff at h in
    (text.0, day_read text.0 d (some_of_ok (day_in text.0) _ d text.2))

within_limit : (b : Bool) (m n : ℕ) → result_ok (cond b (Ok m) (Err Range)) ≡ Some n → (b ≡ true) × (m ≡ n)
within_limit true m n h = (refl, cc)
within_limit false m n h = absurd (cc)

below_limit : (o : Option ℕ) (n : ℕ) → result_ok (price_within o) ≡ Some n → n < price_limit
below_limit None n h = absurd (cc)
below_limit (Some m) n h =
    let parts = within_limit _ m n h in
    subst (λ k. k < price_limit) parts.1 (ltb-true m price_limit parts.0)

pub price_is_read : (key : Key) (table : Members) (n : ℕ) → price_under key table ≡ Ok n → n < price_limit
unfolding price_under
price_is_read key table n h =
    let text = simp step_iff at h in
    below_limit (magnitude_in 6 text.0) n (some_of_ok _ _ n text.2)

in_range : (z : ℤ) → int_le (pos 1) z ≡ true → int_le z (pos 1_000_000_000) ≡ true → (1 ≤ unsigned_abs z) × (unsigned_abs z ≤ 1_000_000_000)
in_range z low high = (grind (arith, ints), grind (arith, ints))

pub per_is_read : (key : Key) (table : Members) (n : ℕ) → per_under key table ≡ Ok n → (1 ≤ n) × (n ≤ 1_000_000_000)
unfolding per_under
per_is_read key table n h =
    let value = simp step_iff at h in
    let number = value.2 in
    let both = and_parts (int_le (pos 1) number.0) (int_le number.0 (pos 1_000_000_000)) (holds_true _ _ _ number.2.1) in
    subst (λ k. (1 ≤ k) × (k ≤ 1_000_000_000)) (ok_same (unsigned_abs number.0) n number.2.2) (in_range number.0 both.0 both.1)

pub base_is_read : (key : Key) (table : Members) (m : ℕ) → base_under key table ≡ Ok m → IsBaseMonth m
unfolding base_under
base_is_read key table m h =
    let text = simp step_iff at h in
    let month = text.2 in
    let both = and_parts (nat_le 24_000 month.0) (nat_le month.0 25_211) (holds_true _ _ _ month.2.1) in
    subst IsBaseMonth (ok_same month.0 m month.2.2) (leb-true 24_000 month.0 both.0, leb-true month.0 25_211 both.1)

-- the rows under a key
few_rows : (key : Key) (value : Data) (tables : List Members) → rows_in key value ≡ Ok tables → length tables ≤ 10_000
unfolding rows_in
few_rows key value tables h =
    let items = simp step_iff at h in
    let read = items.2 in
    subst (λ t. length t ≤ 10_000) (ok_same read.0 tables read.2.2) (leb-true (length read.0) 10_000 (holds_true _ _ _ read.2.1))

few_or_none : (key : Key) (found : Option Data) (tables : List Members) → rows_or_none key found ≡ Ok tables → length tables ≤ 10_000
few_or_none key None tables h = subst (λ t. length t ≤ 10_000) (ok_same [] tables h) (omega arith)
few_or_none key (Some value) tables h = few_rows key value tables h

pub few_under : (key : Key) (table : Members) (tables : List Members) → rows_under key table ≡ Ok tables → length tables ≤ 10_000
unfolding rows_under
few_under key table tables h = few_or_none key (get_member (key_name key) table) tables h
