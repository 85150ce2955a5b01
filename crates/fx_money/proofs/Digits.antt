-- What the loops over digits keep.
use Rattle.std.proofs.Common.{◌≡◌, ℕ, zero, suc, ◌+◌, ◌-◌, ◌*◌, ◌^◌, ◌/◌, ◌<◌, ◌≤◌, true, List, [], ◌∷◌, length, get_or, drop, refl, sym, ap, ◌∙◌, arith, add-one}
use Rattle.std.specs.List.{list_all, fold}
use Rattle.std.proofs.lemmas.List.{drop_more, drop_all}
use Rattle.std.proofs.lemmas.Bool.{and_parts}
use Rattle.std.proofs.lemmas.Bool.Decides.{nat_tests}
use Rattle.std.proofs.Math.Nat.{pow-suc}
use Rattle.metering_model.specs.NumberText.{is_digit, number_of, worth_of}

-- ---- digits

-- a byte from `0` to `9`
pub record IsDigit (c : ℕ) : Type 0 where
  pub low : 48 ≤ c
  pub high : c ≤ 57

pub IsDigit-from_test : (c : ℕ) → is_digit c ≡ true → IsDigit c
IsDigit-from_test c h = record { low = grind (arith, nat_tests); high = grind (arith, nat_tests) }

-- what stands from a place on is the byte there and what stands behind it
digits_from : (ds : List ℕ) (i : ℕ) → i < length ds → list_all is_digit (drop i ds) ≡ true → list_all is_digit (get_or ds i 0 ∷ drop (i + 1) ds) ≡ true
digits_from ds i lt all = sym (ap (list_all is_digit) (drop_more ds i 0 lt)) ∙ all

digit_at : (ds : List ℕ) (i : ℕ) → i < length ds → list_all is_digit (drop i ds) ≡ true → IsDigit (get_or ds i 0)
digit_at ds i lt all = IsDigit-from_test _ (and_parts _ _ (digits_from ds i lt all)).0

digits_behind : (ds : List ℕ) (i : ℕ) → i < length ds → list_all is_digit (drop i ds) ≡ true → list_all is_digit (drop (i + 1) ds) ≡ true
digits_behind ds i lt all = (and_parts _ _ (digits_from ds i lt all)).1

-- ---- the number that digits write

-- what n becomes by further digits
abbrev pub number_after : ℕ → List ℕ → ℕ
number_after n ds = fold (λ n c. 10 * n + (c - 48)) n ds

number_after_grows : (n : ℕ) (ds : List ℕ) → n ≤ number_after n ds
number_after_grows n [] = omega arith
number_after_grows n (c ∷ cs) = omega (arith, number_after_grows (10 * n + (c - 48)) cs)

-- i of the digits are read and give n
pub record IsReadTo (ds : List ℕ) (i n : ℕ) : Type 0 where
  pub digits : list_all is_digit (drop i ds) ≡ true
  pub whole : number_after n (drop i ds) ≡ number_of ds

pub read_step : (ds : List ℕ) (i n : ℕ) → i < length ds → IsReadTo ds i n → IsReadTo ds (i + 1) (10 * n + (get_or ds i 0 - 48))
read_step ds i n lt r = record {
  digits = digits_behind ds i lt r.digits;
  whole = sym (ap (number_after n) (drop_more ds i 0 lt)) ∙ r.whole;
}

-- the digits to come make a number no smaller
pub read_so_far : (ds : List ℕ) (i n : ℕ) → IsReadTo ds i n → n ≤ number_of ds
read_so_far ds i n r = omega (arith, number_after_grows n (drop i ds), r.whole)

-- ---- what the digits behind the point are worth

power_step : (p : ℕ) → 10 ^ (p + 1) ≡ 10 * 10 ^ p
power_step p = rw add-one (omega (arith, pow-suc 10 p))

pub worth_none : (p : ℕ) → worth_of p [] ≡ 0
unfolding worth_of
worth_none zero = refl
worth_none (suc p) = refl

worth_cons : (p c : ℕ) (cs : List ℕ) → worth_of (p + 1) (c ∷ cs) ≡ (c - 48) * 10 ^ p + worth_of p cs
unfolding worth_of
worth_cons p c cs = rw add-one refl

worth_step : (p : ℕ) (ds : List ℕ) (i : ℕ) → i < length ds → worth_of (p + 1) (drop i ds) ≡ (get_or ds i 0 - 48) * 10 ^ p + worth_of p (drop (i + 1) ds)
worth_step p ds i lt = ap (worth_of (p + 1)) (drop_more ds i 0 lt) ∙ worth_cons p (get_or ds i 0) (drop (i + 1) ds)

-- i of at most six digits are summed, of which the last is worth so many units
pub record IsSummedTo (ds : List ℕ) (i unit sum : ℕ) : Type 0 where
  pub few : length ds ≤ 6
  pub digits : list_all is_digit (drop i ds) ≡ true
  pub unit_is : unit ≡ 10 ^ (6 - i)
  pub whole : sum + worth_of (6 - i) (drop i ds) ≡ worth_of 6 ds
  pub small : sum + unit ≤ 1_000_000

pub sum_ends : (ds : List ℕ) (i unit sum : ℕ) → length ds ≤ i → IsSummedTo ds i unit sum → sum ≡ worth_of 6 ds
sum_ends ds i unit sum past s =
    let rest : worth_of (6 - i) (drop i ds) ≡ 0 = ap (worth_of (6 - i)) (drop_all i ds past) ∙ worth_none _ in
    omega (arith, s.whole, rest)

digit_times : (d unit : ℕ) → d ≤ 9 → d * unit ≤ 9 * unit
digit_times d unit h = grind arith

pub sum_step : (ds : List ℕ) (i unit sum : ℕ) → i < length ds → IsSummedTo ds i unit sum → IsSummedTo ds (i + 1) (unit / 10) (sum + (get_or ds i 0 - 48) * (unit / 10))
sum_step ds i unit sum lt s =
    let few : length ds ≤ 6 = s.few in
    let p = 5 - i in
    let now : 6 - i ≡ p + 1 = omega arith in
    let next : 6 - (i + 1) ≡ p = omega arith in
    let tenth : unit / 10 ≡ 10 ^ p = omega (arith, s.unit_is ∙ ap (λ k. 10 ^ k) now, power_step p) in
    let digit = digit_at ds i lt s.digits in
    let split : worth_of (6 - i) (drop i ds) ≡ (get_or ds i 0 - 48) * (unit / 10) + worth_of p (drop (i + 1) ds) =
    ap (λ k. worth_of k (drop i ds)) now ∙ worth_step p ds i lt ∙ ap (λ u. (get_or ds i 0 - 48) * u + worth_of p (drop (i + 1) ds)) (sym tenth) in
    record {
      few = few;
      digits = digits_behind ds i lt s.digits;
      unit_is = tenth ∙ ap (λ k. 10 ^ k) (sym next);
      whole = ap (λ k. sum + (get_or ds i 0 - 48) * (unit / 10) + worth_of k (drop (i + 1) ds)) next ∙ omega (arith, split, s.whole);
      small = omega (arith, digit_times (get_or ds i 0 - 48) (unit / 10) (omega (arith, digit.low, digit.high)), s.small, s.unit_is ∙ ap (λ k. 10 ^ k) now, power_step p, tenth);
    }
