-- What a text of the form of a stamp says, by its date and its time.
use Rattle.std.proofs.Common.{◌≡◌, true, false, ◌&&◌, nat_eq, nat_lt, List, [], ◌∷◌, ℕ, ℤ, take, slice_range, Option, Some, None, refl, sym, ap, ap₂, ◌∙◌}
use Rattle.std.specs.Cmp.Lexicographic.{pointwise}
use Rattle.std.specs.Option.{option_zip}
use Rattle.std.proofs.lemmas.Bool.{and_parts, eqb-true, false≢true, false_from_ne_true, cond-true, cond-false}
use Rattle.metering_model.specs.Dates.{number_at, are_digits, has_stamp_form, has_time_form, day_in, second_in, stamp_of, stamp_in}

pub same_text : (xs ys : List ℕ) → pointwise nat_eq xs ys ≡ true → xs ≡ ys
same_text [] [] h = refl
same_text [] (y ∷ ys) h = absurd (false≢true h)
same_text (x ∷ xs) [] h = absurd (false≢true h)
same_text (x ∷ xs) (y ∷ ys) h =
    let both = and_parts (nat_eq x y) (pointwise nat_eq xs ys) h in
    ap₂ (λ c cs. c ∷ cs) (eqb-true x y both.0) (same_text xs ys both.1)

pub no_form : (t : List ℕ) → has_stamp_form t ≡ false → None ≡ stamp_in t
no_form t e = sym (cond-false _ _ _ e)

pub of_parts : (t date time : List ℕ) → has_stamp_form t ≡ true → date ≡ take 10 t → time ≡ slice_range t 11 19 → stamp_of (day_in date) (second_in time) ≡ stamp_in t
of_parts t date time form d s = ap₂ (λ x y. stamp_of (day_in x) (second_in y)) d s ∙ sym (cond-true _ _ _ form)

pub no_day : (t date time : List ℕ) → has_stamp_form t ≡ true → date ≡ take 10 t → time ≡ slice_range t 11 19 → None ≡ day_in date → None ≡ stamp_in t
no_day t date time form d s none = ap (λ x. stamp_of x (second_in time)) none ∙ of_parts t date time form d s

pub on_day : (t date time : List ℕ) (day : ℤ) (o : Option ℤ) → has_stamp_form t ≡ true → date ≡ take 10 t → time ≡ slice_range t 11 19 → Some day ≡ day_in date
    → o ≡ stamp_of (Some day) (second_in time) → o ≡ stamp_in t
on_day t date time day o form d s of is = is ∙ ap (λ x. stamp_of x (second_in time)) of ∙ of_parts t date time form d s

pub none_first : (a b : Option ℤ) → None ≡ a → None ≡ option_zip a b
none_first a b e = ap (λ x. option_zip x b) e

pub none_second : (a b : Option ℤ) → None ≡ b → None ≡ option_zip a b
none_second None b e = refl
none_second (Some x) b e = ap (option_zip (Some x)) e

-- ---- a time

time_digits : (t : List ℕ) → (has_time_form t && nat_lt (number_at t 0 2) 24 && nat_lt (number_at t 3 2) 60 && nat_lt (number_at t 6 2) 60) ≡ true
    → (are_digits t 0 2 ≡ true) × (are_digits t 3 2 ≡ true) × (are_digits t 6 2 ≡ true)
time_digits t e =
    let form = (and_parts _ _ (and_parts _ _ (and_parts _ _ e).0).0).0 in
    let second = and_parts _ _ form in
    let minute = and_parts _ _ (and_parts _ _ second.0).0 in
    let hour = and_parts _ _ (and_parts _ _ minute.0).0 in
    (hour.1, minute.1, second.1)

-- where one of the three is no number, the text is no time
pub no_hour : (t : List ℕ) → (are_digits t 0 2 ≡ true → false ≡ true) → None ≡ second_in t
no_hour t none = sym (cond-false _ _ _ (false_from_ne_true _ (λ e. false≢true (none (time_digits t e).0))))

pub no_minute : (t : List ℕ) → (are_digits t 3 2 ≡ true → false ≡ true) → None ≡ second_in t
no_minute t none = sym (cond-false _ _ _ (false_from_ne_true _ (λ e. false≢true (none (time_digits t e).1))))

pub no_second : (t : List ℕ) → (are_digits t 6 2 ≡ true → false ≡ true) → None ≡ second_in t
no_second t none = sym (cond-false _ _ _ (false_from_ne_true _ (λ e. false≢true (none (time_digits t e).2))))
