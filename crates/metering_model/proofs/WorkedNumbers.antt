-- Numbers and dates as texts.
use Rattle.std.specs.Prelude.{◌≡◌, [], Some, None, Ok, Err, pos, negsuc, neg_ℤ, codes, refl}
use Rattle.std.specs.Fmt.{digits}
use Rattle.jiff_core.specs.Calendar.{days_from_civil, day_count, days_of_years, days_of_months}
use Rattle.metering_model.specs.NumberText.{value_in, price_in, spelling, worth_of, decimals_of, Shape, Range}
use Rattle.metering_model.specs.Dates.{day_in, stamp_in, month_in, period_start, period_end, period_start_text, period_end_text}

greatest_value : value_in (codes "999999999999.999999") ≡ Ok (pos 999_999_999_999_999_999)
unfolding worth_of
greatest_value = refl

value_beyond : value_in (codes "1000000000000") ≡ Err Range
unfolding worth_of
value_beyond = refl

least_value : value_in (codes "-999999999999.999999") ≡ Ok (neg_ℤ (pos 999_999_999_999_999_999))
unfolding worth_of
least_value = refl

value_below : value_in (codes "-1000000000000") ≡ Err Range
unfolding worth_of
value_below = refl

trailing_zero : value_in (codes "1.50") ≡ Err Shape
trailing_zero = refl

minus_zero : value_in (codes "-0") ≡ Err Shape
unfolding worth_of
minus_zero = refl

leading_zero : value_in (codes "01") ≡ Err Shape
leading_zero = refl

no_whole_part : value_in (codes ".5") ≡ Err Shape
no_whole_part = refl

point_alone : value_in (codes "1.") ≡ Err Shape
point_alone = refl

seven_decimals : value_in (codes "1.0000001") ≡ Err Shape
seven_decimals = refl

empty_text : value_in [] ≡ Err Shape
empty_text = refl

greatest_price : price_in (codes "999999.999999") ≡ Ok 999_999_999_999
unfolding worth_of
greatest_price = refl

price_beyond : price_in (codes "1000000") ≡ Err Range
unfolding worth_of
price_beyond = refl

price_with_a_minus : price_in (codes "-1") ≡ Err Shape
price_with_a_minus = refl

credit : value_in (codes "-2.5") ≡ Ok (negsuc 2_499_999)
unfolding worth_of
credit = refl

credit_spelled : spelling 12 (negsuc 2_499_999_999_999) ≡ codes "-2.5"
unfolding decimals_of digits
credit_spelled = refl

-- ---- dates

epoch : stamp_in (codes "1970-01-01T00:00:00Z") ≡ Some (pos 0)
unfolding days_from_civil day_count days_of_years days_of_months
epoch = refl

second_before : stamp_in (codes "1969-12-31T23:59:59Z") ≡ Some (negsuc 0)
unfolding days_from_civil day_count days_of_years days_of_months
second_before = refl

leap_day : day_in (codes "2024-02-29") ≡ Some (pos 19_782)
unfolding days_from_civil day_count days_of_years days_of_months
leap_day = refl

no_leap_day : day_in (codes "2100-02-29") ≡ None
no_leap_day = refl

leap_second : stamp_in (codes "2016-12-31T23:59:60Z") ≡ None
unfolding days_from_civil day_count days_of_years days_of_months
leap_second = refl

year_zero : month_in (codes "0000-01") ≡ None
year_zero = refl

december : period_end_text 24_300 11 ≡ codes "2026-01-01T00:00:00Z"
december = refl

january : period_start_text 24_300 0 ≡ codes "2025-01-01T00:00:00Z"
january = refl

january_starts : Some (period_start 24_300 0) ≡ stamp_in (codes "2025-01-01T00:00:00Z")
unfolding days_from_civil day_count days_of_years days_of_months
january_starts = refl

february_ends : Some (period_end 24_300 1) ≡ stamp_in (codes "2025-03-01T00:00:00Z")
unfolding days_from_civil day_count days_of_years days_of_months
february_ends = refl
