use Rattle.std.proofs.Common.{◌≡◌, ◌≤◌, ◌/◌, ◌%◌, rules, sym, ap, subst, ◌∙◌}
use Rattle.std.specs.Prelude.{unsigned_abs}
use Rattle.jiff_core.specs.Calendar.{days_from_civil, days_in_month}
use Rattle.jiff_core.specs.Date.{epoch_day}
use Rattle.jiff_core.proofs.DateLemmas.{civil}
use Rattle.metering_model.specs.Dates.{two_digits}
use Rattle.utc_calendar.specs.Years.{IsDayNumber}
use Rattle.sheet_changes.proofs.DayNumbers.{day_joined, year_from, year_of, year_within}
use Rattle.sheet_changes.proofs.days.day_text.Goals as goal

pub returns : goal.returns
returns c =
    let date = c.unwrap-date.result in
    let is : epoch_day date ≡ c.args.day = search rules in
    let number : IsDayNumber c.args.day = search rules in
    let is_date = civil date in
    let from = year_from date.year date.month date.day is_date (subst IsDayNumber (sym is) number) in
    let within = year_within date.year from is_date.0 in
    let hundreds : c.two_digits.result ≡ two_digits (unsigned_abs date.year / 100) = search rules in
    let ones : c.two_digits-2.result ≡ two_digits (unsigned_abs date.year % 100) = search rules in
    let month : c.two_digits-3.result ≡ two_digits date.month = search rules in
    let day : c.two_digits-4.result ≡ two_digits date.day = search rules in
    record {
      year = unsigned_abs date.year;
      month = date.month;
      day = date.day;
      year_in = within;
      month_in = is_date.1;
      day_in = subst (λ y. (1 ≤ date.day) × (date.day ≤ days_in_month y date.month)) (sym (year_of date.year from)) is_date.2;
      joined = day_joined (unsigned_abs date.year) date.month date.day c.two_digits.result c.two_digits-2.result c.two_digits-3.result c.two_digits-4.result hundreds ones month day;
      number = sym is ∙ ap (λ y. days_from_civil y date.month date.day) (sym (year_of date.year from));
    }
