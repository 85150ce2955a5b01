use Rattle.utc_calendar.proofs.DayRange.{first_day_is, last_day_is, IsDayNumber-date}
use Rattle.utc_calendar.proofs.calendar.dates_have_day_numbers.Goals as goal

pub returns-clause-first : goal.returns-clause-first
returns-clause-first c = first_day_is

pub returns-clause-last : goal.returns-clause-last
returns-clause-last c = last_day_is

pub returns-clause-between : goal.returns-clause-between
returns-clause-between c = IsDayNumber-date
