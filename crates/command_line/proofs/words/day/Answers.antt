use Rattle.std.proofs.Common.{◌≡◌, ◌∙◌, sym, Some, None, codes, is_none, true, ap}
use Rattle.clap.specs.Words.{found_of}
use Rattle.metering_model.specs.Dates.{day_in}
use Rattle.command_line.proofs.WordLaws.{absent, first_read, is_none as is_absent, no_day}
use Rattle.command_line.proofs.words.day.Goals as goal

pub returns-in_default-clause-given : goal.returns-in_default-clause-given
returns-in_default-clause-given c =
    let none : is_none c.get_str.result ≡ true = ap is_none (is_absent c.get_str.result c.in_default.not-Some) in
    absent (found_of c.args.matches.now) (codes "before") c.get_str.result c.get_str.ensures none

pub returns-clause-given : goal.returns-clause-given
returns-clause-given c =
    let day : day_in c.in-Some.text.now ≡ Some c.in_ok-day.day = ap day_in (sym c.as_bytes.ensures.value) ∙ sym c.in_ok-day.ensures in
    (c.in-Some.text.now, first_read (found_of c.args.matches.now) (codes "before") c.get_str.result c.in-Some.text c.get_str.ensures c.in-Some.is, day)

pub returns-in_err-day-clause-not_given : goal.returns-in_err-day-clause-not_given
returns-in_err-day-clause-not_given c is before gives =
    let none : day_in c.in-Some.text.now ≡ None = ap day_in (sym c.as_bytes.ensures.value) ∙ sym c.in_err-day.ensures in
    no_day (found_of c.args.matches.now) c.get_str.result c.in-Some.text c.get_str.ensures c.in-Some.is none before gives
