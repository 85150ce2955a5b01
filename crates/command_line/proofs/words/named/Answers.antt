use Rattle.std.proofs.Common.{refl}
use Rattle.clap.specs.Words.{found_of, rows_of}
use Rattle.command_line.proofs.WordLaws.{no_check, no_file, no_rate, no_schedule, no_sheets, no_threads}
use Rattle.command_line.proofs.words.named.Goals as goal

pub returns-in-Some-clause-asked : goal.returns-in-Some-clause-asked
returns-in-Some-clause-asked c = (c.in-rate.is, c.in-Some.ensures.given)

pub returns-in-None-clause-not_asked : goal.returns-in-None-clause-not_asked
returns-in-None-clause-not_asked c is command named =
    no_rate c.args.name.now (rows_of (found_of c.args.options.now)) c.in-rate.is (c.in-None.ensures.not_given refl) command named

pub returns-in-None-kind-clause-not_asked : goal.returns-in-None-kind-clause-not_asked
returns-in-None-kind-clause-not_asked c is command named =
    no_check c.args.name.now (rows_of (found_of c.args.options.now)) c.in-check.is (c.in-None-kind.ensures.not_given refl) command named

pub returns-in-None-period-clause-not_asked : goal.returns-in-None-period-clause-not_asked
returns-in-None-period-clause-not_asked c is command named =
    no_file c.args.name.now (rows_of (found_of c.args.options.now)) c.in-file.is (c.in-None-period.ensures.not_given refl) command named

pub returns-in-None-size-clause-not_asked : goal.returns-in-None-size-clause-not_asked
returns-in-None-size-clause-not_asked c is command named =
    no_threads c.args.name.now (rows_of (found_of c.args.options.now)) c.in-threads.is (c.in-None-size.ensures.not_given refl) command named

pub returns-in-None-asked_of_sheets-clause-not_asked : goal.returns-in-None-asked_of_sheets-clause-not_asked
returns-in-None-asked_of_sheets-clause-not_asked c is command named =
    no_sheets c.args.name.now (rows_of (found_of c.args.options.now)) c.in-sheets.is (c.in-None-asked_of_sheets.ensures.not_given refl) command named

pub returns-in-None-request-clause-not_asked : goal.returns-in-None-request-clause-not_asked
returns-in-None-request-clause-not_asked c is command named =
    no_schedule c.args.name.now (rows_of (found_of c.args.options.now)) c.in-schedule.is (c.in-None-request.ensures.not_given refl) command named
