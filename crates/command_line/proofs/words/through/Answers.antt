use Rattle.std.proofs.Common.{◌≡◌, codes, is_none, true, false, refl, rules}
use Rattle.clap.specs.Words.{found_of, rows_of}
use Rattle.command_line.proofs.WordLaws.{absent, is_there, no_through}
use Rattle.command_line.proofs.words.through.Goals as goal

pub returns-then-is_none-clause-given : goal.returns-then-is_none-clause-given
returns-then-is_none-clause-given c =
    let none : is_none c.get_str.result ≡ true = search rules in
    absent (found_of c.args.matches.now) (codes "through") c.get_str.result c.get_str.ensures none

pub returns-in_err-last-clause-not_given : goal.returns-in_err-last-clause-not_given
returns-in_err-last-clause-not_given c is through gives =
    let some : is_none c.get_str.result ≡ false = search rules in
    let found = found_of c.args.matches.now in
    no_through (rows_of found) (is_there found (codes "through") c.get_str.result c.get_str.ensures some) (c.in_err-last.ensures.not_given refl) through gives
