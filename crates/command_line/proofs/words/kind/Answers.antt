use Rattle.std.proofs.Common.{◌≡◌, ◌∙◌, Some, codes, is_none, refl, true, ap}
use Rattle.clap.specs.Words.{found_of}
use Rattle.command_line.proofs.WordLaws.{absent, first_read, is_none as is_absent, no_kind}
use Rattle.command_line.proofs.words.kind.Goals as goal

pub returns-in_default-clause-given : goal.returns-in_default-clause-given
returns-in_default-clause-given c =
    let none : is_none c.get_str.result ≡ true = ap is_none (is_absent c.get_str.result c.in_default.not-Some) in
    absent (found_of c.args.matches.now) (codes "kind") c.get_str.result c.get_str.ensures none

pub returns-clause-given : goal.returns-clause-given
returns-clause-given c =
    first_read (found_of c.args.matches.now) (codes "kind") c.get_str.result c.in-Some.text c.get_str.ensures c.in-Some.is ∙ ap Some c.in_ok-kind.ensures.is

pub returns-in_err-kind-clause-not_given : goal.returns-in_err-kind-clause-not_given
returns-in_err-kind-clause-not_given c is kind gives =
    no_kind (found_of c.args.matches.now) c.get_str.result c.in-Some.text c.get_str.ensures c.in-Some.is (c.in_err-kind.ensures.is_none refl) kind gives
