use Rattle.std.proofs.Common.{◌∙◌, sym, subst, map, string_bytes}
use Rattle.clap.specs.Kinds.{HasKind}
use Rattle.command_line.proofs.WordLaws.{help_asked, no_help_asked, other_asked}
use Rattle.command_line.proofs.words.help.Goals as goal

pub returns-clause-asked : goal.returns-clause-asked
returns-clause-asked c =
    let grammar = c.in-Ok.ensures.app in
    let kinds = c.in-Err.ensures.kinds grammar.free in
    help_asked (map string_bytes c.args.words.now) c.in-Err.error c.text_of.result (subst (λ ks. HasKind ks c.in-Err.error) grammar.fault kinds) c.text_of.ensures.asked

pub returns-in-Ok-try_get_matches_from-clause-not_asked : goal.returns-in-Ok-try_get_matches_from-clause-not_asked
returns-in-Ok-try_get_matches_from-clause-not_asked c is asked =
    let grammar = c.in-Ok.ensures.app in
    no_help_asked (map string_bytes c.args.words.now) (sym grammar.fault ∙ c.in-Ok-try_get_matches_from.ensures.kinds grammar.free) asked

pub returns-clause-not_asked : goal.returns-clause-not_asked
returns-clause-not_asked c is asked =
    let grammar = c.in-Ok.ensures.app in
    let kinds = c.in-Err.ensures.kinds grammar.free in
    let line = c.text_of.ensures.line is in
    other_asked (map string_bytes c.args.words.now) c.in-Err.error (subst (λ ks. HasKind ks c.in-Err.error) grammar.fault kinds) line.0 line.1 asked
