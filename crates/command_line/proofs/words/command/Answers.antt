use Rattle.std.proofs.Common.{◌∙◌, sym, subst, map, string_bytes, refl}
use Rattle.clap.specs.Words.{app_of, found_of, rows_of}
use Rattle.clap.specs.Kinds.{HasKind}
use Rattle.command_line.proofs.WordLaws.{asked_is_named, asks_for_nothing, free_is_simple, is_none, met, named_is_asked, names_one, none_met, request_asks}
use Rattle.command_line.proofs.words.command.Goals as goal

pub returns-in-Err-clause-asked : goal.returns-in-Err-clause-asked
returns-in-Err-clause-asked c =
    let grammar = c.in-Ok.ensures.app in
    let kinds = c.in-Err.ensures.kinds grammar.free in
    request_asks (map string_bytes c.args.words.now) c.in-Err.error c.request_of.result (subst (λ ks. HasKind ks c.in-Err.error) grammar.fault kinds) c.request_of.ensures.request

pub returns-in-Err-clause-not_asked : goal.returns-in-Err-clause-not_asked
returns-in-Err-clause-not_asked c is command asked =
    let grammar = c.in-Ok.ensures.app in
    let kinds = c.in-Err.ensures.kinds grammar.free in
    let line = c.request_of.ensures.line is in
    asks_for_nothing (map string_bytes c.args.words.now) c.in-Err.error (subst (λ ks. HasKind ks c.in-Err.error) grammar.fault kinds) line.0 line.1 line.2 command asked

pub returns-in_default-subcommand-clause-not_asked : goal.returns-in_default-subcommand-clause-not_asked
returns-in_default-subcommand-clause-not_asked c is command asked =
    let grammar = c.in-Ok.ensures.app in
    let matches = c.in-Ok-try_get_matches_from.ensures.matches (free_is_simple (app_of c.in-Ok.grammar) grammar.free) in
    let taken = sym grammar.fault ∙ c.in-Ok-try_get_matches_from.ensures.kinds grammar.free in
    let none = none_met c.in-Ok-try_get_matches_from.matches c.subcommand.result c.subcommand.ensures.variant (is_none c.subcommand.result c.in_default-subcommand.not-Some) in
    names_one (map string_bytes c.args.words.now) command taken (sym (grammar.met taken) ∙ (sym matches.1 ∙ none)) asked

pub returns-in-Some-named-clause-asked : goal.returns-in-Some-named-clause-asked
returns-in-Some-named-clause-asked c =
    let grammar = c.in-Ok.ensures.app in
    let matches = c.in-Ok-try_get_matches_from.ensures.matches (free_is_simple (app_of c.in-Ok.grammar) grammar.free) in
    let taken = sym grammar.fault ∙ c.in-Ok-try_get_matches_from.ensures.kinds grammar.free in
    let rows = rows_of (found_of c.in-Some.options.now) in
    let inside = met c.in-Ok-try_get_matches_from.matches c.in-Some.name.now rows (sym c.in-Some.ensures.name) (sym c.in-Some.ensures.rows) in
    named_is_asked (map string_bytes c.args.words.now) c.in-Some.name.now rows c.in-Some-named.command taken (sym (grammar.met taken) ∙ (sym matches.1 ∙ inside)) c.in-Some-named.ensures.asked

pub returns-clause-not_asked : goal.returns-clause-not_asked
returns-clause-not_asked c is command asked =
    let grammar = c.in-Ok.ensures.app in
    let matches = c.in-Ok-try_get_matches_from.ensures.matches (free_is_simple (app_of c.in-Ok.grammar) grammar.free) in
    let taken = sym grammar.fault ∙ c.in-Ok-try_get_matches_from.ensures.kinds grammar.free in
    let rows = rows_of (found_of c.in-Some.options.now) in
    let inside = met c.in-Ok-try_get_matches_from.matches c.in-Some.name.now rows (sym c.in-Some.ensures.name) (sym c.in-Some.ensures.rows) in
    c.in-None.ensures.not_asked refl command
    (asked_is_named (map string_bytes c.args.words.now) c.in-Some.name.now rows command taken (sym (grammar.met taken) ∙ (sym matches.1 ∙ inside)) asked)
