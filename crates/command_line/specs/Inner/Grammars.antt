-- Grammars that have less than the whole one, and come to the same at some words.
use Rattle.std.specs.Prelude.{◌≡◌, List, [], true}
use Rattle.clap.specs.Words.{App, Text, subcommand_of, with_subcommand}
use Rattle.clap.specs.Faults.{fault_of, is_simple_and_free}
use Rattle.command_line.specs.CommandLine.{bare_grammar, grammar_of_focusd}

-- with one subcommand alone
abbrev pub with_one : App → App
with_one a = with_subcommand bare_grammar a.top

-- The grammar stands in for the whole one at these words: it refuses them for the same, and where it takes them, meets the same subcommand.
pub record StandsIn (a : App) (words : List Text) : Type 0 where
  pub free : is_simple_and_free a ≡ true
  pub fault : fault_of a words ≡ fault_of grammar_of_focusd words
  pub met : fault_of grammar_of_focusd words ≡ [] → subcommand_of a words ≡ subcommand_of grammar_of_focusd words
