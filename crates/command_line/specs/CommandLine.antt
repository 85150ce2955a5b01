-- The command line of the program, by the words of `clap`.
use Rattle.std.specs.Prelude.{◌≡◌, ℕ, ℤ, Bool, List, [], ◌∷◌, codes, Option, Some, None, true, false, pos}
use Rattle.std.specs.Str.Parse.{IsNumeral, digits_value, without_leading_plus}
use Rattle.clap.specs.Words.{App, Rule, Text, Row, first_of, new_app, new_rule, one_of, subcommand_of, with_rule, with_subcommand}
use Rattle.clap.specs.Faults.{fault_of}
use Rattle.clap.specs.declared.builder.action.ArgAction.TheVariants.{Set, SetTrue}
use Rattle.clap.specs.declared.builder.value_parser.ValueParser.TheVariants as parser
use Rattle.clap.specs.declared.error.kind.ErrorKind.TheVariants as error
use Rattle.metering_model.specs.Dates.{IsPeriod, day_in}
use Rattle.metering_model.specs.Limits.{last_node, last_period, most_nodes}
use Rattle.schedule_writer.specs.declared.asked.Request.{Request}
use Rattle.schedule_writer.specs.Requests.{IsRequest}
use Rattle.threads_player.specs.declared.sizes.Size.{Size}
use Rattle.threads_player.specs.Groups.{IsSize, most_run_agents, most_run_batches, most_run_nodes, most_run_periods}
use Rattle.sheet_changes.specs.declared.changes.Asked.{Asked}
use Rattle.process_player.specs.declared.heads.ProcessKind.{ProcessKind}
use Rattle.process_player.specs.declared.heads.ProcessKind.TheVariants as process
use Rattle.command_line.specs.declared.commands.Kind.{Kind}
use Rattle.command_line.specs.declared.commands.Kind.TheVariants as kind
use Rattle.command_line.specs.declared.commands.Command.{Command}
use Rattle.command_line.specs.declared.commands.Command.TheVariants.{Rate, Play, Check, File, Threads, Sheets, Schedule, Process, Help, Version}

-- `--NAME VALUE`, which may be left out
abbrev pub text_option : Text → Rule
text_option name = record (new_rule name) { long = Some name; action = Some Set }

-- `--NAME`, which may be left out
abbrev pub flag_option : Text → Rule
flag_option name = record (new_rule name) { long = Some name; action = Some SetTrue }

-- `--NAME N`, which may be left out: a number from the one to the other
abbrev pub number_option : Text → (least most : ℕ) → Rule
number_option name least most = record (text_option name) { parser = Some (parser.Signed (pos least) (pos most)) }

-- the same where it may not be left out
abbrev pub required : Rule → Rule
required rule = record rule { required = true }

-- the same with a text that stands for it where it is left out
abbrev pub defaulting_to : Text → Rule → Rule
defaulting_to default rule = record rule { defaults = default ∷ [] }

-- of a subcommand that is asked for a period
abbrev pub period_grammar : Text → App
period_grammar name = with_rule (new_app name) (required (number_option (codes "period") 0 last_period))

abbrev pub threads_grammar : App
threads_grammar =
    with_rule (with_rule (with_rule (with_rule (new_app (codes "threads"))
    (required (number_option (codes "nodes") 1 most_run_nodes))) (required (number_option (codes "agents") 1 most_run_agents)))
    (required (number_option (codes "batches") 1 most_run_batches))) (required (number_option (codes "periods") 1 most_run_periods))

abbrev pub check_grammar : App
check_grammar = with_rule (new_app (codes "check")) (text_option (codes "kind"))

abbrev pub sheets_grammar : App
sheets_grammar = with_rule (with_rule (new_app (codes "sheets")) (text_option (codes "before"))) (flag_option (codes "all"))

abbrev pub schedule_grammar : App
schedule_grammar =
    with_rule (with_rule (with_rule (new_app (codes "schedule"))
    (defaulting_to (codes "3") (number_option (codes "nodes") 1 most_nodes)))
    (defaulting_to (codes "0") (number_option (codes "observers") 0 last_node))) (number_option (codes "through") 0 last_period)

-- without a subcommand: the program's name is not among the words; it has a version, and `help` is no subcommand
abbrev pub bare_grammar : App
bare_grammar = let a = new_app (codes "focusd") in record a {
  top = record a.top { no_binary_name = true; has_version = true; disable_help_subcommand = true; subcommand_required = true };
}

-- the subcommand that is a process of that kind
abbrev pub process_name : ProcessKind → Text
process_name process.Node = codes "node"
process_name process.Agent = codes "agent"

-- `play`, `node` and `agent` have no option at all.
abbrev pub grammar_of_focusd : App
grammar_of_focusd =
    with_subcommand (with_subcommand (with_subcommand (with_subcommand (with_subcommand (with_subcommand (with_subcommand (with_subcommand
    (with_subcommand bare_grammar (period_grammar (codes "rate")).top) (new_app (codes "play")).top)
    check_grammar.top) (period_grammar (codes "file")).top) schedule_grammar.top) sheets_grammar.top) threads_grammar.top)
    (new_app (process_name process.Node)).top) (new_app (process_name process.Agent)).top

-- The text is digits, perhaps behind a plus, and they make the number.
abbrev pub SpellsNumber : Text → ℕ → Type 0
SpellsNumber t n = IsNumeral 10 (without_leading_plus t) × (digits_value 10 (without_leading_plus t) ≡ n)

-- the text of the option spells the number
pub record GivesNumber (rows : List Row) (option : Text) (number : ℕ) : Type 0 where
  pub text : Text
  pub given : one_of option rows ≡ Some text
  pub spelled : SpellsNumber text number

-- The text of the option spells the period, and it is one. Of a minus zero `clap` hands on the zero alone.
pub record GivesPeriod (rows : List Row) (option : Text) (period : ℕ) : Type 0 where
  pub number : GivesNumber rows option period
  pub within : IsPeriod period

-- The texts of the four options spell the size, and it is one that is run.
pub record GivesSize (rows : List Row) (size : Size) : Type 0 where
  pub nodes : GivesNumber rows (codes "nodes") size.nodes
  pub agents : GivesNumber rows (codes "agents") size.agents
  pub batches : GivesNumber rows (codes "batches") size.batches
  pub periods : GivesNumber rows (codes "periods") size.periods
  pub within : IsSize size

-- The text of the option is a day, or it is left out.
abbrev pub GivesDay : List Row → Option ℤ → Type 0
GivesDay rows None = first_of (codes "before") rows ≡ None
GivesDay rows (Some day) = (text : Text) × (first_of (codes "before") rows ≡ Some text) × (day_in text ≡ Some day)

-- The option is given, or it is left out: `clap` gives it the one text or the other.
abbrev pub GivesFlag : List Row → (option : Text) → Bool → Type 0
GivesFlag rows option true = one_of option rows ≡ Some (codes "true")
GivesFlag rows option false = one_of option rows ≡ Some (codes "false")

-- Day and flag are what is asked of two sheets.
pub record GivesAsked (rows : List Row) (asked : Asked) : Type 0 where
  pub before : GivesDay rows asked.before
  pub all : GivesFlag rows (codes "all") asked.all

-- the name of a kind of input
abbrev pub kind_text : Kind → Text
kind_text kind.Rate = codes "rate"
kind_text kind.Play = codes "play"
kind_text kind.Schedule = codes "schedule"
kind_text kind.Sheets = codes "sheets"

-- The text of the option names the kind, or it is left out.
abbrev pub GivesKind : List Row → Option Kind → Type 0
GivesKind rows None = first_of (codes "kind") rows ≡ None
GivesKind rows (Some kind) = first_of (codes "kind") rows ≡ Some (kind_text kind)

-- The text of the option spells a period, or it is left out.
abbrev pub GivesThrough : List Row → Option ℕ → Type 0
GivesThrough rows None = first_of (codes "through") rows ≡ None
GivesThrough rows (Some period) = GivesPeriod rows (codes "through") period

-- The texts of the options, or what stands for those left out, spell what is asked for.
pub record GivesRequest (rows : List Row) (request : Request) : Type 0 where
  pub nodes : GivesNumber rows (codes "nodes") request.nodes
  pub observers : GivesNumber rows (codes "observers") request.observers
  pub through : GivesThrough rows request.through
  pub within : IsRequest request

-- what the subcommand of this name asks for with its options
abbrev pub IsNamed : Text → List Row → Command → Type 0
IsNamed name rows (Rate period) = (name ≡ codes "rate") × GivesPeriod rows (codes "period") period
IsNamed name rows Play = name ≡ codes "play"
IsNamed name rows (Check kind) = (name ≡ codes "check") × GivesKind rows kind
IsNamed name rows (File period) = (name ≡ codes "file") × GivesPeriod rows (codes "period") period
IsNamed name rows (Threads size) = (name ≡ codes "threads") × GivesSize rows size
IsNamed name rows (Sheets asked) = (name ≡ codes "sheets") × GivesAsked rows asked
IsNamed name rows (Schedule request) = (name ≡ codes "schedule") × GivesRequest rows request
IsNamed name rows (Process kind) = name ≡ process_name kind
IsNamed name rows Help = ⊥
IsNamed name rows Version = ⊥

-- The grammar takes the words, and they name a subcommand that asks for the command with its options.
pub record AsksByName (words : List Text) (command : Command) : Type 0 where
  pub taken : fault_of grammar_of_focusd words ≡ []
  pub name : Text
  pub rows : List Row
  pub met : subcommand_of grammar_of_focusd words ≡ Some (name, rows)
  pub named : IsNamed name rows command

-- The grammar refuses the words as a request for help, as `--help` is, also behind a subcommand.
abbrev pub AsksForHelp : List Text → Type 0
AsksForHelp words = fault_of grammar_of_focusd words ≡ error.DisplayHelp ∷ []

-- The grammar refuses the words as a request for the version, as `--version` is.
abbrev pub AsksForVersion : List Text → Type 0
AsksForVersion words = fault_of grammar_of_focusd words ≡ error.DisplayVersion ∷ []

-- what the words ask for
abbrev pub Asks : List Text → Command → Type 0
Asks words Help = AsksForHelp words
Asks words Version = AsksForVersion words
Asks words command = AsksByName words command

-- whether what is asked for is done with the input
abbrev pub takes_input : Command → Bool
takes_input (Rate period) = true
takes_input Play = true
takes_input (Check kind) = true
takes_input (File period) = true
takes_input (Threads size) = false
takes_input (Sheets asked) = true
takes_input (Schedule request) = true
takes_input (Process kind) = true
takes_input Help = false
takes_input Version = false
