-- How the processes of a worked group are begun in lines, and asked.
use Rattle.std.proofs.Common.{◌≡◌, ℕ, true, List, ◌++◌, length, Option, Some, None, Ok, refl, sym, subst, codes}
use Rattle.std.specs.List.{list_all}
use Rattle.std.specs.Str.{is_utf8, chars}
use Rattle.metering_model.specs.Batch.{lacks}
use Rattle.metering_model.specs.Holding.{Holding}
use Rattle.metering_model.specs.NumberText.{worth_of}
use Rattle.metering_model.specs.Schedule.{TextLines, lines_text}
use Rattle.metering_model.specs.World.{Node, new_kept}
use Rattle.metering_model.proofs.Samples.{issuer_1, issuer_1_lines, sheet_0, sheet_0_lines}
use Rattle.process_laws.specs.LocalSteps as model
use Rattle.process_laws.specs.LocalSteps.{AgentCommand, Answer, Group, NodeCommand}
use Rattle.input_sections.specs.Sections.{issuer_section, read_as, section_in, sheet_section}
use Rattle.price_sheet.specs.SheetReading.{next_commitment, next_price, next_region, sheet_in, sheet_of_rows, sheet_of_text}
use Rattle.sheet_text.specs.IssuerReading.{currency_under, issuer_in, issuer_of_text}
use Rattle.sheet_text.specs.Keys.{base_under, commitment_category_under, day_under, label_under, per_under, price_under, rows_in, rows_under, service_category_under, text_under, value_under}
use Rattle.sheet_text.specs.Names.{key_name}
use Rattle.sheet_text.specs.RowReading.{commitment_in, price_row_in, region_in}
use Rattle.sheet_text.proofs.WorkedSteps.{scan_numeral, days_from_civil, day_count, days_of_years, days_of_months, skip_ws, skip_from, special, body}
use Rattle.sheet_text.proofs.WorkedSteps.{one_line, quoted, simple_key, key_after, underscore_fits, decimal_number, plain_number, number, word_value}
use Rattle.sheet_text.proofs.WorkedSteps.{word_len, unquoted, along_header, along_dots, at_key, define, key_equals, val, atom, header_key}
use Rattle.sheet_text.proofs.WorkedSteps.{expression, line, lines, skip_bom, parse_document}
use Rattle.log_text.specs.LogText.{AgentOf, Increment, NodeOf, ReadLog, Who, log_in}
use Rattle.group_process.specs.Added.{AddsJust}
use Rattle.group_process.specs.Selves.{AgentSelf, NodeSelf, kept_of_agent, kept_of_node}
use Rattle.process_text.specs.declared.processes.Process.TheVariants as process
use Rattle.process_text.specs.Answers.{AnswersAgent, AnswersNode, addressee_of, answer_text}
use Rattle.process_text.specs.Requests.{AsksAgent, AsksNode, agent_request, lines_below, node_request}
use Rattle.process_player.specs.declared.heads.ProcessKind.TheVariants as kind
use Rattle.process_player.specs.Starts.{Preamble, preamble_in}
use Rattle.process_player.specs.Runs.{Does}
use Rattle.process_line_laws.specs.Hosts.{Asks, HostAct, Machines, MayAsk, WasSent, head_of}

-- one voter, one observer and one agent
abbrev pub one : Group
one = record { name = codes "one"; voters = 1; observers = 1; agents = 1; sheet = sheet_0; issuer = issuer_1 }

-- ---- with what they are begun

abbrev pub below_head : List ℕ
below_head = codes "sheet 13\n" ++ lines_text sheet_0_lines ++ codes "issuer 7\n" ++ lines_text issuer_1_lines

-- up to the issuer
abbrev pub voter_text : List ℕ
voter_text = codes "NODE 1\nG1|one|node|0|1|1|1\n" ++ below_head

abbrev pub observer_text : List ℕ
observer_text = codes "NODE 1\nG1|one|node|1|1|1|1\n" ++ below_head

abbrev pub agent_text : List ℕ
agent_text = codes "AGENT 1\nG1|one|agent|1|1|1|1\n" ++ below_head

-- nothing was stored
abbrev pub own : Who → ReadLog
own w = record { head = head_of one w; kept = record { agents = 1; kept = new_kept } }

abbrev pub preamble_of : Who → (text : List ℕ) → Preamble
preamble_of w text =
    record { own = own w; sheet = sheet_0; issuer = issuer_1; rest = record { text = text; from = length text; line = 25 } }

pub voter_read : preamble_in kind.Node voter_text ≡ Ok (preamble_of (NodeOf 0) voter_text)
unfolding preamble_in log_in section_in read_as sheet_section issuer_section is_utf8 chars lib.Utf8.encode price_row_in commitment_in region_in
    next_price next_commitment next_region sheet_of_rows sheet_in sheet_of_text currency_under issuer_in issuer_of_text key_name value_under
    text_under label_under base_under day_under price_under per_under service_category_under commitment_category_under rows_in rows_under
    parse_document lines line expression skip_bom skip_from skip_ws header_key key_equals key_after simple_key val atom quoted one_line body special
    define along_header along_dots at_key unquoted word_len word_value number underscore_fits plain_number decimal_number scan_numeral days_from_civil
    day_count days_of_years days_of_months worth_of
voter_read = refl

pub observer_read : preamble_in kind.Node observer_text ≡ Ok (preamble_of (NodeOf 1) observer_text)
unfolding preamble_in log_in section_in read_as sheet_section issuer_section is_utf8 chars lib.Utf8.encode price_row_in commitment_in region_in
    next_price next_commitment next_region sheet_of_rows sheet_in sheet_of_text currency_under issuer_in issuer_of_text key_name value_under
    text_under label_under base_under day_under price_under per_under service_category_under commitment_category_under rows_in rows_under
    parse_document lines line expression skip_bom skip_from skip_ws header_key key_equals key_after simple_key val atom quoted one_line body special
    define along_header along_dots at_key unquoted word_len word_value number underscore_fits plain_number decimal_number scan_numeral days_from_civil
    day_count days_of_years days_of_months worth_of
observer_read = refl

pub agent_read : preamble_in kind.Agent agent_text ≡ Ok (preamble_of (AgentOf 1) agent_text)
unfolding preamble_in log_in section_in read_as sheet_section issuer_section is_utf8 chars lib.Utf8.encode price_row_in commitment_in region_in
    next_price next_commitment next_region sheet_of_rows sheet_in sheet_of_text currency_under issuer_in issuer_of_text key_name value_under
    text_under label_under base_under day_under price_under per_under service_category_under commitment_category_under rows_in rows_under
    parse_document lines line expression skip_bom skip_from skip_ws header_key key_equals key_after simple_key val atom quoted one_line body special
    define along_header along_dots at_key unquoted word_len word_value number underscore_fits plain_number decimal_number scan_numeral days_from_civil
    day_count days_of_years days_of_months worth_of
agent_read = refl

-- ---- how they are asked

abbrev pub node_self : ℕ → Node → NodeSelf
node_self i n = record { group = one; number = i; node = n }

abbrev pub asked_node : (i : ℕ) (first : List ℕ) (lines : TextLines) (next : Node) (said : List ℕ) → HostAct
asked_node i first lines next said =
    Asks (NodeOf i) (record { first = first; below = lines_text lines }) (process.Node (node_self i next)) said

pub node_answers : (i : ℕ) (n next : Node) (first : List ℕ) (lines : TextLines) (c : NodeCommand) (answer : Answer)
    (added : Option Increment) (said : List ℕ)
    → lacks 10 first ≡ true → list_all (lacks 10) lines ≡ true → length lines ≡ lines_below (process.Node (node_self i n)) first
    → node_request first (lines_text lines) ≡ AsksNode c → model.node_does one i n c ≡ record { answer = answer; node = next }
    → AddsJust (kept_of_node (node_self i n)) (kept_of_node (node_self i next)) added
    → said ≡ answer_text (codes "one") (addressee_of 1 c) added answer
    → Does (process.Node (node_self i n)) (record { first = first; below = lines_text lines }) (process.Node (node_self i next)) said
node_answers i n next first lines c answer added said whole all counted request does adds text = record {
  is_asked = record { is_line = whole; lines = lines; whole = all; counted = counted; below = refl };
  answers = subst (λ r. AnswersNode r (node_self i n) (node_self i next) said) (sym request)
      (record { answer = answer; does = record { does = does; group = refl; number = refl }; added = added; adds = adds; text = text });
}

pub node_may : (m : Machines) (i : ℕ) (n next : Node) (first : List ℕ) (lines : TextLines) (said : List ℕ)
    → (m.machine (NodeOf i)).runs ≡ Some (process.Node (node_self i n))
    → Does (process.Node (node_self i n)) (record { first = first; below = lines_text lines }) (process.Node (node_self i next)) said
    → WasSent one m.sent (lines_text lines)
    → MayAsk one m (NodeOf i) (record { first = first; below = lines_text lines }) (process.Node (node_self i next)) said
node_may m i n next first lines said runs does sent = record { old = process.Node (node_self i n); runs = runs; does = does; handed = sent }

abbrev pub agent_self : Holding → AgentSelf
agent_self j = record { group = one; number = 1; journal = j }

abbrev pub asked_agent : (first : List ℕ) (lines : TextLines) (next : Holding) (said : List ℕ) → HostAct
asked_agent first lines next said =
    Asks (AgentOf 1) (record { first = first; below = lines_text lines }) (process.Agent (agent_self next)) said

pub agent_may : (m : Machines) (j next : Holding) (first : List ℕ) (lines : TextLines) (c : AgentCommand) (answer : Answer)
    (added : Option Increment) (said : List ℕ)
    → (m.machine (AgentOf 1)).runs ≡ Some (process.Agent (agent_self j))
    → lacks 10 first ≡ true → list_all (lacks 10) lines ≡ true → length lines ≡ lines_below (process.Agent (agent_self j)) first
    → agent_request first (lines_text lines) ≡ AsksAgent c → model.agent_does one 1 j c ≡ record { answer = answer; journal = next }
    → AddsJust (kept_of_agent (agent_self j)) (kept_of_agent (agent_self next)) added
    → said ≡ answer_text (codes "one") (λ sent. None) added answer
    → MayAsk one m (AgentOf 1) (record { first = first; below = lines_text lines }) (process.Agent (agent_self next)) said
agent_may m j next first lines c answer added said runs whole all counted request does adds text = record {
  old = process.Agent (agent_self j);
  runs = runs;
  does = record {
    is_asked = record { is_line = whole; lines = lines; whole = all; counted = counted; below = refl };
    answers = subst (λ r. AnswersAgent r (agent_self j) (agent_self next) said) (sym request)
        (record { answer = answer; does = record { does = does; group = refl; number = refl }; added = added; adds = adds; text = text });
  };
  handed = tt;
}
