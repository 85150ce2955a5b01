-- A history in lines: the voter closes the first month before it has the agent's batch, the observer learns the cut and exports the same
-- bytes, and the voter goes on with a shorter log.
use Rattle.std.proofs.Common.{◌≡◌, ℕ, ◌≤◌, List, [], ◌∷◌, ◌++◌, Some, None, Ok, Err, refl, subst, arith, codes}
use Rattle.std.specs.Fmt.{digits}
use Rattle.std.proofs.lemmas.List.Elements.{All-nil, All-cons}
use Rattle.std.proofs.lemmas.Option.{none-some, same_Some}
use Rattle.jiff_core.specs.Calendar.{days_from_civil, day_count, days_of_years, days_of_months}
use Rattle.metering_model.specs.NumberText.{worth_of, decimals_of}
use Rattle.metering_model.specs.Ballot.{Vote}
use Rattle.metering_model.specs.Batch.{Batch, IsWellFormed}
use Rattle.metering_model.specs.BatchReading.{batch_in}
use Rattle.metering_model.specs.Cut.{Cut}
use Rattle.metering_model.specs.File.{header_line}
use Rattle.metering_model.specs.KeptText.{IsBallotNumber, IsCutAmong}
use Rattle.metering_model.specs.Schedule.{TextLines, lines_text}
use Rattle.metering_model.specs.World.{Accept, Accepted, CarriesBatch, Good, Node, Packet, Prepare, Promise, Snapshot, new_kept, wake}
use Rattle.metering_model.specs.declared.Version.TheVariants.{B1}
use Rattle.metering_model.proofs.BatchLaws.{IsWellFormed-read}
use Rattle.metering_model.proofs.Samples.{issuer_1, reading_1, sheet_0}
use Rattle.process_laws.specs.LocalSteps as model
use Rattle.process_laws.specs.LocalSteps.{Answer, BeginBallot, ExportPeriod, HasBegun, HasExported, HasJournaled, HasTaken, JournalBatch, KeptIs, NodeCommand, TakePacket, TellKept, Words, saying}
use Rattle.process_laws.proofs.EachAct.{◌⨾◌}
use Rattle.log_text.specs.LogText.{AgentOf, BeginsRound, Learns, NodeOf, SetsBallots, Takes, log_in}
use Rattle.process_text.specs.declared.processes.Process.TheVariants as process
use Rattle.process_player.specs.Starts.{HasLog, HasNone}
use Rattle.process_line_laws.specs.Hosts.{GoesOn, HostAct, IsHostHistory, Machines, Shortens, all_done, begun_machines, done}
use Rattle.process_line_laws.specs.Comes.{ComeToHistory}
use Rattle.process_line_laws.proofs.History.{come_to_history}
use Rattle.process_line_laws.proofs.WorkedGroup.{agent_may, agent_read, agent_self, agent_text, asked_agent, asked_node, node_answers, node_may, node_self, observer_read, observer_text, one, own, preamble_of, voter_read, voter_text}

-- ---- what they come to

abbrev name : List ℕ
name = codes "one"

-- node i with one command more
abbrev pub with_command : ℕ → NodeCommand → Node → Node
with_command i c n = (model.node_does one i n c).node

abbrev pub takes : Packet → NodeCommand
takes p = TakePacket (codes "one") p

abbrev pub low : Cut
low = 0 ∷ []

abbrev new_node : Node
new_node = wake new_kept

-- the voter begins a ballot, promises, proposes, votes and learns
abbrev v1 : Node
v1 = with_command 0 BeginBallot new_node

abbrev v2 : Node
v2 = with_command 0 (takes (Prepare 0 1)) v1

abbrev v3 : Node
v3 = with_command 0 (takes (Promise 0 0 1 None)) v2

abbrev v4 : Node
v4 = with_command 0 (takes (Accept 0 1 low)) v3

abbrev pub v5 : Node
v5 = with_command 0 (takes (Accepted 0 0 1 low)) v4

abbrev pub batch_lines : TextLines
batch_lines = codes "B1|1|1|1" ∷ reading_1 ∷ []

abbrev pub b : Batch
b = elim (batch_in (lines_text batch_lines)) [ Ok x ↦ x | Err fault ↦ record { version = B1; agent = 1; seq = 1; records = [] } ]

-- the observer has the batch
abbrev pub o1 : Node
o1 = with_command 1 (takes (CarriesBatch b)) new_node

abbrev o2 : Node
o2 = with_command 1 (takes (Accepted 0 0 1 low)) o1

-- ---- what is said

abbrev pub and_sends : Words → Packet → Answer
and_sends words p = record { words = words; sends = Some p }

-- of the month that was closed before any batch came
abbrev pub empty_file : List ℕ
empty_file = codes "exported period 0 lines 1\n" ++ header_line ++ codes "\n"

abbrev pub exported : Snapshot
exported = record { period = 0; from = 0 ∷ []; to = low; batches = []; sheet = sheet_0; issuer = issuer_1 }

-- ---- what is done

abbrev pub closes : List HostAct
closes =
    GoesOn (NodeOf 0) (voter_text ++ codes "new\n") (process.Node (node_self 0 new_node))
    ∷ asked_node 0 (codes "start") [] v1 (codes "kept 1\nround|1\nsend all 1\nP1|one|prepare|0|1\nstarted ballot 1\n")
    ∷ asked_node 0 (codes "packet 1") (codes "P1|one|prepare|0|1" ∷ []) v2
    (codes "kept 1\nballot|0|1|0\nsend 0 1\nP1|one|promise|0|0|1|0\ndelivered\n")
    ∷ asked_node 0 (codes "packet 1") (codes "P1|one|promise|0|0|1|0" ∷ []) v3 (codes "send all 1\nP1|one|accept|0|1|0\ndelivered\n")
    ∷ asked_node 0 (codes "packet 1") (codes "P1|one|accept|0|1|0" ∷ []) v4
    (codes "kept 1\nballot|0|1|1|0\nsend all 1\nP1|one|accepted|0|0|1|0\ndelivered\n")
    ∷ asked_node 0 (codes "packet 1") (codes "P1|one|accepted|0|0|1|0" ∷ []) v5 (codes "kept 1\nlearned|0|0\ndelivered learned 0\n")
    ∷ asked_node 0 (codes "export 0") [] v5 empty_file
    ∷ []

promised : (ballot : ℕ) → Some 1 ≡ Some ballot → IsBallotNumber ballot
promised ballot e = subst IsBallotNumber (same_Some 1 ballot e) (omega arith, omega arith)

no_vote : (v : Vote) → None ≡ Some v → IsBallotNumber v.ballot × IsCutAmong 1 v.cut
no_vote v e = absurd (none-some v e)

among : IsCutAmong 1 low
among = record { size = refl; low = All-cons (λ seq. seq ≤ 1_000_000) 0 [] (omega arith) (All-nil (λ seq. seq ≤ 1_000_000)) }

its_vote : (v : Vote) → Some (record { ballot = 1; cut = low }) ≡ Some v → IsBallotNumber v.ballot × IsCutAmong 1 v.cut
its_vote v e = subst (λ (u : Vote). IsBallotNumber u.ballot × IsCutAmong 1 u.cut) (same_Some _ v e) ((omega arith, omega arith), among)

pub closes_month : IsHostHistory one (begun_machines one) closes
unfolding days_from_civil day_count days_of_years days_of_months worth_of decimals_of digits
closes_month =
    record {
      begins = record {
        preamble = preamble_of (NodeOf 0) voter_text;
        first = voter_text;
        stored = codes "new\n";
        joined = refl;
        is_read = voter_read;
        whole = refl;
        kept = (own (NodeOf 0)).kept;
        is_stored = HasNone;
        goes_on = refl;
      };
      head = refl;
      sheet = refl;
      issuer = refl;
      log = refl;
    } ⨾
    node_may _ 0 new_node v1 (codes "start") [] _ refl
    (node_answers 0 new_node v1 (codes "start") [] BeginBallot (and_sends (HasBegun 1) (Prepare 0 1))
    (Some (BeginsRound 1)) _ refl refl refl refl refl ((omega arith, omega arith), refl, refl) refl)
    (λ p read of. absurd (none-some p read)) ⨾
    node_may _ 0 v1 v2 (codes "packet 1") (codes "P1|one|prepare|0|1" ∷ []) _ refl
    (node_answers 0 v1 v2 (codes "packet 1") (codes "P1|one|prepare|0|1" ∷ []) (takes (Prepare 0 1))
    (and_sends (HasTaken None) (Promise 0 0 1 None))
    (Some (SetsBallots 0 (record { promised = Some 1; vote = None }))) _ refl refl refl refl refl
    ((omega arith, promised, no_vote), refl, refl) refl)
    (λ p read of. (0, omega arith, refl)) ⨾
    node_may _ 0 v2 v3 (codes "packet 1") (codes "P1|one|promise|0|0|1|0" ∷ []) _ refl
    (node_answers 0 v2 v3 (codes "packet 1") (codes "P1|one|promise|0|0|1|0" ∷ []) (takes (Promise 0 0 1 None))
    (and_sends (HasTaken None) (Accept 0 1 low)) None _ refl refl refl refl refl refl refl)
    (λ p read of. (1, omega arith, refl)) ⨾
    node_may _ 0 v3 v4 (codes "packet 1") (codes "P1|one|accept|0|1|0" ∷ []) _ refl
    (node_answers 0 v3 v4 (codes "packet 1") (codes "P1|one|accept|0|1|0" ∷ []) (takes (Accept 0 1 low))
    (and_sends (HasTaken None) (Accepted 0 0 1 low))
    (Some (SetsBallots 0
    (record { promised = Some 1; vote = Some (record { ballot = 1; cut = low }) }))) _ refl refl refl refl refl
    ((omega arith, promised, its_vote), refl, refl) refl)
    (λ p read of. (2, omega arith, refl)) ⨾
    node_may _ 0 v4 v5 (codes "packet 1") (codes "P1|one|accepted|0|0|1|0" ∷ []) _ refl
    (node_answers 0 v4 v5 (codes "packet 1") (codes "P1|one|accepted|0|0|1|0" ∷ []) (takes (Accepted 0 0 1 low))
    (saying (HasTaken (Some 0))) (Some (Learns 0 low)) _ refl refl refl refl refl ((omega arith, among), refl, refl) refl)
    (λ p read of. (3, omega arith, refl)) ⨾
    node_may _ 0 v5 v5 (codes "export 0") [] _ refl
    (node_answers 0 v5 v5 (codes "export 0") [] (ExportPeriod 0)
    (saying (HasExported exported)) None _ refl refl refl refl refl refl refl)
    (λ p read of. absurd (none-some p read)) ⨾ tt

-- ---- what is done behind it

abbrev pub batch_text : List ℕ
batch_text = lines_text batch_lines

-- The agent journals a batch, and the observer takes it, which comes too late for the month.
abbrev pub carries : List HostAct
carries =
    GoesOn (AgentOf 1) (agent_text ++ codes "new\n") (process.Agent (agent_self []))
    ∷ asked_agent (codes "journal 2") batch_lines (b ∷ [])
    (codes "kept 3\nbatch 2\n" ++ batch_text ++ codes "send all 3\nP1|one|batch|2\n" ++ batch_text ++ codes "journaled seq 1\n")
    ∷ GoesOn (NodeOf 1) (observer_text ++ codes "new\n") (process.Node (node_self 1 new_node))
    ∷ asked_node 1 (codes "packet 3") (codes "P1|one|batch|2" ∷ batch_lines) o1
    (codes "kept 3\nbatch 2\n" ++ batch_text ++ codes "delivered\n")
    ∷ []

abbrev pub carried : Machines
carried = all_done one (all_done one (begun_machines one) closes) carries

pub is_batch : IsWellFormed b
unfolding days_from_civil day_count days_of_years days_of_months worth_of decimals_of digits
is_batch = IsWellFormed-read batch_text b refl

pub carries_batch : IsHostHistory one (all_done one (begun_machines one) closes) carries
unfolding days_from_civil day_count days_of_years days_of_months worth_of decimals_of digits
carries_batch =
    record {
      begins = record {
        preamble = preamble_of (AgentOf 1) agent_text;
        first = agent_text;
        stored = codes "new\n";
        joined = refl;
        is_read = agent_read;
        whole = refl;
        kept = (own (AgentOf 1)).kept;
        is_stored = HasNone;
        goes_on = (refl, refl, refl);
      };
      head = refl;
      sheet = refl;
      issuer = refl;
      log = refl;
    } ⨾
    agent_may _ [] (b ∷ []) (codes "journal 2") batch_lines (JournalBatch (Good batch_text)) (and_sends (HasJournaled 1) (CarriesBatch b))
    (Some (Takes b)) _
    refl refl refl refl refl refl (is_batch, refl, refl) refl ⨾
    record {
      begins = record {
        preamble = preamble_of (NodeOf 1) observer_text;
        first = observer_text;
        stored = codes "new\n";
        joined = refl;
        is_read = observer_read;
        whole = refl;
        kept = (own (NodeOf 1)).kept;
        is_stored = HasNone;
        goes_on = refl;
      };
      head = refl;
      sheet = refl;
      issuer = refl;
      log = refl;
    } ⨾
    node_may _ 1 new_node o1 (codes "packet 3") (codes "P1|one|batch|2" ∷ batch_lines) _ refl
    (node_answers 1 new_node o1 (codes "packet 3") (codes "P1|one|batch|2" ∷ batch_lines) (takes (CarriesBatch b))
    (saying (HasTaken None)) (Some (Takes b)) _ refl refl refl refl refl (is_batch, refl, refl) refl)
    (λ p read of. (4, omega arith, refl)) ⨾ tt

-- what the voter keeps takes the place of its log
abbrev short : List ℕ
short = codes "G1|one|node|0|1|1|1\nkept 2\nK1|1|1|1|0|0|0\n0\n"

-- The observer learns the cut by the voter's vote, and exports. The voter goes on with a log that was shortened, and exports once more.
abbrev learns : List HostAct
learns =
    asked_node 1 (codes "packet 1") (codes "P1|one|accepted|0|0|1|0" ∷ []) o2 (codes "kept 1\nlearned|0|0\ndelivered learned 0\n")
    ∷ asked_node 1 (codes "export 0") [] o2 empty_file
    ∷ Shortens (NodeOf 0) (process.Node (node_self 0 v5)) (codes "kept lines 2\nK1|1|1|1|0|0|0\n0\n")
    ∷ GoesOn (NodeOf 0) (voter_text ++ codes "log 4\n" ++ short) (process.Node (node_self 0 (wake v5.kept)))
    ∷ asked_node 0 (codes "export 0") [] (wake v5.kept) empty_file
    ∷ []

short_read : log_in short ≡ Ok (record { head = (own (NodeOf 0)).head; kept = record { agents = 1; kept = v5.kept } })
unfolding log_in days_from_civil day_count days_of_years days_of_months worth_of decimals_of digits
short_read = refl

learns_cut : IsHostHistory one carried learns
unfolding days_from_civil day_count days_of_years days_of_months worth_of decimals_of digits
learns_cut =
    node_may _ 1 o1 o2 (codes "packet 1") (codes "P1|one|accepted|0|0|1|0" ∷ []) _ refl
    (node_answers 1 o1 o2 (codes "packet 1") (codes "P1|one|accepted|0|0|1|0" ∷ []) (takes (Accepted 0 0 1 low))
    (saying (HasTaken (Some 0))) (Some (Learns 0 low)) _ refl refl refl refl refl ((omega arith, among), refl, refl) refl)
    (λ p read of. (3, omega arith, refl)) ⨾
    node_may _ 1 o2 o2 (codes "export 0") [] _ refl
    (node_answers 1 o2 o2 (codes "export 0") [] (ExportPeriod 0)
    (saying (HasExported exported)) None _ refl refl refl refl refl refl refl)
    (λ p read of. absurd (none-some p read)) ⨾
    record {
      old = process.Node (node_self 0 v5);
      runs = refl;
      does = node_answers 0 v5 v5 (codes "keep") [] TellKept
          (saying (KeptIs (codes "K1|1|1|1|0|0|0\n0\n"))) None _ refl refl refl refl refl refl refl;
    } ⨾
    record {
      begins = record {
        preamble = preamble_of (NodeOf 0) voter_text;
        first = voter_text;
        stored = codes "log 4\n" ++ short;
        joined = refl;
        is_read = voter_read;
        whole = refl;
        kept = record { agents = 1; kept = v5.kept };
        is_stored = HasLog (codes "log 4") short (record { agents = 1; kept = v5.kept }) 4 refl refl short_read;
        goes_on = refl;
      };
      head = refl;
      sheet = refl;
      issuer = refl;
      log = refl;
    } ⨾
    node_may _ 0 (wake v5.kept) (wake v5.kept) (codes "export 0") [] _ refl
    (node_answers 0 (wake v5.kept) (wake v5.kept) (codes "export 0") [] (ExportPeriod 0)
    (saying (HasExported exported)) None _ refl refl refl refl refl refl refl)
    (λ p read of. absurd (none-some p read))
    ⨾ tt

-- ---- all of it

pub host_more : (m : Machines) (hosts more : List HostAct) → IsHostHistory one m hosts → IsHostHistory one (all_done one m hosts) more
    → IsHostHistory one m (hosts ++ more)
host_more m [] more first rest = rest
host_more m (h ∷ hosts) more first rest = (first.0, host_more (done one m h) hosts more first.1 rest)

is_history : IsHostHistory one (begun_machines one) (closes ++ (carries ++ learns))
is_history = host_more (begun_machines one) closes (carries ++ learns) closes_month
    (host_more (all_done one (begun_machines one) closes) carries learns carries_batch learns_cut)

so_it_comes_to_a_history : ComeToHistory one (closes ++ (carries ++ learns))
so_it_comes_to_a_history = come_to_history one (closes ++ (carries ++ learns)) is_history
