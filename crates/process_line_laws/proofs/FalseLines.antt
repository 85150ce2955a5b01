-- What goes wrong where a host hands on a packet that nobody sent: two files of one month that differ. All else is as it should be.
use Rattle.std.proofs.Common.{◌≡◌, ℕ, ◌≤◌, List, [], ◌∷◌, ◌++◌, Some, None, refl, ap, arith, codes}
use Rattle.std.specs.Prelude.{slice_index}
use Rattle.std.specs.Fmt.{digits}
use Rattle.std.proofs.lemmas.List.Elements.{All-nil, All-cons}
use Rattle.std.proofs.lemmas.Option.{none-some}
use Rattle.jiff_core.specs.Calendar.{days_from_civil, day_count, days_of_years, days_of_months}
use Rattle.metering_model.specs.NumberText.{worth_of, decimals_of}
use Rattle.metering_model.specs.File.{header_line}
use Rattle.metering_model.specs.KeptText.{IsCutAmong}
use Rattle.metering_model.specs.Schedule.{lines_text}
use Rattle.metering_model.specs.World.{Decided, Node, Snapshot}
use Rattle.metering_model.proofs.Samples.{issuer_1, row_1, sheet_0}
use Rattle.process_laws.specs.LocalSteps.{ExportPeriod, HasExported, HasTaken, saying}
use Rattle.process_laws.proofs.EachAct.{◌⨾◌}
use Rattle.log_text.specs.LogText.{Learns, NodeOf}
use Rattle.process_text.specs.declared.processes.Process.{Process}
use Rattle.process_text.specs.declared.processes.Process.TheVariants as process
use Rattle.process_player.specs.Runs.{Asked, Does}
use Rattle.process_line_laws.specs.Hosts.{HostAct, IsHostHistory, Machines, begun_machines, done, said_by}
use Rattle.process_line_laws.specs.Comes.{IsFileOf}
use Rattle.process_line_laws.proofs.Files.{bytes_agree}
use Rattle.process_line_laws.proofs.WorkedGroup.{asked_node, node_answers, node_may, node_self, one}
use Rattle.process_line_laws.proofs.WorkedLines.{b, carried, carries, closes, empty_file, o1, takes, with_command}

abbrev pub high : List ℕ
high = 1 ∷ []

-- what the observer is handed: a cut up to the batch, which nobody chose
abbrev made_up : Asked
made_up = record { first = codes "packet 1"; below = lines_text (codes "P1|one|decided|0|1" ∷ []) }

abbrev o2 : Node
o2 = with_command 1 (takes (Decided 0 high)) o1

abbrev takes_it : HostAct
takes_it = asked_node 1 (codes "packet 1") (codes "P1|one|decided|0|1" ∷ []) o2 (codes "kept 1\nlearned|0|1\ndelivered learned 0\n")

abbrev pub file_with_row : List ℕ
file_with_row = codes "exported period 0 lines 2\n" ++ header_line ++ codes "\n" ++ row_1 ++ codes "\n"

abbrev exports_it : HostAct
exports_it = asked_node 1 (codes "export 0") [] o2 file_with_row

-- ---- all but one premise

-- what is asked of an act but that its packet was sent
record MayButBeSent (m : Machines) (i : ℕ) (asked : Asked) (next : Process) (said : List ℕ) : Type 0 where
  pub old : Process
  pub runs : (m.machine (NodeOf i)).runs ≡ Some old
  pub does : Does old asked next said

among : IsCutAmong 1 high
among = record { size = refl; low = All-cons (λ seq. seq ≤ 1_000_000) 1 [] (omega arith) (All-nil (λ seq. seq ≤ 1_000_000)) }

takes_it_so : MayButBeSent carried 1 made_up (process.Node (node_self 1 o2)) (said_by takes_it)
unfolding days_from_civil day_count days_of_years days_of_months worth_of decimals_of digits
takes_it_so = record {
  old = process.Node (node_self 1 o1);
  runs = refl;
  does = node_answers 1 o1 o2 (codes "packet 1") (codes "P1|one|decided|0|1" ∷ []) (takes (Decided 0 high)) (saying (HasTaken (Some 0)))
      (Some (Learns 0 high)) _
      refl refl refl refl refl ((omega arith, among), refl, refl) refl;
}

abbrev pub exported : Snapshot
exported = record { period = 0; from = 0 ∷ []; to = high; batches = b ∷ []; sheet = sheet_0; issuer = issuer_1 }

exports_it_so : IsHostHistory one (done one carried takes_it) (exports_it ∷ [])
unfolding days_from_civil day_count days_of_years days_of_months worth_of decimals_of digits
exports_it_so =
    node_may _ 1 o2 o2 (codes "export 0") [] _ refl
    (node_answers 1 o2 o2 (codes "export 0") [] (ExportPeriod 0)
    (saying (HasExported exported)) None _ refl refl refl refl refl refl refl)
    (λ p read of. absurd (none-some p read)) ⨾ tt

-- ---- two files

abbrev all : List HostAct
all = closes ++ (carries ++ (takes_it ∷ exports_it ∷ []))

pub of_month : (last : List ℕ) → last ≡ empty_file → IsFileOf 0 last
unfolding digits
of_month last is = record { is_period = omega arith; rest = codes "1\n" ++ header_line ++ codes "\n"; words = is }

pub of_month_too : (last : List ℕ) → last ≡ file_with_row → IsFileOf 0 last
unfolding digits
of_month_too last is =
    record { is_period = omega arith; rest = codes "2\n" ++ header_line ++ codes "\n" ++ row_1 ++ codes "\n"; words = is }

pub their_bytes_differ : empty_file ≡ file_with_row → ⊥
their_bytes_differ same = let bytes : 49 ≡ 50 = ap (λ t. slice_index t 24) same in omega (arith, bytes)

-- by the law such a list is no history
so_a_made_up_packet_makes_no_history : IsHostHistory one (begun_machines one) all → ⊥
so_a_made_up_packet_makes_no_history history =
    their_bytes_differ
    (bytes_agree one all history (asked_node 0 (codes "export 0") [] _ empty_file) exports_it (6, omega arith, refl)
    (12, omega arith, refl) 0 (of_month _ refl) (of_month_too _ refl))
