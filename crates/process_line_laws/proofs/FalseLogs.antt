-- What goes wrong where a process is begun with an older log than the one that is stored: two files of one month that differ.
use Rattle.std.proofs.Common.{◌≡◌, ℕ, ◌≤◌, List, [], ◌∷◌, ◌++◌, Some, None, refl, subst, arith, codes}
use Rattle.std.specs.Fmt.{digits}
use Rattle.std.proofs.lemmas.List.Elements.{All-nil, All-cons}
use Rattle.std.proofs.lemmas.Option.{none-some, same_Some}
use Rattle.jiff_core.specs.Calendar.{days_from_civil, day_count, days_of_years, days_of_months}
use Rattle.metering_model.specs.Ballot.{Vote}
use Rattle.metering_model.specs.NumberText.{worth_of, decimals_of}
use Rattle.metering_model.specs.KeptText.{IsBallotNumber, IsCutAmong}
use Rattle.metering_model.specs.World.{Accept, Accepted, CarriesBatch, Node, Prepare, Promise, new_kept, wake}
use Rattle.process_laws.specs.LocalSteps.{BeginBallot, ExportPeriod, HasBegun, HasExported, HasTaken, saying}
use Rattle.process_laws.proofs.EachAct.{◌⨾◌}
use Rattle.log_text.specs.LogText.{BeginsRound, Learns, NodeOf, SetsBallots, Takes}
use Rattle.process_text.specs.declared.processes.Process.TheVariants as process
use Rattle.process_player.specs.declared.heads.ProcessKind.TheVariants as kind
use Rattle.process_player.specs.Starts.{Begins, HasNone}
use Rattle.process_line_laws.specs.Hosts.{GoesOn, HostAct, IsHostHistory, begun_machines, done, head_of}
use Rattle.process_line_laws.proofs.Files.{bytes_agree}
use Rattle.process_line_laws.proofs.FalseLines.{exported, file_with_row, high, of_month, of_month_too, their_bytes_differ}
use Rattle.process_line_laws.proofs.WorkedGroup.{asked_node, node_answers, node_may, node_self, one, own, preamble_of, voter_read, voter_text}
use Rattle.process_line_laws.proofs.WorkedLines.{and_sends, b, batch_lines, batch_text, carried, carries, closes, empty_file, is_batch, takes, with_command}

-- The voter has closed the month, and is begun as if it had stored nothing.
abbrev forgets : HostAct
forgets = GoesOn (NodeOf 0) (voter_text ++ codes "new\n") (process.Node (node_self 0 (wake new_kept)))

-- all is as it should be but that this is not its log
record BeginsAsNew : Type 0 where
  pub begins : Begins kind.Node (voter_text ++ codes "new\n") (process.Node (node_self 0 (wake new_kept)))
  pub head : begins.preamble.own.head ≡ head_of one (NodeOf 0)
  pub sheet : begins.preamble.sheet ≡ one.sheet
  pub issuer : begins.preamble.issuer ≡ one.issuer

forgets_so : BeginsAsNew
unfolding days_from_civil day_count days_of_years days_of_months worth_of decimals_of digits
forgets_so = record {
  begins = record {
    preamble = preamble_of (NodeOf 0) voter_text;
    first = voter_text;
    stored = codes "new\n";
    joined = refl;
    is_read = voter_read;
    whole = refl;
    kept = (own (NodeOf 0)).kept;
    is_stored = HasNone;
    goes_on = refl;
  };
  head = refl;
  sheet = refl;
  issuer = refl;
}

-- ---- it closes the month once more

abbrev w1 : Node
w1 = with_command 0 (takes (CarriesBatch b)) (wake new_kept)

abbrev w2 : Node
w2 = with_command 0 BeginBallot w1

abbrev w3 : Node
w3 = with_command 0 (takes (Prepare 0 1)) w2

abbrev w4 : Node
w4 = with_command 0 (takes (Promise 0 0 1 None)) w3

abbrev w5 : Node
w5 = with_command 0 (takes (Accept 0 1 high)) w4

abbrev w6 : Node
w6 = with_command 0 (takes (Accepted 0 0 1 high)) w5

abbrev closes_again : List HostAct
closes_again =
    asked_node 0 (codes "packet 3") (codes "P1|one|batch|2" ∷ batch_lines) w1
    (codes "kept 3\nbatch 2\n" ++ batch_text ++ codes "delivered\n")
    ∷ asked_node 0 (codes "start") [] w2 (codes "kept 1\nround|1\nsend all 1\nP1|one|prepare|0|1\nstarted ballot 1\n")
    ∷ asked_node 0 (codes "packet 1") (codes "P1|one|prepare|0|1" ∷ []) w3
    (codes "kept 1\nballot|0|1|0\nsend 0 1\nP1|one|promise|0|0|1|0\ndelivered\n")
    ∷ asked_node 0 (codes "packet 1") (codes "P1|one|promise|0|0|1|0" ∷ []) w4 (codes "send all 1\nP1|one|accept|0|1|1\ndelivered\n")
    ∷ asked_node 0 (codes "packet 1") (codes "P1|one|accept|0|1|1" ∷ []) w5
    (codes "kept 1\nballot|0|1|1|1\nsend all 1\nP1|one|accepted|0|0|1|1\ndelivered\n")
    ∷ asked_node 0 (codes "packet 1") (codes "P1|one|accepted|0|0|1|1" ∷ []) w6 (codes "kept 1\nlearned|0|1\ndelivered learned 0\n")
    ∷ asked_node 0 (codes "export 0") [] w6 file_with_row
    ∷ []

promised : (ballot : ℕ) → Some 1 ≡ Some ballot → IsBallotNumber ballot
promised ballot e = subst IsBallotNumber (same_Some 1 ballot e) (omega arith, omega arith)

no_vote : (v : Vote) → None ≡ Some v → IsBallotNumber v.ballot × IsCutAmong 1 v.cut
no_vote v e = absurd (none-some v e)

among : IsCutAmong 1 high
among = record { size = refl; low = All-cons (λ seq. seq ≤ 1_000_000) 1 [] (omega arith) (All-nil (λ seq. seq ≤ 1_000_000)) }

its_vote : (v : Vote) → Some (record { ballot = 1; cut = high }) ≡ Some v → IsBallotNumber v.ballot × IsCutAmong 1 v.cut
its_vote v e = subst (λ (u : Vote). IsBallotNumber u.ballot × IsCutAmong 1 u.cut) (same_Some _ v e) ((omega arith, omega arith), among)

closes_again_so : IsHostHistory one (done one carried forgets) closes_again
unfolding days_from_civil day_count days_of_years days_of_months worth_of decimals_of digits
closes_again_so =
    node_may _ 0 (wake new_kept) w1 (codes "packet 3") (codes "P1|one|batch|2" ∷ batch_lines) _ refl
    (node_answers 0 (wake new_kept) w1 (codes "packet 3") (codes "P1|one|batch|2" ∷ batch_lines) (takes (CarriesBatch b))
    (saying (HasTaken None)) (Some (Takes b)) _
    refl refl refl refl refl (is_batch, refl, refl) refl)
    (λ p read of. (4, omega arith, refl)) ⨾
    node_may _ 0 w1 w2 (codes "start") [] _ refl
    (node_answers 0 w1 w2 (codes "start") [] BeginBallot (and_sends (HasBegun 1) (Prepare 0 1)) (Some (BeginsRound 1)) _
    refl refl refl refl refl ((omega arith, omega arith), refl, refl) refl)
    (λ p read of. absurd (none-some p read)) ⨾
    node_may _ 0 w2 w3 (codes "packet 1") (codes "P1|one|prepare|0|1" ∷ []) _ refl
    (node_answers 0 w2 w3 (codes "packet 1") (codes "P1|one|prepare|0|1" ∷ []) (takes (Prepare 0 1))
    (and_sends (HasTaken None) (Promise 0 0 1 None))
    (Some (SetsBallots 0 (record { promised = Some 1; vote = None }))) _ refl refl refl refl refl
    ((omega arith, promised, no_vote), refl, refl) refl)
    (λ p read of. (0, omega arith, refl)) ⨾
    node_may _ 0 w3 w4 (codes "packet 1") (codes "P1|one|promise|0|0|1|0" ∷ []) _ refl
    (node_answers 0 w3 w4 (codes "packet 1") (codes "P1|one|promise|0|0|1|0" ∷ []) (takes (Promise 0 0 1 None))
    (and_sends (HasTaken None) (Accept 0 1 high))
    None _ refl refl refl refl refl refl refl)
    (λ p read of. (1, omega arith, refl)) ⨾
    node_may _ 0 w4 w5 (codes "packet 1") (codes "P1|one|accept|0|1|1" ∷ []) _ refl
    (node_answers 0 w4 w5 (codes "packet 1") (codes "P1|one|accept|0|1|1" ∷ []) (takes (Accept 0 1 high))
    (and_sends (HasTaken None) (Accepted 0 0 1 high))
    (Some (SetsBallots 0 (record { promised = Some 1; vote = Some (record { ballot = 1; cut = high }) }))) _ refl refl refl refl refl
    ((omega arith, promised, its_vote), refl, refl) refl)
    (λ p read of. (7, omega arith, refl)) ⨾
    node_may _ 0 w5 w6 (codes "packet 1") (codes "P1|one|accepted|0|0|1|1" ∷ []) _ refl
    (node_answers 0 w5 w6 (codes "packet 1") (codes "P1|one|accepted|0|0|1|1" ∷ []) (takes (Accepted 0 0 1 high))
    (saying (HasTaken (Some 0)))
    (Some (Learns 0 high)) _ refl refl refl refl refl ((omega arith, among), refl, refl) refl)
    (λ p read of. (8, omega arith, refl)) ⨾
    node_may _ 0 w6 w6 (codes "export 0") [] _ refl
    (node_answers 0 w6 w6 (codes "export 0") [] (ExportPeriod 0)
    (saying (HasExported exported)) None _ refl refl refl refl refl refl refl)
    (λ p read of. absurd (none-some p read)) ⨾ tt

-- ---- two files

-- by the law such a list is no history
so_an_older_log_makes_no_history : IsHostHistory one (begun_machines one) (closes ++ (carries ++ (forgets ∷ closes_again))) → ⊥
so_an_older_log_makes_no_history history =
    their_bytes_differ
    (bytes_agree one (closes ++ (carries ++ (forgets ∷ closes_again))) history (asked_node 0 (codes "export 0") [] _ empty_file)
    (asked_node 0 (codes "export 0") [] w6 file_with_row)
    (6, omega arith, refl) (18, omega arith, refl) 0 (of_month _ refl) (of_month_too _ refl))
