-- What goes wrong where one act of a history may not be done: two files of one period whose bytes differ. Each fault is small, and every other act
-- is as it should be.
use Rattle.std.proofs.Common.{ap, arith}
use Rattle.std.specs.Prelude.{◌≡◌, ℕ, zero, suc, List, [], ◌∷◌, ◌++◌, Some, None, pos, slice_get, slice_index, codes, refl}
use Rattle.std.specs.List.{Contains}
use Rattle.std.specs.Fmt.{digits}
use Rattle.std.proofs.Math.Dec.{lit<, lit≤}
use Rattle.jiff_core.specs.Calendar.{days_from_civil, day_count, days_of_years, days_of_months}
use Rattle.metering_model.specs.NumberText.{worth_of, decimals_of}
use Rattle.metering_model.specs.Batch.{Batch, Reads}
use Rattle.metering_model.specs.declared.Kind.TheVariants.{Usage}
use Rattle.metering_model.specs.declared.Version.TheVariants.{B1}
use Rattle.metering_model.specs.Transcript.{file_of, line_count}
use Rattle.metering_model.specs.Cut.{Cut}
use Rattle.metering_model.specs.World.{Packet, CarriesBatch, Prepare, Promise, Accept, Accepted, Decided, Kept, Good, Snapshot, new_kept}
use Rattle.metering_model.proofs.Samples.{sheet_0, issuer_1, reading_1}
use Rattle.process_laws.specs.LocalSteps.{Group, TakePacket, BeginBallot, ExportPeriod, JournalBatch, HasTaken, HasExported, Answer, saying}
use Rattle.process_laws.specs.Histories.{Processes, Act, NodeDoes, NodeGoesOn, AgentDoes, AgentGoesOn, acted, begun, answers, after, MayAct, IsHistory}
use Rattle.process_laws.proofs.EachAct.{◌⨾◌}
use Rattle.process_laws.proofs.WorkedGroup.{batch_of_1, text_of_1}
use Rattle.process_laws.proofs.AgreedExports.{files_are_the_same}

-- ---- the group

abbrev name : List ℕ
name = codes "one"

abbrev pub group : (voters observers : ℕ) → Group
group voters observers = record { name = name; voters = voters; observers = observers; agents = 1; sheet = sheet_0; issuer = issuer_1 }

abbrev pub takes : ℕ → Packet → Act
takes i p = NodeDoes i (TakePacket name p)

-- the agent's first batch, of one credit, which is charged without a price
abbrev pub b : Batch
b = batch_of_1

abbrev pub journals_b : Act
journals_b = AgentDoes 1 (JournalBatch (Good text_of_1))

abbrev pub low : Cut
low = 0 ∷ []

abbrev pub high : Cut
high = 1 ∷ []

-- what is exported of period 0
abbrev pub up_to : Cut → List Batch → Snapshot
up_to cut batches = record { period = 0; from = low; to = cut; batches = batches; sheet = sheet_0; issuer = issuer_1 }

-- the one file has a header line alone, and the other one the credit's line too
pub bytes_differ : file_of (up_to low []) ≡ file_of (up_to high (b ∷ [])) → ⊥
unfolding days_from_civil day_count days_of_years days_of_months worth_of decimals_of digits
bytes_differ same = let lines : ◌≡◌ {A = ℕ} 1 2 = ap line_count same in absurd (cc (lines))

-- ---- what a fault comes to

-- Two exports of one period are among the answers, and the bytes of their files are not the same.
pub record HaveTwoFiles (xs ys : List Answer) : Type 0 where
  pub one : Snapshot
  pub other : Snapshot
  pub has : Contains xs (saying (HasExported one))
  pub had : Contains ys (saying (HasExported other))
  pub same_period : one.period ≡ other.period
  pub differ : file_of one ≡ file_of other → ⊥

pub low_and_high : {xs ys : List Answer} → Contains xs (saying (HasExported (up_to low [])))
    → Contains ys (saying (HasExported (up_to high (b ∷ [])))) → HaveTwoFiles xs ys
low_and_high has had = record { one = up_to low []; other = up_to high (b ∷ []); has = has; had = had; same_period = refl; differ = bytes_differ }

-- each act may be done where it stands, of the one at this place nothing is asked
abbrev IsHistoryBut : Group → Processes → (place : ℕ) → List Act → Type 0
IsHistoryBut g s place [] = ⊥
IsHistoryBut g s zero (a ∷ acts) = IsHistory g (acted g s a).after acts
IsHistoryBut g s (suc place) (a ∷ acts) = MayAct g s a × IsHistoryBut g (acted g s a).after place acts

record GoesWrongAt (g : Group) (place : ℕ) (acts : List Act) : Type 0 where
  pub others_right : IsHistoryBut g (begun g) place acts
  pub files : HaveTwoFiles (answers g (begun g) acts) (answers g (begun g) acts)

-- by the law such a list is no history
is_no_history : (g : Group) (place : ℕ) (acts : List Act) → GoesWrongAt g place acts → IsHistory g (begun g) acts → ⊥
is_no_history g place acts wrong history =
    let two = wrong.files in two.differ (ap file_of (files_are_the_same g acts history two.one two.other two.has two.had two.same_period))

-- ---- a packet that nobody sent

-- Node 0 votes by itself, and learns the cut that it chose.
abbrev exports_b : List Act
exports_b =
    journals_b ∷ takes 0 (CarriesBatch b) ∷ NodeDoes 0 BeginBallot ∷ takes 0 (Prepare 0 1) ∷ takes 0 (Promise 0 0 1 None) ∷ takes 0 (Accept 0 1 high)
    ∷ takes 0 (Accepted 0 0 1 high) ∷ NodeDoes 0 (ExportPeriod 0) ∷ []

-- Node 1 is handed a cut that nobody sent, and believes it.
abbrev with_a_made_up_packet : List Act
with_a_made_up_packet = exports_b ++ takes 1 (Decided 0 low) ∷ NodeDoes 1 (ExportPeriod 0) ∷ []

a_made_up_packet_makes_two_files : GoesWrongAt (group 1 1) 8 with_a_made_up_packet
unfolding days_from_civil day_count days_of_years days_of_months worth_of decimals_of digits
a_made_up_packet_makes_two_files = record {
  others_right =
      (lit≤ tt, lit≤ tt) ⨾
      (lit< tt, λ same. (0, lit< tt, refl)) ⨾
      (lit< tt, tt) ⨾
      (lit< tt, λ same. (1, lit< tt, refl)) ⨾
      (lit< tt, λ same. (2, lit< tt, refl)) ⨾
      (lit< tt, λ same. (3, lit< tt, refl)) ⨾
      (lit< tt, λ same. (4, lit< tt, refl)) ⨾
      (lit< tt, tt) ⨾
      (lit< tt, tt) ⨾ tt;
  files = low_and_high (9, lit< tt, refl) (7, lit< tt, refl);
}

so_a_made_up_packet_makes_no_history : IsHistory (group 1 1) (begun (group 1 1)) with_a_made_up_packet → ⊥
so_a_made_up_packet_makes_no_history = is_no_history (group 1 1) 8 with_a_made_up_packet a_made_up_packet_makes_two_files

-- ---- a vote that was answered before it was stored

-- what node 0 had stored before it voted
abbrev lacking_the_vote : Kept
lacking_the_vote = record { round = 1; learned = []; acceptor = record { promised = Some 1; vote = None }; holding = [] }

-- Node 0 votes for the low cut, and says so to the observer, which learns it. Then it goes on without its vote, and so chooses the high one.
abbrev with_a_vote_not_stored : List Act
with_a_vote_not_stored =
    NodeDoes 0 BeginBallot ∷ takes 0 (Prepare 0 1) ∷ takes 0 (Promise 0 0 1 None) ∷ takes 0 (Accept 0 1 low) ∷ takes 1 (Accepted 0 0 1 low)
    ∷ NodeDoes 1 (ExportPeriod 0) ∷ NodeGoesOn 0 lacking_the_vote ∷ journals_b ∷ takes 0 (CarriesBatch b) ∷ NodeDoes 0 BeginBallot ∷ takes 0 (Prepare 0 2)
    ∷ takes 0 (Promise 0 0 2 None) ∷ takes 0 (Accept 0 2 high) ∷ takes 0 (Accepted 0 0 2 high) ∷ NodeDoes 0 (ExportPeriod 0) ∷ []

a_vote_not_stored_makes_two_files : GoesWrongAt (group 1 1) 6 with_a_vote_not_stored
unfolding days_from_civil day_count days_of_years days_of_months worth_of decimals_of digits
a_vote_not_stored_makes_two_files = record {
  others_right =
      (lit< tt, tt) ⨾
      (lit< tt, λ same. (0, lit< tt, refl)) ⨾
      (lit< tt, λ same. (1, lit< tt, refl)) ⨾
      (lit< tt, λ same. (2, lit< tt, refl)) ⨾
      (lit< tt, λ same. (3, lit< tt, refl)) ⨾
      (lit< tt, tt) ⨾
      (lit≤ tt, lit≤ tt) ⨾
      (lit< tt, λ same. (4, lit< tt, refl)) ⨾
      (lit< tt, tt) ⨾
      (lit< tt, λ same. (5, lit< tt, refl)) ⨾
      (lit< tt, λ same. (6, lit< tt, refl)) ⨾
      (lit< tt, λ same. (7, lit< tt, refl)) ⨾
      (lit< tt, λ same. (8, lit< tt, refl)) ⨾
      (lit< tt, tt) ⨾ tt;
  files = low_and_high (5, lit< tt, refl) (14, lit< tt, refl);
}

so_a_vote_not_stored_makes_no_history : IsHistory (group 1 1) (begun (group 1 1)) with_a_vote_not_stored → ⊥
so_a_vote_not_stored_makes_no_history = is_no_history (group 1 1) 6 with_a_vote_not_stored a_vote_not_stored_makes_two_files

-- ---- a round that was not stored

-- What node 0 keeps but for its round: as if the ballot that it began had left it before the round was stored.
abbrev lacking_the_round : Kept
lacking_the_round = record {
  round = 0;
  learned = [];
  acceptor = record { promised = Some 1; vote = Some (record { ballot = 1; cut = low }) };
  holding = [];
}

-- Node 0 proposes the low cut in its first ballot and votes for it, and the observer learns it. Then node 0 goes on without its round, and so begins
-- the same ballot again: the promise that it gave in it, before it voted, still counts, and the ballot gets a second cut.
abbrev with_a_round_not_stored : List Act
with_a_round_not_stored =
    NodeDoes 0 BeginBallot ∷ takes 0 (Prepare 0 1) ∷ takes 0 (Promise 0 0 1 None) ∷ takes 0 (Accept 0 1 low) ∷ takes 1 (Accepted 0 0 1 low)
    ∷ NodeDoes 1 (ExportPeriod 0) ∷ NodeGoesOn 0 lacking_the_round ∷ journals_b ∷ takes 0 (CarriesBatch b) ∷ NodeDoes 0 BeginBallot
    ∷ takes 0 (Promise 0 0 1 None) ∷ takes 0 (Accept 0 1 high) ∷ takes 0 (Accepted 0 0 1 high) ∷ NodeDoes 0 (ExportPeriod 0) ∷ []

a_round_not_stored_makes_two_files : GoesWrongAt (group 1 1) 6 with_a_round_not_stored
unfolding days_from_civil day_count days_of_years days_of_months worth_of decimals_of digits
a_round_not_stored_makes_two_files = record {
  others_right =
      (lit< tt, tt) ⨾
      (lit< tt, λ same. (0, lit< tt, refl)) ⨾
      (lit< tt, λ same. (1, lit< tt, refl)) ⨾
      (lit< tt, λ same. (2, lit< tt, refl)) ⨾
      (lit< tt, λ same. (3, lit< tt, refl)) ⨾
      (lit< tt, tt) ⨾
      (lit≤ tt, lit≤ tt) ⨾
      (lit< tt, λ same. (4, lit< tt, refl)) ⨾
      (lit< tt, tt) ⨾
      (lit< tt, λ same. (1, lit< tt, refl)) ⨾
      (lit< tt, λ same. (6, lit< tt, refl)) ⨾
      (lit< tt, λ same. (7, lit< tt, refl)) ⨾
      (lit< tt, tt) ⨾ tt;
  files = low_and_high (5, lit< tt, refl) (13, lit< tt, refl);
}

so_a_round_not_stored_makes_no_history : IsHistory (group 1 1) (begun (group 1 1)) with_a_round_not_stored → ⊥
so_a_round_not_stored_makes_no_history = is_no_history (group 1 1) 6 with_a_round_not_stored a_round_not_stored_makes_two_files

-- ---- two packets that cause each other

-- Node 1 takes a cut that only later is sent, by node 2, which learned it from node 1: each of the two packets is sent by a process of the group, and
-- each since the other one was taken.
abbrev with_packets_in_a_ring : List Act
with_packets_in_a_ring =
    exports_b ++ takes 1 (Decided 0 low) ∷ takes 1 (Prepare 0 1) ∷ takes 2 (Decided 0 low) ∷ takes 2 (Prepare 0 1) ∷ NodeDoes 1 (ExportPeriod 0) ∷ []

packets_in_a_ring_make_two_files : GoesWrongAt (group 1 2) 8 with_packets_in_a_ring
unfolding days_from_civil day_count days_of_years days_of_months worth_of decimals_of digits
packets_in_a_ring_make_two_files = record {
  others_right =
      (lit≤ tt, lit≤ tt) ⨾
      (lit< tt, λ same. (0, lit< tt, refl)) ⨾
      (lit< tt, tt) ⨾
      (lit< tt, λ same. (1, lit< tt, refl)) ⨾
      (lit< tt, λ same. (2, lit< tt, refl)) ⨾
      (lit< tt, λ same. (3, lit< tt, refl)) ⨾
      (lit< tt, λ same. (4, lit< tt, refl)) ⨾
      (lit< tt, tt) ⨾
      (lit< tt, λ same. (1, lit< tt, refl)) ⨾
      (lit< tt, λ same. (5, lit< tt, refl)) ⨾
      (lit< tt, λ same. (1, lit< tt, refl)) ⨾
      (lit< tt, tt) ⨾ tt;
  files = low_and_high (12, lit< tt, refl) (7, lit< tt, refl);
}

-- what node 1 sends once it has learned the cut, and what node 2 does, whose packet node 1 had taken
each_sends_the_cut :
    (slice_get (answers (group 1 2) (begun (group 1 2)) with_packets_in_a_ring) 9 ≡ Some (record { words = HasTaken None; sends = Some (Decided 0 low) }))
    × (slice_get (answers (group 1 2) (begun (group 1 2)) with_packets_in_a_ring) 11
    ≡ Some (record { words = HasTaken None; sends = Some (Decided 0 low) }))
unfolding days_from_civil day_count days_of_years days_of_months worth_of decimals_of digits
each_sends_the_cut = (refl, refl)

so_packets_in_a_ring_make_no_history : IsHistory (group 1 2) (begun (group 1 2)) with_packets_in_a_ring → ⊥
so_packets_in_a_ring_make_no_history = is_no_history (group 1 2) 8 with_packets_in_a_ring packets_in_a_ring_make_two_files

-- ---- a node that goes on with an older state

-- Of three nodes, node 0 chooses the low cut by its own vote and that of node 1, and learns it.
abbrev chooses_low : List Act
chooses_low =
    NodeDoes 0 BeginBallot ∷ takes 0 (Prepare 0 3) ∷ takes 1 (Prepare 0 3) ∷ takes 0 (Promise 0 0 3 None) ∷ takes 0 (Promise 1 0 3 None)
    ∷ takes 0 (Accept 0 3 low) ∷ takes 1 (Accept 0 3 low) ∷ takes 0 (Accepted 0 0 3 low) ∷ takes 0 (Accepted 1 0 3 low) ∷ NodeDoes 0 (ExportPeriod 0) ∷ []

-- Then node 2 chooses the high cut by its own vote and that of node 1.
abbrev pub chooses_high : List Act
chooses_high =
    journals_b ∷ takes 2 (CarriesBatch b) ∷ NodeDoes 2 BeginBallot ∷ takes 1 (Prepare 0 5) ∷ takes 2 (Prepare 0 5) ∷ takes 2 (Promise 1 0 5 None)
    ∷ takes 2 (Promise 2 0 5 None) ∷ takes 1 (Accept 0 5 high) ∷ takes 2 (Accept 0 5 high) ∷ takes 2 (Accepted 1 0 5 high) ∷ takes 2 (Accepted 2 0 5 high)
    ∷ NodeDoes 2 (ExportPeriod 0) ∷ []

-- Between the two, node 1 goes on with what it kept at first, and so has forgotten that it voted.
abbrev with_an_older_state : List Act
with_an_older_state = chooses_low ++ NodeGoesOn 1 new_kept ∷ chooses_high

an_older_state_makes_two_files : GoesWrongAt (group 3 0) 10 with_an_older_state
unfolding days_from_civil day_count days_of_years days_of_months worth_of decimals_of digits
an_older_state_makes_two_files = record {
  others_right =
      (lit< tt, tt) ⨾
      (lit< tt, λ same. (0, lit< tt, refl)) ⨾
      (lit< tt, λ same. (0, lit< tt, refl)) ⨾
      (lit< tt, λ same. (1, lit< tt, refl)) ⨾
      (lit< tt, λ same. (2, lit< tt, refl)) ⨾
      (lit< tt, λ same. (3, lit< tt, refl)) ⨾
      (lit< tt, λ same. (3, lit< tt, refl)) ⨾
      (lit< tt, λ same. (4, lit< tt, refl)) ⨾
      (lit< tt, λ same. (5, lit< tt, refl)) ⨾
      (lit< tt, tt) ⨾
      (lit≤ tt, lit≤ tt) ⨾
      (lit< tt, λ same. (6, lit< tt, refl)) ⨾
      (lit< tt, tt) ⨾
      (lit< tt, λ same. (7, lit< tt, refl)) ⨾
      (lit< tt, λ same. (7, lit< tt, refl)) ⨾
      (lit< tt, λ same. (8, lit< tt, refl)) ⨾
      (lit< tt, λ same. (9, lit< tt, refl)) ⨾
      (lit< tt, λ same. (10, lit< tt, refl)) ⨾
      (lit< tt, λ same. (10, lit< tt, refl)) ⨾
      (lit< tt, λ same. (11, lit< tt, refl)) ⨾
      (lit< tt, λ same. (12, lit< tt, refl)) ⨾
      (lit< tt, tt) ⨾ tt;
  files = low_and_high (9, lit< tt, refl) (22, lit< tt, refl);
}

so_an_older_state_makes_no_history : IsHistory (group 3 0) (begun (group 3 0)) with_an_older_state → ⊥
so_an_older_state_makes_no_history = is_no_history (group 3 0) 10 with_an_older_state an_older_state_makes_two_files

-- With what it stored last it tells its vote, by which node 2 has to propose the low cut again.
with_its_own_state_it_tells_its_vote :
    slice_get (answers (group 3 0) (after (group 3 0) (begun (group 3 0)) chooses_low) chooses_high) 3
    ≡ Some (record { words = HasTaken None; sends = Some (Promise 1 0 5 (Some (record { ballot = 3; cut = low }))) })
unfolding days_from_civil day_count days_of_years days_of_months worth_of decimals_of digits
with_its_own_state_it_tells_its_vote = refl

-- ---- an agent whose journal is lost

abbrev pub other_text : List ℕ
other_text = codes "B1|1|1|1\n" ++ reading_1 ++ codes "\n"

-- another batch with the agent's first sequence, of one reading, which has a price
abbrev pub c : Batch
c = record {
  version = B1;
  agent = 1;
  seq = 1;
  records =
      Reads (record {
        kind = Usage;
        start = pos 1_736_467_200;
        end = pos 1_736_474_400;
        start_text = codes "2025-01-10T00:00:00Z";
        end_text = codes "2025-01-10T02:00:00Z";
        account = codes "acc-7";
        resource = codes "vm-1";
        key = codes "cpu";
        value = pos 5_400_000_000;
        commitment = [];
        tags = record { key = codes "env"; value = codes "prod" } ∷ [];
        region = None;
      })
      ∷ [];
}

abbrev pub journals_c : Act
journals_c = AgentDoes 1 (JournalBatch (Good other_text))

-- the credit's line and the reading's, from their first bytes on
pub rows_differ : file_of (up_to high (b ∷ [])) ≡ file_of (up_to high (c ∷ [])) → ⊥
unfolding days_from_civil day_count days_of_years days_of_months worth_of decimals_of digits
rows_differ same = let bytes : ◌≡◌ {A = ℕ} 53 48 = ap (λ t. slice_index t 575) same in absurd (omega (arith, bytes))

-- Node 0 has the agent's first batch, and chooses and exports the cut up to it. The agent goes on without its journal, and journals another first
-- batch. Node 1 gets that one.
abbrev with_a_lost_journal : List Act
with_a_lost_journal =
    exports_b ++ AgentGoesOn 1 [] ∷ journals_c ∷ takes 1 (CarriesBatch c) ∷ takes 1 (Accepted 0 0 1 high) ∷ NodeDoes 1 (ExportPeriod 0) ∷ []

a_lost_journal_makes_two_files : GoesWrongAt (group 1 1) 8 with_a_lost_journal
unfolding days_from_civil day_count days_of_years days_of_months worth_of decimals_of digits
a_lost_journal_makes_two_files = record {
  others_right =
      (lit≤ tt, lit≤ tt) ⨾
      (lit< tt, λ same. (0, lit< tt, refl)) ⨾
      (lit< tt, tt) ⨾
      (lit< tt, λ same. (1, lit< tt, refl)) ⨾
      (lit< tt, λ same. (2, lit< tt, refl)) ⨾
      (lit< tt, λ same. (3, lit< tt, refl)) ⨾
      (lit< tt, λ same. (4, lit< tt, refl)) ⨾
      (lit< tt, tt) ⨾
      (lit≤ tt, lit≤ tt) ⨾
      (lit< tt, λ same. (5, lit< tt, refl)) ⨾
      (lit< tt, λ same. (4, lit< tt, refl)) ⨾
      (lit< tt, tt) ⨾ tt;
  files = record {
    one = up_to high (b ∷ []);
    other = up_to high (c ∷ []);
    has = (7, lit< tt, refl);
    had = (12, lit< tt, refl);
    same_period = refl;
    differ = rows_differ;
  };
}

so_a_lost_journal_makes_no_history : IsHistory (group 1 1) (begun (group 1 1)) with_a_lost_journal → ⊥
so_a_lost_journal_makes_no_history = is_no_history (group 1 1) 8 with_a_lost_journal a_lost_journal_makes_two_files
