-- What goes wrong where a node or an agent is run twice at once, or two processes are begun with other numbers: two files of one period whose bytes
-- differ. Each run is a history by itself; or each act of one list may be done where it stands, by one of two processes.
use Rattle.std.specs.Prelude.{◌≡◌, ◌==◌, if◌then◌else◌, List, [], ◌∷◌, ◌++◌, map, Some, None, refl}
use Rattle.std.specs.Fmt.{digits}
use Rattle.std.proofs.Math.Dec.{lit<, lit≤}
use Rattle.jiff_core.specs.Calendar.{days_from_civil, day_count, days_of_years, days_of_months}
use Rattle.metering_model.specs.NumberText.{worth_of, decimals_of}
use Rattle.metering_model.specs.Holding.{Holding}
use Rattle.metering_model.specs.World.{CarriesBatch, Prepare, Promise, Accept, Accepted, Good, Kept}
use Rattle.process_laws.specs.LocalSteps.{Group, BeginBallot, ExportPeriod, AgentCommand, JournalBatch, Answer}
use Rattle.process_laws.specs.Histories.{Processes, Act, AgentDoes, NodeDoes, NodeGoesOn, acted, begun, answers, after, MayAct, IsHistory}
use Rattle.process_laws.proofs.EachAct.{◌⨾◌}
use Rattle.process_laws.proofs.FalseHistories.{group, takes, b, c, journals_b, chooses_high, other_text, low, high, up_to, rows_differ, HaveTwoFiles, low_and_high}

-- Two runs go on from one state. Done by one process each, they are a group that goes wrong.
record GoesWrongTwice (g : Group) (before one other : List Act) : Type 0 where
  pub rightly_before : IsHistory g (begun g) before
  pub rightly_one : IsHistory g (after g (begun g) before) one
  pub rightly_other : IsHistory g (after g (begun g) before) other
  pub files : HaveTwoFiles (answers g (after g (begun g) before) one) (answers g (after g (begun g) before) other)

-- the one node of a group has begun a ballot, and promised it
abbrev begins : List Act
begins = NodeDoes 0 BeginBallot ∷ takes 0 (Prepare 0 1) ∷ []

abbrev stored : Kept
stored = record { round = 1; learned = []; acceptor = record { promised = Some 1; vote = None }; holding = [] }

-- It proposes the low cut, accepts it, and learns it.
abbrev is_not_stopped : List Act
is_not_stopped = takes 0 (Promise 0 0 1 None) ∷ takes 0 (Accept 0 1 low) ∷ takes 0 (Accepted 0 0 1 low) ∷ NodeDoes 0 (ExportPeriod 0) ∷ []

-- At the same time it goes on with what was stored then. That run gets a batch, begins the next ballot, does not know of the vote that
-- the other run gives, and so promises without one.
abbrev is_run_again : List Act
is_run_again =
    NodeGoesOn 0 stored ∷ journals_b ∷ takes 0 (CarriesBatch b) ∷ NodeDoes 0 BeginBallot ∷ takes 0 (Prepare 0 2) ∷ takes 0 (Promise 0 0 2 None)
    ∷ takes 0 (Accept 0 2 high) ∷ takes 0 (Accepted 0 0 2 high) ∷ NodeDoes 0 (ExportPeriod 0) ∷ []

a_node_that_is_run_twice_makes_two_files : GoesWrongTwice (group 1 0) begins is_not_stopped is_run_again
unfolding days_from_civil day_count days_of_years days_of_months worth_of decimals_of digits
a_node_that_is_run_twice_makes_two_files = record {
  rightly_before =
      (lit< tt, tt) ⨾
      (lit< tt, λ same. (0, lit< tt, refl)) ⨾ tt;
  rightly_one =
      (lit< tt, λ same. (1, lit< tt, refl)) ⨾
      (lit< tt, λ same. (2, lit< tt, refl)) ⨾
      (lit< tt, λ same. (3, lit< tt, refl)) ⨾
      (lit< tt, tt) ⨾ tt;
  rightly_other =
      (_, refl, refl) ⨾
      (lit≤ tt, lit≤ tt) ⨾
      (lit< tt, λ same. (2, lit< tt, refl)) ⨾
      (lit< tt, tt) ⨾
      (lit< tt, λ same. (3, lit< tt, refl)) ⨾
      (lit< tt, λ same. (4, lit< tt, refl)) ⨾
      (lit< tt, λ same. (5, lit< tt, refl)) ⨾
      (lit< tt, λ same. (6, lit< tt, refl)) ⨾
      (lit< tt, tt) ⨾ tt;
  files = low_and_high (3, lit< tt, refl) (8, lit< tt, refl);
}

-- ---- an agent

-- a group of which agent 1 has two processes
record Twice : Type 0 where
  -- all processes, with the first one of agent 1
  pub all : Processes
  -- what the second one has journaled
  pub journal : Holding

-- what a process of the group does, of agent 1 the first one; or what the second one of agent 1 does
data ActOfTwice : Type 0 where
  Does : Act → ActOfTwice
  SecondDoes : AgentCommand → ActOfTwice

record ActedTwice : Type 0 where
  pub answer : Answer
  pub after : Twice

-- the group in which the second process stands in place of the first
abbrev with_second : Twice → Processes
with_second s = record s.all { journals = λ agent. if agent == 1 then s.journal else s.all.journals agent }

-- The second process does what an agent does, from a journal of its own. What it sends is sent like any other packet.
abbrev acted_twice : Group → Twice → ActOfTwice → ActedTwice
acted_twice g s (Does a) = let x = acted g s.all a in record { answer = x.answer; after = record s { all = x.after } }
acted_twice g s (SecondDoes command) =
    let x = acted g (with_second s) (AgentDoes 1 command) in
    record { answer = x.answer; after = record { all = record x.after { journals = s.all.journals }; journal = x.after.journals 1 } }

abbrev MayActTwice : Group → Twice → ActOfTwice → Type 0
MayActTwice g s (Does a) = MayAct g s.all a
MayActTwice g s (SecondDoes command) = MayAct g (with_second s) (AgentDoes 1 command)

abbrev IsHistoryOfTwice : Group → Twice → List ActOfTwice → Type 0
IsHistoryOfTwice g s [] = Unit {0}
IsHistoryOfTwice g s (a ∷ acts) = MayActTwice g s a × IsHistoryOfTwice g (acted_twice g s a).after acts

abbrev answers_of_twice : Group → Twice → List ActOfTwice → List Answer
answers_of_twice g s [] = []
answers_of_twice g s (a ∷ acts) = (acted_twice g s a).answer ∷ answers_of_twice g (acted_twice g s a).after acts

-- both processes of the agent begin with nothing
abbrev begun_twice : Group → Twice
begun_twice g = record { all = begun g; journal = [] }

-- Where the second process does nothing it is a history: so no other premise is dropped.
without_the_second : (g : Group) (s : Twice) (acts : List Act) → IsHistoryOfTwice g s (map Does acts) → IsHistory g s.all acts
without_the_second g s [] history = tt
without_the_second g s (a ∷ acts) history = (history.0, without_the_second g (acted_twice g s (Does a)).after acts history.1)

-- Agent 1 is run twice, and goes wrong.
record GoesWrongWithSecond (g : Group) (acts : List ActOfTwice) : Type 0 where
  -- each act may be done where it stands, by its process, and those of agent 1 by one of its two
  pub rightly : IsHistoryOfTwice g (begun_twice g) acts
  -- two of the answers are exports of one period
  pub files : HaveTwoFiles (answers_of_twice g (begun_twice g) acts) (answers_of_twice g (begun_twice g) acts)

-- Each of the two journals its first batch. Node 0 gets the one, chooses the cut up to it, and exports; node 1 learns this cut, and has the other batch.
abbrev both_journal : List ActOfTwice
both_journal =
    Does journals_b ∷ SecondDoes (JournalBatch (Good other_text)) ∷ Does (takes 0 (CarriesBatch b)) ∷ Does (takes 1 (CarriesBatch c))
    ∷ Does (NodeDoes 0 BeginBallot) ∷ Does (takes 0 (Prepare 0 1)) ∷ Does (takes 0 (Promise 0 0 1 None)) ∷ Does (takes 0 (Accept 0 1 high))
    ∷ Does (takes 0 (Accepted 0 0 1 high)) ∷ Does (takes 1 (Accepted 0 0 1 high)) ∷ Does (NodeDoes 0 (ExportPeriod 0)) ∷ Does (NodeDoes 1 (ExportPeriod 0))
    ∷ []

an_agent_that_is_run_twice_makes_two_files : GoesWrongWithSecond (group 1 1) both_journal
unfolding days_from_civil day_count days_of_years days_of_months worth_of decimals_of digits
an_agent_that_is_run_twice_makes_two_files = record {
  rightly =
      (lit≤ tt, lit≤ tt) ⨾
      (lit≤ tt, lit≤ tt) ⨾
      (lit< tt, λ same. (0, lit< tt, refl)) ⨾
      (lit< tt, λ same. (1, lit< tt, refl)) ⨾
      (lit< tt, tt) ⨾
      (lit< tt, λ same. (2, lit< tt, refl)) ⨾
      (lit< tt, λ same. (3, lit< tt, refl)) ⨾
      (lit< tt, λ same. (4, lit< tt, refl)) ⨾
      (lit< tt, λ same. (5, lit< tt, refl)) ⨾
      (lit< tt, λ same. (5, lit< tt, refl)) ⨾
      (lit< tt, tt) ⨾
      (lit< tt, tt) ⨾ tt;
  files = record {
    one = up_to high (b ∷ []);
    other = up_to high (c ∷ []);
    has = (10, lit< tt, refl);
    had = (11, lit< tt, refl);
    same_period = refl;
    differ = rows_differ;
  };
}

-- ---- other numbers of nodes

-- Of three nodes of a group of one name, one sheet and one issuer the first was begun as if it were alone, and the others as two of three. It closes
-- the month by its own vote, and they by theirs. No packet goes from the one to the others.
record GoesWrongApart (g h : Group) (one other : List Act) : Type 0 where
  pub rightly_one : IsHistory g (begun g) one
  pub rightly_other : IsHistory h (begun h) other
  pub alike : h ≡ record g { voters = h.voters }
  pub files : HaveTwoFiles (answers g (begun g) one) (answers h (begun h) other)

other_numbers_of_nodes_make_two_files : GoesWrongApart (group 1 0) (group 3 0) (begins ++ is_not_stopped) chooses_high
unfolding days_from_civil day_count days_of_years days_of_months worth_of decimals_of digits
other_numbers_of_nodes_make_two_files = record {
  rightly_one =
      (lit< tt, tt) ⨾
      (lit< tt, λ same. (0, lit< tt, refl)) ⨾
      (lit< tt, λ same. (1, lit< tt, refl)) ⨾
      (lit< tt, λ same. (2, lit< tt, refl)) ⨾
      (lit< tt, λ same. (3, lit< tt, refl)) ⨾
      (lit< tt, tt) ⨾ tt;
  rightly_other =
      (lit≤ tt, lit≤ tt) ⨾
      (lit< tt, λ same. (0, lit< tt, refl)) ⨾
      (lit< tt, tt) ⨾
      (lit< tt, λ same. (1, lit< tt, refl)) ⨾
      (lit< tt, λ same. (1, lit< tt, refl)) ⨾
      (lit< tt, λ same. (2, lit< tt, refl)) ⨾
      (lit< tt, λ same. (3, lit< tt, refl)) ⨾
      (lit< tt, λ same. (4, lit< tt, refl)) ⨾
      (lit< tt, λ same. (4, lit< tt, refl)) ⨾
      (lit< tt, λ same. (5, lit< tt, refl)) ⨾
      (lit< tt, λ same. (6, lit< tt, refl)) ⨾
      (lit< tt, tt) ⨾ tt;
  alike = refl;
  files = low_and_high (5, lit< tt, refl) (11, lit< tt, refl);
}
