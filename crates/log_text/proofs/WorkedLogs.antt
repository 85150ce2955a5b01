-- Logs at work: the text of each increment, and what a log is read as.
use Rattle.std.specs.Prelude.{◌≡◌, ℕ, List, [], ◌∷◌, ◌++◌, Some, None, Result, Ok, Err, codes, refl}
use Rattle.std.specs.Fmt.{digits}
use Rattle.metering_model.specs.declared.Version.TheVariants.{B1}
use Rattle.metering_model.specs.Batch.{Batch}
use Rattle.metering_model.specs.Transcript.{line}
use Rattle.metering_model.specs.Ballot.{Vote, new_acceptor}
use Rattle.metering_model.specs.KeptText.{KeptAmong}
use Rattle.log_text.specs.LogText.{LogHead, NodeOf, AgentOf, Increment, BeginsRound, SetsBallots, Learns, Takes, BadHead, BadKept, BadIncrement, Torn, LogTextFault, ReadLog, head_text, increment_text, log_text, log_in, kept_after, nothing_kept}

-- node 2 of three voters, with an observer and two agents
abbrev a_head : LogHead
a_head = record { group = codes "prod-eu"; who = NodeOf 2; voters = 3; observers = 1; agents = 2 }

abbrev a_head_line : List ℕ
a_head_line = line (codes "G1|prod-eu|node|2|3|1|2")

a_head_text : head_text a_head ≡ a_head_line
unfolding digits
a_head_text = refl

abbrev a_vote : Vote
a_vote = record { ballot = 5; cut = 1 ∷ 0 ∷ [] }

abbrev steps : List Increment
steps =
    BeginsRound 1
    ∷ SetsBallots 0 (record { promised = Some 5; vote = None })
    ∷ SetsBallots 0 (record { promised = Some 5; vote = Some a_vote })
    ∷ Learns 0 (1 ∷ 0 ∷ [])
    ∷ []

abbrev steps_lines : List ℕ
steps_lines = line (codes "round|1") ++ line (codes "ballot|0|5|0") ++ line (codes "ballot|0|5|5|1|0") ++ line (codes "learned|0|1|0")

steps_text : log_text a_head None steps ≡ a_head_line ++ steps_lines
unfolding digits
steps_text = refl

-- a cut that is learned ends promise and vote
steps_read : log_in (a_head_line ++ steps_lines) ≡ Ok (record {
  head = a_head;
  kept = record { agents = 2; kept = record { round = 1; learned = (1 ∷ 0 ∷ []) ∷ []; acceptor = new_acceptor; holding = [] } };
})
unfolding log_in
steps_read = refl

-- from what was kept, and a round more
kept_read : log_in (a_head_line ++ line (codes "kept 2") ++ line (codes "K1|2|1|1|0|0|0") ++ line (codes "1|0") ++ line (codes "round|2")) ≡ Ok (record {
  head = a_head;
  kept = record { agents = 2; kept = record { round = 2; learned = (1 ∷ 0 ∷ []) ∷ []; acceptor = new_acceptor; holding = [] } };
})
unfolding log_in digits
kept_read = refl

abbrev a_batch : Batch
a_batch = record { version = B1; agent = 2; seq = 1; records = [] }

abbrev a_batch_lines : List ℕ
a_batch_lines = line (codes "batch 1") ++ line (codes "B1|2|1|0")

a_batch_written : increment_text (Takes a_batch) ≡ a_batch_lines
unfolding digits
a_batch_written = refl

a_batch_read : log_in (a_head_line ++ a_batch_lines) ≡ Ok (record { head = a_head; kept = kept_after (nothing_kept 2) (Takes a_batch ∷ []) })
unfolding log_in
a_batch_read = refl

-- a batch that was taken is not taken again
taken_twice : log_in (a_head_line ++ a_batch_lines ++ a_batch_lines) ≡ Err (record { code = BadIncrement; line = 4 })
unfolding log_in
taken_twice = refl

-- ---- refused, with the line

torn : log_in (a_head_line ++ line (codes "round|1") ++ codes "ballot|0|5|0") ≡ Err (record { code = Torn; line = 3 })
unfolding log_in
torn = refl

torn_in_a_batch : log_in (a_head_line ++ line (codes "batch 2") ++ line (codes "B1|2|1|1")) ≡ Err (record { code = Torn; line = 2 })
unfolding log_in
torn_in_a_batch = refl

of_no_such_node : log_in (line (codes "G1|prod-eu|node|4|3|1|2")) ≡ Err (record { code = BadHead; line = 1 })
unfolding log_in
of_no_such_node = refl

of_another_size : log_in (a_head_line ++ line (codes "kept 2") ++ line (codes "K1|3|1|1|0|0|0") ++ line (codes "1|0|0")) ≡ Err (record { code = BadKept; line = 2 })
unfolding log_in digits
of_another_size = refl

a_round_left_out : log_in (a_head_line ++ line (codes "round|2")) ≡ Err (record { code = BadIncrement; line = 2 })
unfolding log_in
a_round_left_out = refl

a_cut_of_three : log_in (a_head_line ++ line (codes "learned|0|1|0|0")) ≡ Err (record { code = BadIncrement; line = 2 })
unfolding log_in
a_cut_of_three = refl

of_an_agent : log_in (line (codes "G1|prod-eu|agent|2|3|0|2") ++ a_batch_lines) ≡ Ok (record {
  head = record { group = codes "prod-eu"; who = AgentOf 2; voters = 3; observers = 0; agents = 2 };
  kept = kept_after (nothing_kept 2) (Takes a_batch ∷ []);
})
unfolding log_in
of_an_agent = refl

-- ---- what may not come next

-- a log, and a line behind it
abbrev with_line : List ℕ → List ℕ → List ℕ
with_line lines last = a_head_line ++ lines ++ line last

abbrev refused_at : ℕ → Result ReadLog LogTextFault
refused_at n = Err (record { code = BadIncrement; line = n })

a_promise_lowered : log_in (with_line (line (codes "ballot|0|5|0")) (codes "ballot|0|3|0")) ≡ refused_at 3
unfolding log_in
a_promise_lowered = refl

a_promise_taken_back : log_in (with_line (line (codes "ballot|0|5|5|1|0")) (codes "ballot|0|0|0")) ≡ refused_at 3
unfolding log_in
a_promise_taken_back = refl

a_vote_taken_back : log_in (with_line (line (codes "ballot|0|5|5|1|0")) (codes "ballot|0|7|0")) ≡ refused_at 3
unfolding log_in
a_vote_taken_back = refl

a_vote_below_the_promise : log_in (with_line (line (codes "ballot|0|5|0")) (codes "ballot|0|5|4|1|0")) ≡ refused_at 3
unfolding log_in
a_vote_below_the_promise = refl

the_same_twice : log_in (with_line (line (codes "ballot|0|5|0")) (codes "ballot|0|5|0")) ≡ refused_at 3
unfolding log_in
the_same_twice = refl

a_vote_of_a_learned_period : log_in (with_line (line (codes "learned|0|1|0")) (codes "ballot|0|5|5|1|0")) ≡ refused_at 3
unfolding log_in
a_vote_of_a_learned_period = refl

learned_twice : log_in (with_line (line (codes "learned|0|1|0")) (codes "learned|0|1|0")) ≡ refused_at 3
unfolding log_in
learned_twice = refl

a_vote_without_a_cut : log_in (with_line [] (codes "ballot|0|5|5")) ≡ refused_at 2
unfolding log_in
a_vote_without_a_cut = refl

a_cut_without_a_vote : log_in (with_line [] (codes "ballot|0|5|0|1|0")) ≡ refused_at 2
unfolding log_in
a_cut_without_a_vote = refl

a_zero_in_front : log_in (with_line [] (codes "round|01")) ≡ refused_at 2
unfolding log_in
a_zero_in_front = refl

an_agent_too_many : log_in (with_line (line (codes "batch 1")) (codes "B1|3|1|0")) ≡ refused_at 2
unfolding log_in
an_agent_too_many = refl

-- two lines are said, and the batch has one
lines_of_something_else : log_in (with_line (line (codes "batch 2") ++ line (codes "B1|2|1|0")) (codes "round|1")) ≡ refused_at 2
unfolding log_in
lines_of_something_else = refl

-- what was kept stands above, so lines are counted behind it
behind_what_was_kept : log_in (with_line (line (codes "kept 2") ++ line (codes "K1|2|1|1|0|0|0") ++ line (codes "1|0")) (codes "round|3")) ≡ refused_at 5
unfolding log_in digits
behind_what_was_kept = refl

kept_below_an_increment : log_in (with_line (line (codes "round|1")) (codes "kept 1")) ≡ refused_at 3
unfolding log_in
kept_below_an_increment = refl

lines_of_what_was_kept_too_few : log_in (with_line (line (codes "kept 1") ++ line (codes "K1|2|1|1|0|0|0")) (codes "1|0")) ≡ Err (record { code = BadKept; line = 2 })
unfolding log_in digits
lines_of_what_was_kept_too_few = refl

torn_in_what_was_kept : log_in (with_line (line (codes "kept 2")) (codes "K1|2|1|1|0|0|0")) ≡ Err (record { code = Torn; line = 2 })
unfolding log_in digits
torn_in_what_was_kept = refl

nothing_there : log_in [] ≡ Err (record { code = BadHead; line = 1 })
unfolding log_in
nothing_there = refl

-- ---- a log that begins with what was kept, with a vote and a batch

abbrev kept_before : KeptAmong
kept_before = record { agents = 2; kept = record { round = 1; learned = []; acceptor = record { promised = Some 5; vote = Some a_vote }; holding = a_batch ∷ [] } }

written_with_what_was_kept :
    log_text a_head (Some kept_before) (Learns 0 (1 ∷ 0 ∷ []) ∷ [])
    ≡ a_head_line ++ line (codes "kept 3") ++ line (codes "K1|2|1|0|5|5|1") ++ line (codes "1|0") ++ line (codes "B1|2|1|0") ++ line (codes "learned|0|1|0")
unfolding digits
written_with_what_was_kept = refl
