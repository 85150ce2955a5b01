-- A text is read as what a node keeps exactly where it is that one's text.
use Rattle.std.proofs.Common.{◌≡◌, ℕ, zero, suc, ◌+◌, ◌*◌, ◌≤◌, ◌<◌, Bool, true, not, ◌&&◌, ◌^◌, get_or, decimal, codes, List, [], ◌∷◌, ◌++◌, length, map, take, drop, flat_map, All, Option, Some, None, Ok, refl, sym, ap, ap₂, ◌∙◌, subst, arith, inl, inr, append-nil, append_assoc, length-append}
use Rattle.std.specs.Prelude.{◌==◌, nat_lt}
use Rattle.std.specs.List.{list_all}
use Rattle.std.proofs.Math.Seq.{take-append_seam, drop-append_seam}
use Rattle.std.proofs.lemmas.Bool.{and_parts, and_from, or_cases, eqb-true, ltb-true, false≢true}
use Rattle.std.proofs.lemmas.List.{take-append-drop}
use Rattle.std.proofs.lemmas.List.Concat.{flat_map-append}
use Rattle.std.proofs.lemmas.List.Folds.{flat_map-map}
use Rattle.std.proofs.lemmas.List.Elements.{All-nil, All-cons, All-head, All-tail, All-append}
use Rattle.std.proofs.lemmas.Option.{same_Some, none-some}
use Rattle.metering_model.specs.FirstFailure.{holds_or}
use Rattle.metering_model.specs.Batch.{Batch, IsWellFormed, batch_text, lacks, is_empty}
use Rattle.metering_model.specs.BatchReading.{Lines, lines_in, fields_in}
use Rattle.metering_model.specs.Cut.{Cut}
use Rattle.metering_model.specs.Holding.{Holding, IsHolding, comes_before, is_in_order}
use Rattle.metering_model.specs.Ballot.{Vote}
use Rattle.metering_model.specs.World.{KeptTextFault}
use Rattle.metering_model.specs.KeptText.{HasExtra, KeptAmong, KeptHead, IsCutAmong, IsBallotNumber, HasText, IsKeptText, BatchesRead}
use Rattle.metering_model.specs.KeptText.{promised_number, vote_number, vote_cuts, cut_text, kept_text, at_kept_line, kept_head_in, cuts_in}
use Rattle.metering_model.specs.KeptText.{text_of_lines, batches_in, ballot_numbered, cuts_of_vote, vote_of, kept_of_parts, kept_below}
use Rattle.metering_model.specs.KeptText.{kept_of_lines, kept_in}
use Rattle.metering_model.proofs.StepLaws.{step_ok, step_iff, ok_same, ok_step_from}
use Rattle.metering_model.proofs.Splitting.{ended, parts_at, cut_join, join_passes, lines_give_back, lines_of_text}
use Rattle.metering_model.proofs.Decimals.{decimal_is_one, decimal_lacks_feed, decimal_lacks_bar}
use Rattle.metering_model.proofs.FirstByte.{before, before_join}
use Rattle.metering_model.proofs.LineLaws.{HeadLimits, head_lacks_feed, records_lack_feed}
use Rattle.metering_model.proofs.BatchLaws.{head_of, batch_lines, lines_are_text}
use Rattle.metering_model.proofs.KeptLines.{at_kept_line_ok, held_true, kept_head_line, KeptHeadLimits, kept_head_line_fields, kept_head_read, kept_head_written, cut_line, cuts_lack_feed, cuts_read, cuts_written, AreBatches, batches_read, lines_of_batches, batches_written}

-- ---- lists

take_size : {A : Type 0} (n m : ℕ) (xs : List A) → length xs ≡ n + m → length (take n xs) ≡ n
take_size zero m xs e = refl
take_size (suc n) m [] e = absurd (omega (arith, e))
take_size (suc n) m (x ∷ xs) e = ap suc (take_size n m xs (omega (arith, e)))

drop_size : {A : Type 0} (n m : ℕ) (xs : List A) → length xs ≡ n + m → length (drop n xs) ≡ m
drop_size zero m xs e = omega (arith, e)
drop_size (suc n) m [] e = absurd (omega (arith, e))
drop_size (suc n) m (x ∷ xs) e = drop_size n m xs (omega (arith, e))

all_front : {A : Type 0} (P : A → Type 0) (n : ℕ) (xs : List A) → All P xs → All P (take n xs)
all_front P zero xs h = All-nil P
all_front P (suc n) [] h = All-nil P
all_front P (suc n) (x ∷ xs) h = All-cons P x (take n xs) (All-head P x xs h) (all_front P n xs (All-tail P x xs h))

all_back : {A : Type 0} (P : A → Type 0) (n : ℕ) (xs : List A) → All P xs → All P (drop n xs)
all_back P zero xs h = h
all_back P (suc n) [] h = All-nil P
all_back P (suc n) (x ∷ xs) h = all_back P n xs (All-tail P x xs h)

both_pass : {A : Type 0} (p : A → Bool) (xs ys : List A) → list_all p xs ≡ true → list_all p ys ≡ true → list_all p (xs ++ ys) ≡ true
both_pass p [] ys h k = k
both_pass p (x ∷ xs) ys h k = let parts = and_parts (p x) (list_all p xs) h in and_from _ _ parts.0 (both_pass p xs ys parts.1 k)

nothing_left : {A : Type 0} (xs : List A) → is_empty xs ≡ true → xs ≡ []
nothing_left [] h = refl
nothing_left (x ∷ xs) h = absurd (false≢true h)

-- ---- the lines of a text

abbrev pub head_of_kept : KeptAmong → KeptHead
head_of_kept k = record {
  agents = k.agents;
  round = k.kept.round;
  learned = length k.kept.learned;
  promised = promised_number k.kept.acceptor.promised;
  ballot = vote_number k.kept.acceptor.vote;
  batches = length k.kept.holding;
}

abbrev cuts_of : KeptAmong → List Cut
cuts_of k = k.kept.learned ++ vote_cuts k.kept.acceptor.vote

abbrev pub kept_lines : KeptAmong → List (List ℕ)
kept_lines k = kept_head_line (head_of_kept k) ∷ map cut_line (cuts_of k) ++ lines_of_batches k.kept.holding

batch_lines_are_text : (h : Holding) → text_of_lines (lines_of_batches h) ≡ flat_map batch_text h
batch_lines_are_text [] = refl
batch_lines_are_text (b ∷ h) = flat_map-append ended (batch_lines b) (lines_of_batches h) ∙ ap₂ ◌++◌ (lines_are_text b) (batch_lines_are_text h)

cut_lines_are_text : (cuts : List Cut) (left : List (List ℕ)) → text_of_lines (map cut_line cuts ++ left) ≡ flat_map cut_text cuts ++ text_of_lines left
cut_lines_are_text cuts left = flat_map-append ended (map cut_line cuts) left ∙ ap (λ t. t ++ text_of_lines left) (flat_map-map ended cut_line cuts)

pub kept_lines_are_text : (k : KeptAmong) → text_of_lines (kept_lines k) ≡ kept_text k
kept_lines_are_text k =
    ap (λ t. ended (kept_head_line (head_of_kept k)) ++ t)
    (cut_lines_are_text (cuts_of k) (lines_of_batches k.kept.holding) ∙ ap (λ t. flat_map cut_text (cuts_of k) ++ t) (batch_lines_are_text k.kept.holding))
    ∙ sym (append_assoc (ended (kept_head_line (head_of_kept k))) (flat_map cut_text (cuts_of k)) (flat_map batch_text k.kept.holding))

-- ---- from reading

promised_back : (n : ℕ) → promised_number (ballot_numbered n) ≡ n
promised_back zero = refl
promised_back (suc n) = refl

promised_in : (n ballot : ℕ) → n ≤ 990_098 → ballot_numbered n ≡ Some ballot → IsBallotNumber ballot
promised_in zero ballot low e = absurd (none-some ballot e)
promised_in (suc n) ballot low e = subst IsBallotNumber (same_Some (suc n) ballot e) (omega arith, low)

vote_back : (b : ℕ) (cuts : List Cut) → length cuts ≡ cuts_of_vote b → (vote_number (vote_of b cuts) ≡ b) × (vote_cuts (vote_of b cuts) ≡ cuts)
vote_back zero [] e = (refl, refl)
vote_back zero (c ∷ cuts) e = absurd (omega (arith, e))
vote_back (suc b) [] e = absurd (omega (arith, e))
vote_back (suc b) (c ∷ []) e = (refl, refl)
vote_back (suc b) (c ∷ d ∷ cuts) e = absurd (omega (arith, e))

abbrev IsVoteAmong : ℕ → Vote → Type 0
IsVoteAmong agents v = IsBallotNumber v.ballot × IsCutAmong agents v.cut

vote_in : (agents b : ℕ) (cuts : List Cut) (v : Vote) → b ≤ 990_098 → All (IsCutAmong agents) cuts → vote_of b cuts ≡ Some v → IsVoteAmong agents v
vote_in agents zero cuts v low all e = absurd (none-some v e)
vote_in agents (suc b) [] v low all e = absurd (none-some v e)
vote_in agents (suc b) (c ∷ cuts) v low all e =
    subst (IsVoteAmong agents) (same_Some (record { ballot = suc b; cut = c }) v e) ((omega arith, low), All-head (IsCutAmong agents) c cuts all)

-- the lines are those of the text, and nothing stands behind them
abbrev AreKeptLines : List (List ℕ) → List ℕ → KeptAmong → Type 0
AreKeptLines ls rest k = (text_of_lines ls ≡ kept_text k) × (rest ≡ []) × HasText k

-- what each step behind the head line answered
below_apart : (ls : List (List ℕ)) (rest : List ℕ) (h : KeptHead) (k : KeptAmong) → kept_below ls rest h ≡ Ok k →
    (cuts : List Cut × List (List ℕ)) × (read : BatchesRead) × (kept_of_parts h cuts.0 read.batches ≡ k) × (cuts_in 2 h.agents (h.learned + cuts_of_vote h.ballot) ls ≡ Ok cuts)
    × (batches_in (2 + h.learned + cuts_of_vote h.ballot) h.agents None h.batches cuts.1 ≡ Ok read) × ((is_empty read.left && is_empty rest) ≡ true)
below_apart ls rest h k e =
    let a = simp step_iff at e in
    let r = a.2 in
    let t = r.2 in
    let test = is_empty r.0.left && is_empty rest in
    (a.0, r.0, ok_same (kept_of_parts h a.0.0 r.0.batches) k t.2, a.1, r.1, held_true test HasExtra t.0 (at_kept_line_ok r.0.line (holds_or test HasExtra) t.0 t.1))

lines_kept : (ls : List (List ℕ)) (rest : List ℕ) (k : KeptAmong) → kept_of_lines ls rest ≡ Ok k → AreKeptLines ls rest k
lines_kept [] rest k e = absurd (cc)
lines_kept (l ∷ ls) rest k e = subst (AreKeptLines (l ∷ ls) rest) a.2 (text, nothing_left rest tests.1, has)
  where
    first : (h : KeptHead) × (at_kept_line 1 (kept_head_in (fields_in l)) ≡ Ok h) × (kept_below ls rest h ≡ Ok k)
    first = step_ok (at_kept_line 1 (kept_head_in (fields_in l))) (kept_below ls rest) k e

    h : KeptHead
    h = first.0

    head : (l ≡ kept_head_line h) × KeptHeadLimits h
    head = kept_head_read l h (at_kept_line_ok 1 (kept_head_in (fields_in l)) h first.1)

    a : (cuts : List Cut × List (List ℕ)) × (read : BatchesRead) × (kept_of_parts h cuts.0 read.batches ≡ k) × (cuts_in 2 h.agents (h.learned + cuts_of_vote h.ballot) ls ≡ Ok cuts)
        × (batches_in (2 + h.learned + cuts_of_vote h.ballot) h.agents None h.batches cuts.1 ≡ Ok read) × ((is_empty read.left && is_empty rest) ≡ true)
    a = below_apart ls rest h k first.2

    cuts : List Cut
    cuts = a.0.0

    read : BatchesRead
    read = a.1

    tests : (is_empty read.left ≡ true) × (is_empty rest ≡ true)
    tests = and_parts (is_empty read.left) (is_empty rest) a.5

    were : (ls ≡ map cut_line cuts ++ a.0.1) × (length cuts ≡ h.learned + cuts_of_vote h.ballot) × All (IsCutAmong h.agents) cuts
    were = cuts_read 2 h.agents (h.learned + cuts_of_vote h.ballot) ls a.0 a.3

    batches : AreBatches h.agents None h.batches a.0.1 read
    batches = batches_read (2 + h.learned + cuts_of_vote h.ballot) h.agents None h.batches a.0.1 read a.4

    given : KeptAmong
    given = kept_of_parts h cuts read.batches

    vote : (vote_number (vote_of h.ballot (drop h.learned cuts)) ≡ h.ballot) × (vote_cuts (vote_of h.ballot (drop h.learned cuts)) ≡ drop h.learned cuts)
    vote = vote_back h.ballot (drop h.learned cuts) (drop_size h.learned (cuts_of_vote h.ballot) cuts were.1)

    learned : length (take h.learned cuts) ≡ h.learned
    learned = take_size h.learned (cuts_of_vote h.ballot) cuts were.1

    abbrev_head : ℕ → ℕ → ℕ → ℕ → KeptHead
    abbrev_head l p b n = record { agents = h.agents; round = h.round; learned = l; promised = p; ballot = b; batches = n }

    same_head : head_of_kept given ≡ h
    same_head =
        ap (λ n. abbrev_head n (promised_number (ballot_numbered h.promised)) (vote_number (vote_of h.ballot (drop h.learned cuts))) (length read.batches)) learned
        ∙ ap (λ n. abbrev_head h.learned n (vote_number (vote_of h.ballot (drop h.learned cuts))) (length read.batches)) (promised_back h.promised)
        ∙ ap (λ n. abbrev_head h.learned h.promised n (length read.batches)) vote.0
        ∙ ap (λ n. abbrev_head h.learned h.promised h.ballot n) batches.size

    same_cuts : cuts_of given ≡ cuts
    same_cuts = ap (λ cs. take h.learned cuts ++ cs) vote.1 ∙ take-append-drop h.learned cuts

    behind : text_of_lines ls ≡ flat_map cut_text (cuts_of given) ++ flat_map batch_text read.batches
    behind =
        ap text_of_lines were.0
        ∙ cut_lines_are_text cuts a.0.1
        ∙ ap₂ (λ cs t. flat_map cut_text cs ++ t) (sym same_cuts) (batches.text ∙ ap (λ ls. flat_map batch_text read.batches ++ text_of_lines ls) (nothing_left read.left tests.0) ∙ append-nil (flat_map batch_text read.batches))

    text : text_of_lines (l ∷ ls) ≡ kept_text given
    text =
        ap₂ (λ first more. ended first ++ more) (head.0 ∙ ap kept_head_line (sym same_head)) behind
        ∙ sym (append_assoc (ended (kept_head_line (head_of_kept given))) (flat_map cut_text (cuts_of given)) (flat_map batch_text read.batches))

    has : HasText given
    has = record {
      agents = head.1.agents;
      round = head.1.round;
      periods = let low = head.1.learned in omega (arith, learned, low);
      learned = all_front (IsCutAmong h.agents) h.learned cuts were.2;
      promised = λ ballot is. promised_in h.promised ballot head.1.promised is;
      vote = λ v is. vote_in h.agents h.ballot (drop h.learned cuts) v head.1.ballot (all_back (IsCutAmong h.agents) h.learned cuts were.2) is;
      is_holding = record { in_order = batches.order; batches = batches.well };
      in_range = batches.in_range;
    }

-- a text that is read is that of what it is read as
pub kept_read : (text : List ℕ) (k : KeptAmong) → kept_in text ≡ Ok k → IsKeptText text k
kept_read text k e =
    let ls = lines_in text in
    let p = lines_kept ls.lines ls.rest k e in
    record {
      joined = sym (lines_give_back text) ∙ ap (λ rest. flat_map ended ls.lines ++ rest) p.1 ∙ append-nil (flat_map ended ls.lines) ∙ p.0;
      has = p.2;
    }

-- ---- few batches

-- each agent up to 64 has a million places
abbrev place : Batch → ℕ
place b = 1_000_000 * b.agent + b.seq

rises : (b c : Batch) → b.seq ≤ 1_000_000 → 1 ≤ c.seq → comes_before b c ≡ true → place b < place c
rises b c low some e = elim (or_cases (nat_lt b.agent c.agent) ((b.agent == c.agent) && nat_lt b.seq c.seq) e) [
  | inl less ↦ let below = ltb-true b.agent c.agent less in omega (arith, below, low, some)
  | inr same ↦
      let parts = and_parts (b.agent == c.agent) (nat_lt b.seq c.seq) same in
      let agent = eqb-true b.agent c.agent parts.0 in
      let below = ltb-true b.seq c.seq parts.1 in
      omega (arith, agent, below)
]

few_behind : (b : Batch) (h : Holding) → is_in_order (b ∷ h) ≡ true → All IsWellFormed (b ∷ h) → All (λ b. b.agent ≤ 64) (b ∷ h) → place b + length h ≤ 65_000_000
few_behind b [] order well low =
    let seq = (All-head IsWellFormed b [] well).seq.1 in
    let agent = All-head (λ b. b.agent ≤ 64) b [] low in
    omega (arith, seq, agent)
few_behind b (c ∷ h) order well low =
    let parts = and_parts (comes_before b c) (is_in_order (c ∷ h)) order in
    let others = All-tail IsWellFormed b (c ∷ h) well in
    let up = rises b c (All-head IsWellFormed b (c ∷ h) well).seq.1 (All-head IsWellFormed c h others).seq.0 parts.0 in
    let rest = few_behind c h parts.1 others (All-tail (λ b. b.agent ≤ 64) b (c ∷ h) low) in
    omega (arith, up, rest)

pub few_batches : (h : Holding) → IsHolding h → All (λ b. b.agent ≤ 64) h → length h ≤ 64_000_000
few_batches [] is low = omega arith
few_batches (b ∷ h) is low =
    let most = few_behind b h is.in_order is.batches low in
    let well = All-head IsWellFormed b h is.batches in
    let agent = well.agent.0 in
    let seq = well.seq.0 in
    omega (arith, most, agent, seq)

-- ---- to reading

all_lower : (agents : ℕ) (h : Holding) → agents ≤ 64 → All (λ b. b.agent ≤ agents) h → All (λ b. b.agent ≤ 64) h
all_lower agents [] most low = All-nil (λ b. b.agent ≤ 64)
all_lower agents (b ∷ h) most low =
    let one = All-head (λ b. b.agent ≤ agents) b h low in
    All-cons (λ b. b.agent ≤ 64) b h (omega (arith, one, most)) (all_lower agents h most (All-tail (λ b. b.agent ≤ agents) b h low))

promised_low : (o : Option ℕ) → ((ballot : ℕ) → o ≡ Some ballot → IsBallotNumber ballot) → promised_number o ≤ 990_098
promised_low None h = omega arith
promised_low (Some b) h = (h b refl).1

vote_low : (agents : ℕ) (o : Option Vote) → ((v : Vote) → o ≡ Some v → IsVoteAmong agents v) → vote_number o ≤ 990_098
vote_low agents None h = omega arith
vote_low agents (Some v) h = (h v refl).0.1

pub head_limits : (k : KeptAmong) → HasText k → KeptHeadLimits (head_of_kept k)
head_limits k h = record {
  agents = h.agents;
  round = h.round;
  learned = h.periods;
  promised = promised_low k.kept.acceptor.promised h.promised;
  ballot = vote_low k.agents k.kept.acceptor.vote h.vote;
  batches = few_batches k.kept.holding h.is_holding (all_lower k.agents k.kept.holding h.agents.1 h.in_range);
}

vote_cuts_among : (agents : ℕ) (o : Option Vote) → ((v : Vote) → o ≡ Some v → IsVoteAmong agents v) → All (IsCutAmong agents) (vote_cuts o)
vote_cuts_among agents None h = All-nil (IsCutAmong agents)
vote_cuts_among agents (Some v) h = All-cons (IsCutAmong agents) v.cut [] (h v refl).1 (All-nil (IsCutAmong agents))

cuts_among : (k : KeptAmong) → HasText k → All (IsCutAmong k.agents) (cuts_of k)
cuts_among k h = All-append (IsCutAmong k.agents) k.kept.learned (vote_cuts k.kept.acceptor.vote) h.learned (vote_cuts_among k.agents k.kept.acceptor.vote h.vote)

batches_lack_feed : (h : Holding) → All IsWellFormed h → list_all (lacks 10) (lines_of_batches h) ≡ true
batches_lack_feed [] well = refl
batches_lack_feed (b ∷ h) well =
    let one = All-head IsWellFormed b h well in
    let limits : HeadLimits (head_of b) = record { agent = one.agent; seq = one.seq; count = one.count } in
    both_pass (lacks 10) (batch_lines b) (lines_of_batches h) (and_from _ _ (head_lacks_feed (head_of b) limits) (records_lack_feed b.records one.records)) (batches_lack_feed h (All-tail IsWellFormed b h well))

-- What every node of a group keeps, however many voters and agents there are: no ballot is 0, and cuts and batches are of the
-- group's agents.
pub record IsWritable (k : KeptAmong) : Type 0 where
  pub learned : All (IsCutAmong k.agents) k.kept.learned
  pub promised : (ballot : ℕ) → k.kept.acceptor.promised ≡ Some ballot → 1 ≤ ballot
  pub vote : (v : Vote) → k.kept.acceptor.vote ≡ Some v → (1 ≤ v.ballot) × IsCutAmong k.agents v.cut
  pub is_holding : IsHolding k.kept.holding
  pub in_range : All (λ b. b.agent ≤ k.agents) k.kept.holding

pub writable_of : (k : KeptAmong) → HasText k → IsWritable k
writable_of k h = record {
  learned = h.learned;
  promised = λ ballot e. (h.promised ballot e).0;
  vote = λ v e. let one = h.vote v e in (one.0.0, one.1);
  is_holding = h.is_holding;
  in_range = h.in_range;
}

-- the head line, of whatever numbers
any_fields_lack : (c : ℕ) (x : KeptHead) → lacks c (codes "K1") ≡ true → ((n : ℕ) → lacks c (decimal n) ≡ true) → list_all (lacks c) (kept_head_line_fields x) ≡ true
any_fields_lack c x word numbers =
    and_from _ _ word (and_from _ _ (numbers x.agents) (and_from _ _ (numbers x.round) (and_from _ _ (numbers x.learned) (and_from _ _ (numbers x.promised) (and_from _ _ (numbers x.ballot) (and_from _ _ (numbers x.batches) refl))))))

any_head_lacks_feed : (x : KeptHead) → lacks 10 (kept_head_line x) ≡ true
any_head_lacks_feed x = join_passes (λ c. not (c == 10)) 124 (kept_head_line_fields x) refl (any_fields_lack 10 x refl decimal_lacks_feed)

any_head_fields : (x : KeptHead) → parts_at 124 (kept_head_line x) ≡ kept_head_line_fields x
any_head_fields x = cut_join 124 (codes "K1") (decimal x.agents ∷ decimal x.round ∷ decimal x.learned ∷ decimal x.promised ∷ decimal x.ballot ∷ decimal x.batches ∷ []) (any_fields_lack 124 x refl decimal_lacks_bar)

writable_cuts : (k : KeptAmong) → IsWritable k → All (IsCutAmong k.agents) (cuts_of k)
writable_cuts k h = All-append (IsCutAmong k.agents) k.kept.learned (vote_cuts k.kept.acceptor.vote) h.learned (of_vote k.kept.acceptor.vote h.vote)
  where
    of_vote : (o : Option Vote) → ((v : Vote) → o ≡ Some v → (1 ≤ v.ballot) × IsCutAmong k.agents v.cut) → All (IsCutAmong k.agents) (vote_cuts o)
    of_vote None f = All-nil (IsCutAmong k.agents)
    of_vote (Some v) f = All-cons (IsCutAmong k.agents) v.cut [] (f v refl).1 (All-nil (IsCutAmong k.agents))

pub kept_lines_lack_feed : (k : KeptAmong) → IsWritable k → list_all (lacks 10) (kept_lines k) ≡ true
kept_lines_lack_feed k h =
    and_from _ _ (any_head_lacks_feed (head_of_kept k))
    (both_pass (lacks 10) (map cut_line (cuts_of k)) (lines_of_batches k.kept.holding) (cuts_lack_feed k.agents (cuts_of k) (writable_cuts k h)) (batches_lack_feed k.kept.holding h.is_holding.batches))

-- its lines are read from its text, and nothing behind them
pub lines_of_kept_text : (k : KeptAmong) → IsWritable k → lines_in (kept_text k) ≡ record { lines = kept_lines k; rest = [] }
lines_of_kept_text k h = ap lines_in (sym (kept_lines_are_text k)) ∙ lines_of_text (kept_lines k) (kept_lines_lack_feed k h)

promised_again : (o : Option ℕ) → ((ballot : ℕ) → o ≡ Some ballot → IsBallotNumber ballot) → ballot_numbered (promised_number o) ≡ o
promised_again None h = refl
promised_again (Some zero) h = let some = (h 0 refl).0 in absurd (omega (arith, some))
promised_again (Some (suc b)) h = refl

-- a vote comes back from its ballot and its cut
vote_again : (agents : ℕ) (o : Option Vote) → ((v : Vote) → o ≡ Some v → IsVoteAmong agents v) → (vote_of (vote_number o) (vote_cuts o) ≡ o) × (length (vote_cuts o) ≡ cuts_of_vote (vote_number o))
vote_again agents None h = (refl, refl)
vote_again agents (Some v) h = by_ballot v.ballot refl
  where
    by_ballot : (b : ℕ) → v.ballot ≡ b → (vote_of v.ballot (v.cut ∷ []) ≡ Some v) × (1 ≡ cuts_of_vote v.ballot)
    by_ballot zero e = let some = (h v refl).0.0 in absurd (omega (arith, e, some))
    by_ballot (suc b) e = (ap (λ n. vote_of n (v.cut ∷ [])) e ∙ ap (λ n. Some (record { ballot = n; cut = v.cut })) (sym e), ap cuts_of_vote (sym e))

pub kept_written : (k : KeptAmong) → HasText k → kept_in (kept_text k) ≡ Ok k
kept_written k h = ap (λ (ls : Lines). kept_of_lines ls.lines ls.rest) (lines_of_kept_text k (writable_of k h)) ∙ ok_step_from (at_kept_line 1 (kept_head_in (fields_in (kept_head_line head)))) (kept_below below []) head (Ok k) (ap (at_kept_line 1) (kept_head_written head (head_limits k h))) read
  where
    head : KeptHead
    head = head_of_kept k

    batches : List (List ℕ)
    batches = lines_of_batches k.kept.holding

    below : List (List ℕ)
    below = map cut_line (cuts_of k) ++ batches

    vote : (vote_of (vote_number k.kept.acceptor.vote) (vote_cuts k.kept.acceptor.vote) ≡ k.kept.acceptor.vote) × (length (vote_cuts k.kept.acceptor.vote) ≡ cuts_of_vote (vote_number k.kept.acceptor.vote))
    vote = vote_again k.agents k.kept.acceptor.vote h.vote

    count : length (cuts_of k) ≡ head.learned + cuts_of_vote head.ballot
    count = length-append k.kept.learned (vote_cuts k.kept.acceptor.vote) ∙ ap (λ n. length k.kept.learned + n) vote.1

    cuts : cuts_in 2 head.agents (head.learned + cuts_of_vote head.ballot) below ≡ Ok (cuts_of k, batches)
    cuts = ap (λ n. cuts_in 2 head.agents n below) (sym count) ∙ cuts_written 2 k.agents (cuts_of k) batches h.agents.0 (cuts_among k h)

    line : ℕ
    line = 2 + head.learned + cuts_of_vote head.ballot

    given : (last : ℕ) × (batches_in line head.agents None head.batches batches ≡ Ok (record { batches = k.kept.holding; line = last; left = [] }))
    given =
        let all = batches_written line k.agents None k.kept.holding [] h.is_holding.in_order h.is_holding.batches h.in_range in
        (all.0, ap (λ ls. batches_in line head.agents None head.batches ls) (sym (append-nil batches)) ∙ all.1)

    with_parts : List Cut → Option ℕ → Option Vote → KeptAmong
    with_parts learned promised vote = record { agents = k.agents; kept = record { round = k.kept.round; learned = learned; acceptor = record { promised = promised; vote = vote }; holding = k.kept.holding } }

    whole : kept_of_parts head (cuts_of k) k.kept.holding ≡ k
    whole =
        ap (λ cuts. with_parts cuts (ballot_numbered head.promised) (vote_of head.ballot (drop head.learned (cuts_of k)))) (take-append_seam k.kept.learned (vote_cuts k.kept.acceptor.vote))
        ∙ ap (λ p. with_parts k.kept.learned p (vote_of head.ballot (drop head.learned (cuts_of k)))) (promised_again k.kept.acceptor.promised h.promised)
        ∙ ap (λ cuts. with_parts k.kept.learned k.kept.acceptor.promised (vote_of head.ballot cuts)) (drop-append_seam k.kept.learned (vote_cuts k.kept.acceptor.vote))
        ∙ ap (λ v. with_parts k.kept.learned k.kept.acceptor.promised v) vote.0

    read : kept_below below [] head ≡ Ok k
    read = simp step_iff ((cuts_of k, batches), cuts, (record { batches = k.kept.holding; line = given.0; left = [] }, given.1, (tt, refl, ap Ok whole)))

-- the text of what a node keeps is read as it, and no other text is
pub kept_text_read : (text : List ℕ) (k : KeptAmong) → IsKeptText text k → kept_in text ≡ Ok k
kept_text_read text k is = ap kept_in is.joined ∙ kept_written k is.has

-- ---- texts tell apart what is kept

-- a text begins with its head line, and a line feed behind it
head_of_text : (k : KeptAmong) → before 10 (kept_text k) ≡ kept_head_line (head_of_kept k)
head_of_text k =
    let line = kept_head_line (head_of_kept k) in
    let cuts = flat_map cut_text (cuts_of k) in
    let batches = flat_map batch_text k.kept.holding in
    ap (before 10) (append_assoc (ended line) cuts batches ∙ append_assoc line (10 ∷ []) (cuts ++ batches))
    ∙ before_join 10 line (cuts ++ batches) (any_head_lacks_feed (head_of_kept k))

-- the second head has the numbers of the first
record IsSameHead (h g : KeptHead) : Type 0 where
  pub agents : g.agents ≡ h.agents
  pub round : g.round ≡ h.round
  pub learned : g.learned ≡ h.learned
  pub promised : g.promised ≡ h.promised
  pub ballot : g.ballot ≡ h.ballot

same_head : (k l : KeptAmong) → HasText k → kept_text k ≡ kept_text l → IsSameHead (head_of_kept k) (head_of_kept l)
same_head k l has e = record {
  agents = one (head_of_kept l).agents (head_of_kept k).agents (let most = limits.agents.1 in omega (arith, most)) (ap (λ fs. get_or fs 1 []) fields);
  round = one (head_of_kept l).round (head_of_kept k).round (let most = limits.round in omega (arith, most)) (ap (λ fs. get_or fs 2 []) fields);
  learned = one (head_of_kept l).learned (head_of_kept k).learned (let most = limits.learned in omega (arith, most)) (ap (λ fs. get_or fs 3 []) fields);
  promised = one (head_of_kept l).promised (head_of_kept k).promised (let most = limits.promised in omega (arith, most)) (ap (λ fs. get_or fs 4 []) fields);
  ballot = one (head_of_kept l).ballot (head_of_kept k).ballot (let most = limits.ballot in omega (arith, most)) (ap (λ fs. get_or fs 5 []) fields);
}
  where
    limits : KeptHeadLimits (head_of_kept k)
    limits = head_limits k has

    fields : kept_head_line_fields (head_of_kept k) ≡ kept_head_line_fields (head_of_kept l)
    fields =
        sym (any_head_fields (head_of_kept k)) ∙ ap (parts_at 124) (sym (head_of_text k) ∙ ap (before 10) e ∙ head_of_text l) ∙ any_head_fields (head_of_kept l)

    one : (m n : ℕ) → n < 10 ^ 63 → decimal n ≡ decimal m → m ≡ n
    one m n small same = decimal_is_one m n small (sym same)

-- what is written as something within the limits is that
pub read_back : (k l : KeptAmong) → HasText k → IsWritable l → kept_text k ≡ kept_text l → k ≡ l
read_back k l has writable e = ok_same {E = KeptTextFault} k l (sym (kept_written k has) ∙ (ap kept_in e ∙ kept_written l within))
  where
    same : IsSameHead (head_of_kept k) (head_of_kept l)
    same = same_head k l has e

    limits : KeptHeadLimits (head_of_kept k)
    limits = head_limits k has

    promised_within : (ballot : ℕ) → l.kept.acceptor.promised ≡ Some ballot → IsBallotNumber ballot
    promised_within ballot is =
        let number : promised_number l.kept.acceptor.promised ≡ ballot = ap promised_number is in
        let equal = same.promised in
        let most = limits.promised in
        (writable.promised ballot is, omega (arith, number, equal, most))

    vote_within : (v : Vote) → l.kept.acceptor.vote ≡ Some v → IsVoteAmong l.agents v
    vote_within v is =
        let number : vote_number l.kept.acceptor.vote ≡ v.ballot = ap vote_number is in
        let equal = same.ballot in
        let most = limits.ballot in
        let kept = writable.vote v is in
        ((kept.0, omega (arith, number, equal, most)), kept.1)

    within : HasText l
    within = record {
      agents = subst (λ n. (1 ≤ n) × (n ≤ 64)) (sym same.agents) has.agents;
      round = subst (λ n. n ≤ 10_000) (sym same.round) has.round;
      periods = subst (λ n. n ≤ 1_200) (sym same.learned) has.periods;
      learned = writable.learned;
      promised = promised_within;
      vote = vote_within;
      is_holding = writable.is_holding;
      in_range = writable.in_range;
    }
