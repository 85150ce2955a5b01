-- A kept text is read cut by cut and batch by batch: what was read, and what is read of the rest.
use Rattle.std.proofs.Common.{◌≡◌, ℕ, suc, ◌+◌, ◌*◌, ◌-◌, ◌≤◌, ◌<◌, Bool, true, false, List, [], ◌∷◌, ◌++◌, length, Option, Some, None, Result, Ok, Err, ok_or, refl, sym, ap, ap₂, subst, ◌∙◌, arith, append_assoc, append-nil, nat_le, nat_lt, le-leb, leb-true, get_or}
use Rattle.std.specs.Prelude.{◌==◌, ◌&&◌, ◌||◌}
use Rattle.std.specs.List.{list_all}
use Rattle.std.specs.Result.{IfOk, is_ok}
use Rattle.std.proofs.lemmas.Bool.Decides.{nat_tests}
use Rattle.std.proofs.lemmas.Bool.{and_parts, and_from, false≢true, lt-ltb}
use Rattle.metering_model.specs.FirstFailure.{◌>>=◌, holds_or}
use Rattle.metering_model.specs.Batch.{Batch}
use Rattle.metering_model.specs.Cut.{Cut}
use Rattle.metering_model.specs.Holding.{Holding, comes_before, is_in_order, is_batch_at, put}
use Rattle.metering_model.specs.declared.KeptTextFault.{KeptTextFault}
use Rattle.metering_model.specs.declared.KeptCode.{KeptCode}
use Rattle.metering_model.specs.declared.KeptCode.TheVariants.{Cut as BadCut, Order as NotInOrder}
use Rattle.metering_model.specs.BatchReading.{lines_in, fields_in}
use Rattle.metering_model.specs.KeptText.{BatchesRead, at_kept_line, cut_in, cuts_in, batches_in, next_batch, may_follow, with_batch}
use Rattle.metering_model.proofs.StepLaws.{ok_same}
use Rattle.metering_model.proofs.BatchOrder.{comes_before-trans, never_both, at_itself, not_at-after, put_cases}
use Rattle.batch_store.specs.Stores.{Stored}
use Rattle.node_kept.specs.declared.faults.KeptFault.{KeptFault}
use Rattle.node_kept.specs.declared.faults.KeptFault.TheVariants.{Refused, OutOfMemory}
use Rattle.node_kept.specs.Inner.Left.{IfTold, AreCutsOf, IsNextOf, AreBatchesOf, comes_behind}

-- ---- cuts

abbrev CutsRead : Type 0
CutsRead = Result (List Cut × List (List ℕ)) KeptTextFault

-- these cuts stand in front of what is read
abbrev pub with_cuts : List Cut → CutsRead → CutsRead
with_cuts before r = r >>= λ more. Ok (before ++ more.0, more.1)

abbrev one_cut : Cut → CutsRead → CutsRead
one_cut c r = r >>= λ more. Ok (c ∷ more.0, more.1)

-- what was read, and what is read of the rest, are all
pub record AreReadSoFar (text : List ℕ) (first agents count done : ℕ) (before : List Cut) (rest : List ℕ) : Type 0 where
  pub same : cuts_in first agents count (lines_in text).lines ≡ with_cuts before (cuts_in (first + done) agents (count - done) (lines_in rest).lines)
  pub behind : (lines_in rest).rest ≡ (lines_in text).rest

pub none_so_far : (text : List ℕ) (first agents count : ℕ) → AreReadSoFar text first agents count 0 [] text
none_so_far text first agents count = record {
  same = all (cuts_in first agents count (lines_in text).lines) ∙ ap₂ (λ line n. with_cuts [] (cuts_in line agents n (lines_in text).lines)) start whole;
  behind = refl;
}
  where
    start : first ≡ first + 0
    start = omega arith

    whole : count ≡ count - 0
    whole = omega arith

    all : (r : CutsRead) → r ≡ with_cuts [] r
    all (Ok x) = refl
    all (Err e) = refl

-- the first of more cuts
first_of_more : (line agents n : ℕ) (ls : List (List ℕ)) (c : Cut) (left : List (List ℕ)) → cuts_in line agents 1 ls ≡ Ok (c ∷ [], left)
    → cuts_in line agents (suc n) ls ≡ one_cut c (cuts_in (line + 1) agents n left)
first_of_more line agents n [] c left e = absurd (cc)
first_of_more line agents n (l ∷ ls) c left e = by_read (at_kept_line line (ok_or (cut_in agents (fields_in l)) BadCut)) e
  where
    only : Cut → CutsRead
    only d = Ok (d ∷ [], ls)

    cut_is : (d : Cut) → only d ≡ Ok (c ∷ [], left) → d ≡ c
    cut_is d h = ap (λ (p : List Cut × List (List ℕ)). get_or p.0 0 d) (ok_same {E = KeptTextFault} (d ∷ [], ls) (c ∷ [], left) h)

    left_is : (d : Cut) → only d ≡ Ok (c ∷ [], left) → ls ≡ left
    left_is d h = ap (λ (p : List Cut × List (List ℕ)). p.1) (ok_same {E = KeptTextFault} (d ∷ [], ls) (c ∷ [], left) h)

    by_read : (r : Result Cut KeptTextFault) → (r >>= λ d. only d) ≡ Ok (c ∷ [], left) → (r >>= λ d. one_cut d (cuts_in (line + 1) agents n ls)) ≡ one_cut c (cuts_in (line + 1) agents n left)
    by_read (Err f) e = absurd (cc)
    by_read (Ok d) e = ap₂ (λ x y. one_cut x (cuts_in (line + 1) agents n y)) (cut_is d e) (left_is d e)

none_of_more : (line agents n : ℕ) (ls : List (List ℕ)) (f : KeptTextFault) → cuts_in line agents 1 ls ≡ Err f → cuts_in line agents (suc n) ls ≡ Err f
none_of_more line agents n [] f e = cc
none_of_more line agents n (l ∷ ls) f e = by_read (at_kept_line line (ok_or (cut_in agents (fields_in l)) BadCut)) e
  where
    only : Cut → CutsRead
    only d = Ok (d ∷ [], ls)

    by_read : (r : Result Cut KeptTextFault) → (r >>= λ d. only d) ≡ Err f → (r >>= λ d. one_cut d (cuts_in (line + 1) agents n ls)) ≡ Err f
    by_read (Err g) e = cc
    by_read (Ok d) e = absurd (cc)

one_before : (before : List Cut) (c : Cut) (r : CutsRead) → with_cuts before (one_cut c r) ≡ with_cuts (before ++ c ∷ []) r
one_before before c (Ok x) = ap (λ cuts. Ok (cuts, x.1)) (sym (append_assoc before (c ∷ []) x.0))
one_before before c (Err e) = refl

pub one_more_cut : (text : List ℕ) (first agents count done : ℕ) (before : List Cut) (rest : List ℕ) (c : Cut) (left : List ℕ) → done < count
    → AreReadSoFar text first agents count done before rest → AreCutsOf rest (first + done) agents 1 (c ∷ []) left → AreReadSoFar text first agents count (suc done) (before ++ c ∷ []) left
one_more_cut text first agents count done before rest c left low here read =
    let n = count - suc done in
    let more : count - done ≡ suc n = omega (arith, low) in
    let line : first + done + 1 ≡ first + suc done = omega arith in
    record {
      same =
          here.same
          ∙ ap (λ k. with_cuts before (cuts_in (first + done) agents k (lines_in rest).lines)) more
          ∙ ap (with_cuts before) (first_of_more (first + done) agents n (lines_in rest).lines c (lines_in left).lines read.read)
          ∙ one_before before c (cuts_in (first + done + 1) agents n (lines_in left).lines)
          ∙ ap (λ l. with_cuts (before ++ c ∷ []) (cuts_in l agents n (lines_in left).lines)) line;
      behind = read.rest ∙ here.behind;
    }

-- the same where line, number and cuts are said otherwise
pub reads_cut : (text : List ℕ) (first agents count done line : ℕ) (before after : List Cut) (rest : List ℕ) (c : Cut) (left : List ℕ) → line ≡ first + done → after ≡ before ++ c ∷ [] → done < count
    → AreReadSoFar text first agents count done before rest → AreCutsOf rest line agents 1 (c ∷ []) left → AreReadSoFar text first agents count (done + 1) after left
reads_cut text first agents count done line before after rest c left is_line is_after low here read =
    let more = one_more_cut text first agents count done before rest c left low here (subst (λ n. AreCutsOf rest n agents 1 (c ∷ []) left) is_line read) in
    let done_is : suc done ≡ done + 1 = omega arith in
    subst (λ n. AreReadSoFar text first agents count n after left) done_is
    (subst (λ cuts. AreReadSoFar text first agents count (suc done) cuts left) (sym is_after) more)

pub cut_fault : (text : List ℕ) (first agents count done : ℕ) (before : List Cut) (rest : List ℕ) (f : KeptTextFault) → done < count
    → AreReadSoFar text first agents count done before rest → cuts_in (first + done) agents 1 (lines_in rest).lines ≡ Err f → cuts_in first agents count (lines_in text).lines ≡ Err f
cut_fault text first agents count done before rest f low here fault =
    let n = count - suc done in
    let more : count - done ≡ suc n = omega (arith, low) in
    here.same
    ∙ ap (λ k. with_cuts before (cuts_in (first + done) agents k (lines_in rest).lines)) more
    ∙ ap (with_cuts before) (none_of_more (first + done) agents n (lines_in rest).lines f fault)

pub all_cuts : (text : List ℕ) (first agents count done : ℕ) (before : List Cut) (rest : List ℕ) → count ≤ done → AreReadSoFar text first agents count done before rest → AreCutsOf text first agents count before rest
all_cuts text first agents count done before rest end here =
    let none : count - done ≡ 0 = omega (arith, end) in
    record {
      read =
          here.same
          ∙ ap (λ k. with_cuts before (cuts_in (first + done) agents k (lines_in rest).lines)) none
          ∙ ap (λ cuts. Ok (cuts, (lines_in rest).lines)) (append-nil before);
      rest = here.behind;
    }

-- ---- batches

abbrev BatchesAnswer : Type 0
BatchesAnswer = Result BatchesRead KeptTextFault

-- these batches stand in front of what is read
abbrev pub with_batches : Holding → BatchesAnswer → BatchesAnswer
with_batches before r = r >>= λ more. Ok (record more { batches = before ++ more.batches })

abbrev one_batch : Batch → BatchesAnswer → BatchesAnswer
one_batch b r = r >>= λ more. Ok (with_batch b more)

-- the batch that comes last
abbrev pub last_batch : Holding → Option Batch
last_batch [] = None
last_batch (b ∷ []) = Some b
last_batch (b ∷ c ∷ h) = last_batch (c ∷ h)

last-push : (h : Holding) (b : Batch) → last_batch (h ++ b ∷ []) ≡ Some b
last-push [] b = refl
last-push (c ∷ []) b = refl
last-push (c ∷ d ∷ h) b = last-push (d ∷ h) b

-- where the last batch stands, or before the first place
abbrev pub last_agent : Option Batch → ℕ
last_agent None = 0
last_agent (Some b) = b.agent

abbrev pub last_seq : Option Batch → ℕ
last_seq None = 0
last_seq (Some b) = b.seq

-- the tests of its agent and of its place are that of the model
pub follows_by_place : (agents : ℕ) (before : Option Batch) (b : Batch) → 1 ≤ b.agent → may_follow agents before b ≡ (nat_le b.agent agents && comes_behind (last_agent before) (last_seq before) b.agent b.seq)
follows_by_place agents None b some = cases (nat_le b.agent agents)
  where
    first : comes_behind 0 0 b.agent b.seq ≡ true
    first = ap (λ t. t || ((0 == b.agent) && nat_lt 0 b.seq)) (lt-ltb 0 b.agent some)

    cases : (t : Bool) → t ≡ (t && comes_behind 0 0 b.agent b.seq)
    cases true = sym first
    cases false = refl
follows_by_place agents (Some a) b some = refl

-- ---- a batch behind all others

-- what comes behind the last comes behind all
before_all : (h : Holding) (a b : Batch) → is_in_order h ≡ true → last_batch h ≡ Some a → comes_before a b ≡ true → list_all (λ c. comes_before c b) h ≡ true
before_all [] a b order e behind = refl
before_all (c ∷ []) a b order e behind = and_from _ _ (subst (λ x. comes_before x b ≡ true) (sym (same e)) behind) refl
  where
    same : Some c ≡ Some a → c ≡ a
    same e = cc
before_all (c ∷ d ∷ h) a b order e behind =
    let parts = and_parts (comes_before c d) (is_in_order (d ∷ h)) order in
    let rest = before_all (d ∷ h) a b parts.1 e behind in
    let first = (and_parts (comes_before d b) (list_all (λ x. comes_before x b) h) rest).0 in
    and_from _ _ (comes_before-trans c d b parts.0 first) rest

put_behind : (h : Holding) (b : Batch) → list_all (λ c. comes_before c b) h ≡ true → put h b ≡ h ++ b ∷ []
put_behind [] b all = refl
put_behind (c ∷ h) b all =
    let parts = and_parts (comes_before c b) (list_all (λ x. comes_before x b) h) all in
    put_cases (λ k. k ≡ c ∷ h ++ b ∷ []) b c h
    (λ first. absurd (never_both b c first parts.0))
    (λ _. ap (λ k. c ∷ k) (put_behind h b parts.1))
    (λ same. absurd (false≢true (sym (not_at-after c b c.agent c.seq parts.0 (at_itself c)) ∙ at_other same)))
  where
    at_other : is_batch_at b.agent b.seq c ≡ true → is_batch_at c.agent c.seq b ≡ true
    at_other e = grind (arith, nat_tests)

order-push : (h : Holding) (b : Batch) → is_in_order h ≡ true → list_all (λ c. comes_before c b) h ≡ true → is_in_order (h ++ b ∷ []) ≡ true
order-push [] b order all = refl
order-push (c ∷ []) b order all = and_from _ _ (and_parts (comes_before c b) true all).0 refl
order-push (c ∷ d ∷ h) b order all =
    let parts = and_parts (comes_before c d) (is_in_order (d ∷ h)) order in
    and_from _ _ parts.0 (order-push (d ∷ h) b parts.1 (and_parts (comes_before c b) (list_all (λ x. comes_before x b) (d ∷ h)) all).1)

none_last : (h : Holding) → last_batch h ≡ None → h ≡ []
none_last [] e = refl
none_last (b ∷ []) e = absurd (cc)
none_last (b ∷ c ∷ h) e = let rest = none_last (c ∷ h) e in absurd (omega (arith, ap length rest))

-- a batch that may follow the others is put behind them
pub put_next : (agents : ℕ) (before : Holding) (b : Batch) → is_in_order before ≡ true → may_follow agents (last_batch before) b ≡ true → (put before b ≡ before ++ b ∷ []) × (is_in_order (before ++ b ∷ []) ≡ true)
put_next agents before b order may = by_last (last_batch before) refl may
  where
    by_last : (o : Option Batch) → last_batch before ≡ o → may_follow agents o b ≡ true → (put before b ≡ before ++ b ∷ []) × (is_in_order (before ++ b ∷ []) ≡ true)
    by_last None e follows = subst (λ h. (put h b ≡ h ++ b ∷ []) × (is_in_order (h ++ b ∷ []) ≡ true)) (sym (none_last before e)) (refl, refl)
    by_last (Some a) e follows =
        let behind = before_all before a b order e (and_parts (nat_le b.agent agents) (comes_before a b) follows).1 in
        (put_behind before b behind, order-push before b order behind)

-- ---- batches, one by one

-- what was read, and what is read of the rest, are all
pub record AreBatchesSoFar (text : List ℕ) (first agents count done : ℕ) (before : Holding) (line : ℕ) (rest : List ℕ) : Type 0 where
  pub same : batches_in first agents None count (lines_in text).lines ≡ with_batches before (batches_in line agents (last_batch before) (count - done) (lines_in rest).lines)
  pub behind : (lines_in rest).rest ≡ (lines_in text).rest
  pub order : is_in_order before ≡ true
  pub bound : line ≤ first + 1_001 * done

pub no_batches_so_far : (text : List ℕ) (first agents count : ℕ) → AreBatchesSoFar text first agents count 0 [] first text
no_batches_so_far text first agents count = record {
  same = all (batches_in first agents None count (lines_in text).lines) ∙ ap (λ n. with_batches [] (batches_in first agents None n (lines_in text).lines)) none;
  behind = refl;
  order = refl;
  bound = omega arith;
}
  where
    none : count ≡ count - 0
    none = omega arith

    all : (r : BatchesAnswer) → r ≡ with_batches [] r
    all (Ok x) = refl
    all (Err e) = refl

-- the rest of reading batches, behind the first
abbrev behind_first : (line agents n : ℕ) → Batch × List (List ℕ) → BatchesAnswer
behind_first line agents n one = one_batch one.0 (batches_in (line + 1 + length one.0.records) agents (Some one.0) n one.1)

abbrev from_first : (line agents : ℕ) → Option Batch → ℕ → Result (Batch × List (List ℕ)) KeptTextFault → BatchesAnswer
from_first line agents before n r = r >>= λ one. at_kept_line line (holds_or (may_follow agents before one.0) NotInOrder) >>= λ u. behind_first line agents n one

first_batch : (line agents : ℕ) (before : Option Batch) (n : ℕ) (ls : List (List ℕ)) (b : Batch) (left : List (List ℕ)) → next_batch ls ≡ Ok (b, left) → may_follow agents before b ≡ true
    → batches_in line agents before (suc n) ls ≡ behind_first line agents n (b, left)
first_batch line agents before n ls b left e may =
    ap (λ (r : Result (Batch × List (List ℕ)) KeptCode). from_first line agents before n (at_kept_line line r)) e
    ∙ ap (λ t. at_kept_line line (holds_or t NotInOrder) >>= λ u. behind_first line agents n (b, left)) may

one_in_front : (before : Holding) (b : Batch) (r : BatchesAnswer) → with_batches before (one_batch b r) ≡ with_batches (before ++ b ∷ []) r
one_in_front before b (Ok x) = ap (λ (h : Holding). Ok (record x { batches = h })) (sym (append_assoc before (b ∷ []) x.batches))
one_in_front before b (Err e) = refl

pub one_more_batch : (text : List ℕ) (first agents count done : ℕ) (before : Holding) (line : ℕ) (rest : List ℕ) (b : Batch) (left : List ℕ) → done < count
    → AreBatchesSoFar text first agents count done before line rest → IsNextOf rest b left → may_follow agents (last_batch before) b ≡ true → length b.records ≤ 1_000
    → AreBatchesSoFar text first agents count (suc done) (before ++ b ∷ []) (line + 1 + length b.records) left
one_more_batch text first agents count done before line rest b left low here read may few =
    let n = count - suc done in
    let more : count - done ≡ suc n = omega (arith, low) in
    let bound = here.bound in
    record {
      same =
          here.same
          ∙ ap (λ k. with_batches before (batches_in line agents (last_batch before) k (lines_in rest).lines)) more
          ∙ ap (with_batches before) (first_batch line agents (last_batch before) n (lines_in rest).lines b (lines_in left).lines read.read may)
          ∙ one_in_front before b (batches_in (line + 1 + length b.records) agents (Some b) n (lines_in left).lines)
          ∙ ap (λ o. with_batches (before ++ b ∷ []) (batches_in (line + 1 + length b.records) agents o n (lines_in left).lines)) (sym (last-push before b));
      behind = read.rest ∙ here.behind;
      order = (put_next agents before b here.order may).1;
      bound = omega (arith, bound, few);
    }

-- why there are not so many
pub batch_fault : (text : List ℕ) (first agents count done : ℕ) (before : Holding) (line : ℕ) (rest : List ℕ) (f : KeptTextFault) → done < count
    → AreBatchesSoFar text first agents count done before line rest → at_kept_line line (next_batch (lines_in rest).lines) ≡ Err f → batches_in first agents None count (lines_in text).lines ≡ Err f
batch_fault text first agents count done before line rest f low here fault =
    let n = count - suc done in
    let more : count - done ≡ suc n = omega (arith, low) in
    here.same
    ∙ ap (λ k. with_batches before (batches_in line agents (last_batch before) k (lines_in rest).lines)) more
    ∙ ap (λ (r : Result (Batch × List (List ℕ)) KeptTextFault). with_batches before (from_first line agents (last_batch before) n r)) fault

pub order_fault : (text : List ℕ) (first agents count done : ℕ) (before : Holding) (line : ℕ) (rest : List ℕ) (b : Batch) (left : List ℕ) → done < count
    → AreBatchesSoFar text first agents count done before line rest → IsNextOf rest b left → may_follow agents (last_batch before) b ≡ false
    → batches_in first agents None count (lines_in text).lines ≡ Err (record { code = NotInOrder; line = line })
order_fault text first agents count done before line rest b left low here read never =
    let n = count - suc done in
    let more : count - done ≡ suc n = omega (arith, low) in
    here.same
    ∙ ap (λ k. with_batches before (batches_in line agents (last_batch before) k (lines_in rest).lines)) more
    ∙ ap (λ (r : Result (Batch × List (List ℕ)) KeptCode). with_batches before (from_first line agents (last_batch before) n (at_kept_line line r))) read.read
    ∙ ap (λ t. with_batches before (at_kept_line line (holds_or t NotInOrder) >>= λ u. behind_first line agents n (b, (lines_in left).lines))) never

pub all_batches : (text : List ℕ) (first agents count done : ℕ) (before : Holding) (line : ℕ) (rest : List ℕ) → count ≤ done
    → AreBatchesSoFar text first agents count done before line rest → AreBatchesOf text first agents count before line rest
all_batches text first agents count done before line rest end here =
    let none : count - done ≡ 0 = omega (arith, end) in
    record {
      read =
          here.same
          ∙ ap (λ k. with_batches before (batches_in line agents (last_batch before) k (lines_in rest).lines)) none
          ∙ ap (λ (h : Holding). Ok (record { batches = h; line = line; left = (lines_in rest).lines })) (append-nil before);
      rest = here.behind;
    }

-- what reading batches keeps: the batches in a store, and where the last of them stands
pub record ReadsOn (text : List ℕ) (first agents count done : ℕ) (store : Stored) (agent seq line : ℕ) (rest : List ℕ) : Type 0 where
  pub so_far : AreBatchesSoFar text first agents count done store.batches line rest
  pub agents_of : store.agents ≡ agents
  pub agent_of : agent ≡ last_agent (last_batch store.batches)
  pub seq_of : seq ≡ last_seq (last_batch store.batches)

-- what the tests of agent and place say of the batch
follows : (agents agent seq : ℕ) (h : Holding) (b : Batch) (t : Bool) → agent ≡ last_agent (last_batch h) → seq ≡ last_seq (last_batch h) → 1 ≤ b.agent
    → (nat_le b.agent agents && comes_behind agent seq b.agent b.seq) ≡ t → may_follow agents (last_batch h) b ≡ t
follows agents agent seq h b t is_agent is_seq some e =
    follows_by_place agents (last_batch h) b some ∙ ap₂ (λ x y. nat_le b.agent agents && comes_behind x y b.agent b.seq) (sym is_agent) (sym is_seq) ∙ e

-- one batch more is read, and put into the store
pub reads_one_more : (text : List ℕ) (first agents count done : ℕ) (store new : Stored) (agent seq line : ℕ) (rest : List ℕ) (b : Batch) (next_agent next_seq below : ℕ) (left : List ℕ)
    → done < count → ReadsOn text first agents count done store agent seq line rest → IsNextOf rest b left → next_agent ≡ b.agent → next_seq ≡ b.seq → 1 ≤ next_agent → length b.records ≤ 1_000
    → next_agent ≤ agents → comes_behind agent seq next_agent next_seq ≡ true → new ≡ record { agents = store.agents; batches = put store.batches b } → below ≡ line + (1 + length b.records)
    → ReadsOn text first agents count (done + 1) new next_agent next_seq below left
reads_one_more text first agents count done store new agent seq line rest b next_agent next_seq below left low here read is_agent is_seq some few within behind is_new is_below =
    let behind_it = ap₂ (λ x y. comes_behind agent seq x y) (sym is_agent) (sym is_seq) ∙ behind in
    let test = and_from _ _ (le-leb b.agent agents (omega (arith, is_agent, within))) behind_it in
    let may = follows agents agent seq store.batches b true here.agent_of here.seq_of (omega (arith, is_agent, some)) test in
    let is_put = (put_next agents store.batches b here.so_far.order may).0 in
    let more = one_more_batch text first agents count done store.batches line rest b left low here.so_far read may few in
    let after = store.batches ++ b ∷ [] in
    let last = sym (last-push store.batches b) in
    let all : ReadsOn text first agents count (suc done) (record { agents = store.agents; batches = after }) next_agent next_seq (line + 1 + length b.records) left =
    record { so_far = more; agents_of = here.agents_of; agent_of = is_agent ∙ ap last_agent last; seq_of = is_seq ∙ ap last_seq last } in
    let store_is : ◌≡◌ {A = Stored} (record { agents = store.agents; batches = after }) new = ap (λ h. record { agents = store.agents; batches = h }) (sym is_put) ∙ sym is_new in
    let done_is : suc done ≡ done + 1 = omega arith in
    let line_is : line + 1 + length b.records ≡ below = omega (arith, is_below) in
    subst (λ n. ReadsOn text first agents count n new next_agent next_seq below left) done_is
    (subst (λ n. ReadsOn text first agents count (suc done) new next_agent next_seq n left) line_is
    (subst (λ s. ReadsOn text first agents count (suc done) s next_agent next_seq (line + 1 + length b.records) left) store_is all))

-- why the next one is not
pub reads_no_more : (text : List ℕ) (first agents count done : ℕ) (store : Stored) (agent seq line : ℕ) (rest : List ℕ) (b : Batch) (next_agent next_seq : ℕ) (left : List ℕ)
    → done < count → ReadsOn text first agents count done store agent seq line rest → IsNextOf rest b left → next_agent ≡ b.agent → next_seq ≡ b.seq → 1 ≤ next_agent
    → (nat_le next_agent agents && comes_behind agent seq next_agent next_seq) ≡ false
    → batches_in first agents None count (lines_in text).lines ≡ Err (record { code = NotInOrder; line = line })
reads_no_more text first agents count done store agent seq line rest b next_agent next_seq left low here read is_agent is_seq some never =
    let test = ap₂ (λ x y. nat_le x agents && comes_behind agent seq x y) (sym is_agent) (sym is_seq) ∙ never in
    order_fault text first agents count done store.batches line rest b left low here.so_far read (follows agents agent seq store.batches b false here.agent_of here.seq_of (omega (arith, is_agent, some)) test)

-- an agent that there isn't, or a place that comes before
pub no_agent : (agent agents : ℕ) (t : Bool) → agents < agent → (nat_le agent agents && t) ≡ false
no_agent agent agents t above = by_test (nat_le agent agents) refl
  where
    by_test : (b : Bool) → nat_le agent agents ≡ b → (b && t) ≡ false
    by_test true e = let within = leb-true agent agents e in absurd (omega (arith, within, above))
    by_test false e = refl

pub no_place : (b t : Bool) → t ≡ false → (b && t) ≡ false
no_place true t e = e
no_place false t e = refl

-- what holds of every value of an answer holds where there is one
pub when_ok : {A E : Type 0} (r : Result A E) (P : Type 0) → IfOk r (λ x. P) → is_ok r ≡ true → P
when_ok (Ok x) P holds e = holds
when_ok (Err x) P holds e = absurd (cc)

-- what is said of a fault may be said otherwise
pub told_so : (fault : KeptFault) (P Q : KeptTextFault → Type 0) → ((f : KeptTextFault) → P f → Q f) → IfTold fault P → IfTold fault Q
told_so (Refused code line) P Q so told = so (record { code = code; line = line }) told
told_so OutOfMemory P Q so told = tt
