-- Head line, cuts and batches of a kept text: each is read exactly where it is joined.
use Rattle.std.proofs.Common.{◌≡◌, ℕ, zero, suc, ◌+◌, ◌≤◌, ◌<◌, ◌^◌, Bool, true, false, cond, List, [], ◌∷◌, ◌++◌, length, map, take, drop, flat_map, All, Option, Some, None, Result, Ok, Err, ok_or, decimal, codes, refl, sym, ap, ap₂, ◌∙◌, subst, arith, eqb-true, eq-eqb, append_assoc}
use Rattle.std.specs.Prelude.{◌==◌, nat_le}
use Rattle.std.specs.List.{list_all, join_with_byte}
use Rattle.std.proofs.Math.Seq.{take-append_seam, drop-append_seam}
use Rattle.std.proofs.lemmas.Bool.{and_parts, and_from, leb-true, le-leb, cond-true}
use Rattle.std.proofs.lemmas.List.{length-map, take-append-drop}
use Rattle.std.proofs.lemmas.List.Concat.{flat_map-append}
use Rattle.std.proofs.lemmas.List.Elements.{All-nil, All-cons, All-head, All-tail}
use Rattle.std.proofs.lemmas.Option.{same_Some, none-some}
use Rattle.metering_model.specs.FirstFailure.{holds_or}
use Rattle.metering_model.specs.Batch.{Batch, IsWellFormed, batch_text, lacks}
use Rattle.metering_model.specs.BatchReading.{HeadLine, head_in, batch_in, is_same, whole_in, all_some, with_first, fields_in}
use Rattle.metering_model.specs.Cut.{Cut}
use Rattle.metering_model.specs.Holding.{Holding, comes_before, is_in_order}
use Rattle.metering_model.specs.World.{KeptTextFault}
use Rattle.metering_model.specs.KeptText.{KeptCode, NoBatch, NotInOrder, BadCut, KeptHead, IsCutAmong, BatchesRead, at_kept_line, or_code, kept_head_in, cut_in, cuts_in, text_of_lines, next_batch, may_follow, with_batch, batches_in}
use Rattle.metering_model.proofs.StepLaws.{step_iff, some_iff, test_iff, ok_same, ok_step_from}
use Rattle.metering_model.proofs.Splitting.{ended, cut_join, join_cut}
use Rattle.metering_model.proofs.FieldLaws.{same_read, whole_read, whole_written}
use Rattle.metering_model.proofs.FieldBytes.{is_inner, decimal_is_inner}
use Rattle.metering_model.proofs.LineLaws.{HeadLimits, bars_lack, line_lacks_feed, head_written, record_line}
use Rattle.metering_model.proofs.BatchLaws.{head_of, batch_lines, lines_are_text, batch_read, batch_written, IsWellFormed-read}

-- what is told of a fault changes no answer
pub at_kept_line_ok : {A : Type 0} (line : ℕ) (r : Result A KeptCode) (x : A) → at_kept_line line r ≡ Ok x → r ≡ Ok x
at_kept_line_ok line (Ok y) x h = ap Ok (ok_same y x h)
at_kept_line_ok line (Err c) x h = absurd (cc)

or_code_ok : {A E : Type 0} (code : KeptCode) (r : Result A E) (x : A) → or_code code r ≡ Ok x → r ≡ Ok x
or_code_ok code (Ok y) x h = ap Ok (ok_same y x h)
or_code_ok code (Err e) x h = absurd (cc)

was_some : {A : Type 0} (code : KeptCode) (o : Option A) (x : A) → ok_or o code ≡ Ok x → o ≡ Some x
was_some code (Some y) x h = ap Some (ok_same y x h)
was_some code None x h = absurd (cc)

pub held_true : {E : Type 0} (b : Bool) (e : E) (u : Unit {0}) → holds_or b e ≡ Ok u → b ≡ true
held_true true e u h = refl
held_true false e u h = absurd (cc)

-- ---- the head line

abbrev pub kept_head_line_fields : KeptHead → List (List ℕ)
kept_head_line_fields h =
    codes "K1" ∷ decimal h.agents ∷ decimal h.round ∷ decimal h.learned ∷ decimal h.promised ∷ decimal h.ballot
    ∷ decimal h.batches ∷ []

abbrev pub kept_head_line : KeptHead → List ℕ
kept_head_line h = join_with_byte 124 (kept_head_line_fields h)

-- its numbers are within their limits
pub record KeptHeadLimits (h : KeptHead) : Type 0 where
  pub agents : (1 ≤ h.agents) × (h.agents ≤ 64)
  pub round : h.round ≤ 10_000
  pub learned : h.learned ≤ 1_200
  pub promised : h.promised ≤ 990_098
  pub ballot : h.ballot ≤ 990_098
  pub batches : h.batches ≤ 64_000_000

abbrev IsKeptHead : List (List ℕ) → KeptHead → Type 0
IsKeptHead fs h = (fs ≡ kept_head_line_fields h) × KeptHeadLimits h

-- what each step of reading the head's fields answered
kept_head_apart : (version agents round learned promised ballot batches : List ℕ) (x : KeptHead) → kept_head_in (version ∷ agents ∷ round ∷ learned ∷ promised ∷ ballot ∷ batches ∷ []) ≡ Ok x →
    (y : KeptHead) × (y ≡ x) × (is_same version (codes "K1") ≡ true) × (whole_in 1 64 agents ≡ Some y.agents) × (whole_in 0 10_000 round ≡ Some y.round) × (whole_in 0 1_200 learned ≡ Some y.learned)
    × (whole_in 0 990_098 promised ≡ Some y.promised) × (whole_in 0 990_098 ballot ≡ Some y.ballot) × (whole_in 0 64_000_000 batches ≡ Some y.batches)
kept_head_apart version agents round learned promised ballot batches x h =
    let v = simp (some_iff, test_iff) at h in
    let a = v.1 in
    let r = a.2 in
    let l = r.2 in
    let p = l.2 in
    let b = p.2 in
    let n = b.2 in
    let y : KeptHead = record { agents = a.0; round = r.0; learned = l.0; promised = p.0; ballot = b.0; batches = n.0 } in
    (y, ok_same y x n.2, v.0, a.1, r.1, l.1, p.1, b.1, n.1)

kept_head_fields_read : (fs : List (List ℕ)) (x : KeptHead) → kept_head_in fs ≡ Ok x → IsKeptHead fs x
kept_head_fields_read (version ∷ agents ∷ round ∷ learned ∷ promised ∷ ballot ∷ batches ∷ []) x h =
    let p = kept_head_apart version agents round learned promised ballot batches x h in
    let a = whole_read 1 64 agents p.0.agents (omega arith) p.3 in
    let r = whole_read 0 10_000 round p.0.round (omega arith) p.4 in
    let l = whole_read 0 1_200 learned p.0.learned (omega arith) p.5 in
    let m = whole_read 0 990_098 promised p.0.promised (omega arith) p.6 in
    let b = whole_read 0 990_098 ballot p.0.ballot (omega arith) p.7 in
    let n = whole_read 0 64_000_000 batches p.0.batches (omega arith) p.8 in
    subst (IsKeptHead (version ∷ agents ∷ round ∷ learned ∷ promised ∷ ballot ∷ batches ∷ [])) p.1 (
      ap₂ ◌∷◌ (same_read version (codes "K1") p.2) (ap₂ ◌∷◌ a.0 (ap₂ ◌∷◌ r.0 (ap₂ ◌∷◌ l.0 (ap₂ ◌∷◌ m.0 (ap₂ ◌∷◌ b.0 (ap (λ t. t ∷ []) n.0)))))),
      record { agents = (a.1, a.2); round = r.2; learned = l.2; promised = m.2; ballot = b.2; batches = n.2 },
    )
kept_head_fields_read fs x h = absurd (cc)

kept_head_fields_written : (x : KeptHead) → KeptHeadLimits x → kept_head_in (kept_head_line_fields x) ≡ Ok x
kept_head_fields_written x h =
    simp (
      whole_written 1 64 x.agents (omega arith) h.agents.0 h.agents.1,
      whole_written 0 10_000 x.round (omega arith) (omega arith) h.round,
      whole_written 0 1_200 x.learned (omega arith) (omega arith) h.learned,
      whole_written 0 990_098 x.promised (omega arith) (omega arith) h.promised,
      whole_written 0 990_098 x.ballot (omega arith) (omega arith) h.ballot,
      whole_written 0 64_000_000 x.batches (omega arith) (omega arith) h.batches,
    )

kept_head_is_inner : (x : KeptHead) → KeptHeadLimits x → list_all (list_all is_inner) (kept_head_line_fields x) ≡ true
kept_head_is_inner x h =
    let agents : x.agents < 10 ^ 64 = let low = h.agents.1 in omega arith in
    let round : x.round < 10 ^ 64 = let low = h.round in omega arith in
    let learned : x.learned < 10 ^ 64 = let low = h.learned in omega arith in
    let promised : x.promised < 10 ^ 64 = let low = h.promised in omega arith in
    let ballot : x.ballot < 10 ^ 64 = let low = h.ballot in omega arith in
    let batches : x.batches < 10 ^ 64 = let low = h.batches in omega arith in
    simp (decimal_is_inner x.agents agents, decimal_is_inner x.round round, decimal_is_inner x.learned learned, decimal_is_inner x.promised promised, decimal_is_inner x.ballot ballot, decimal_is_inner x.batches batches)

-- a line that is read as a head line is its text
pub kept_head_read : (l : List ℕ) (x : KeptHead) → kept_head_in (fields_in l) ≡ Ok x → (l ≡ kept_head_line x) × KeptHeadLimits x
kept_head_read l x h =
    let r = kept_head_fields_read (fields_in l) x h in
    (sym (join_cut 124 l) ∙ ap (join_with_byte 124) r.0, r.1)

-- its text is read as it
pub kept_head_written : (x : KeptHead) → KeptHeadLimits x → kept_head_in (fields_in (kept_head_line x)) ≡ Ok x
kept_head_written x h =
    ap kept_head_in (cut_join 124 (codes "K1") (decimal x.agents ∷ decimal x.round ∷ decimal x.learned ∷ decimal x.promised ∷ decimal x.ballot ∷ decimal x.batches ∷ []) (bars_lack (kept_head_line_fields x) (kept_head_is_inner x h)))
    ∙ kept_head_fields_written x h

-- ---- cuts

abbrev pub cut_line : Cut → List ℕ
cut_line cut = join_with_byte 124 (map decimal cut)

abbrev IsLow : ℕ → Type 0
IsLow seq = seq ≤ 1_000_000

-- fields that are read as sequences are theirs
abbrev AreSequences : List (List ℕ) → List ℕ → Type 0
AreSequences fs cut = (fs ≡ map decimal cut) × (length cut ≡ length fs) × All IsLow cut

sequences_read : (fs : List (List ℕ)) (cut : List ℕ) → all_some (map (whole_in 0 1_000_000) fs) ≡ Some cut → AreSequences fs cut
sequences_read [] cut h = subst (AreSequences []) (same_Some [] cut h) (refl, refl, All-nil IsLow)
sequences_read (f ∷ fs) cut h = both (whole_in 0 1_000_000 f) (all_some (map (whole_in 0 1_000_000) fs)) refl (λ xs e. sequences_read fs xs e) h
  where
    both : (o : Option ℕ) (os : Option (List ℕ)) → whole_in 0 1_000_000 f ≡ o → ((xs : List ℕ) → os ≡ Some xs → AreSequences fs xs) → with_first o os ≡ Some cut → AreSequences (f ∷ fs) cut
    both (Some x) (Some xs) e later k =
        let one = whole_read 0 1_000_000 f x (omega arith) e in
        let more = later xs refl in
        subst (AreSequences (f ∷ fs)) (same_Some (x ∷ xs) cut k) (ap₂ ◌∷◌ one.0 more.0, ap suc more.1, All-cons IsLow x xs one.2 more.2)
    both (Some x) None e later k = absurd (none-some cut k)
    both None os e later k = absurd (none-some cut k)

sequences_written : (cut : List ℕ) → All IsLow cut → all_some (map (whole_in 0 1_000_000) (map decimal cut)) ≡ Some cut
sequences_written [] h = refl
sequences_written (x ∷ xs) h = ap₂ with_first (whole_written 0 1_000_000 x (omega arith) (omega arith) (All-head IsLow x xs h)) (sequences_written xs (All-tail IsLow x xs h))

sequences_are_inner : (cut : List ℕ) → All IsLow cut → list_all (list_all is_inner) (map decimal cut) ≡ true
sequences_are_inner [] h = refl
sequences_are_inner (x ∷ xs) h =
    let low = All-head IsLow x xs h in
    and_from _ _ (decimal_is_inner x (omega (arith, low))) (sequences_are_inner xs (All-tail IsLow x xs h))

chosen_some : {A : Type 0} (b : Bool) (o : Option A) (x : A) → cond b o None ≡ Some x → (b ≡ true) × (o ≡ Some x)
chosen_some true o x h = (refl, h)
chosen_some false o x h = absurd (none-some x h)

pub cut_read : (agents : ℕ) (l : List ℕ) (cut : Cut) → cut_in agents (fields_in l) ≡ Some cut → (l ≡ cut_line cut) × IsCutAmong agents cut
cut_read agents l cut h =
    let fs = fields_in l in
    let test = chosen_some (length fs == agents) (all_some (map (whole_in 0 1_000_000) fs)) cut h in
    let are = sequences_read fs cut test.1 in
    (sym (join_cut 124 l) ∙ ap (join_with_byte 124) are.0, record { size = are.1 ∙ eqb-true _ _ test.0; low = are.2 })

cut_fields_back : (agents : ℕ) (cut : Cut) → 1 ≤ agents → IsCutAmong agents cut → fields_in (cut_line cut) ≡ map decimal cut
cut_fields_back agents [] some h = let size = h.size in absurd (omega (arith, size, some))
cut_fields_back agents (x ∷ xs) some h = cut_join 124 (decimal x) (map decimal xs) (bars_lack (map decimal (x ∷ xs)) (sequences_are_inner (x ∷ xs) h.low))

cut_written : (agents : ℕ) (cut : Cut) → 1 ≤ agents → IsCutAmong agents cut → cut_in agents (fields_in (cut_line cut)) ≡ Some cut
cut_written agents cut some h =
    ap (cut_in agents) (cut_fields_back agents cut some h)
    ∙ cond-true (length (map decimal cut) == agents) (all_some (map (whole_in 0 1_000_000) (map decimal cut))) None (eq-eqb _ _ (length-map cut decimal ∙ h.size))
    ∙ sequences_written cut h.low

pub cuts_lack_feed : (agents : ℕ) (cuts : List Cut) → All (IsCutAmong agents) cuts → list_all (lacks 10) (map cut_line cuts) ≡ true
cuts_lack_feed agents [] h = refl
cuts_lack_feed agents (c ∷ cs) h =
    let one = All-head (IsCutAmong agents) c cs h in
    and_from _ _ (line_lacks_feed (map decimal c) (sequences_are_inner c one.low)) (cuts_lack_feed agents cs (All-tail (IsCutAmong agents) c cs h))

-- lines that are read as so many cuts are their lines, and those that are left
abbrev pub AreCuts : ℕ → ℕ → List (List ℕ) → List Cut × List (List ℕ) → Type 0
AreCuts agents n ls x = (ls ≡ map cut_line x.0 ++ x.1) × (length x.0 ≡ n) × All (IsCutAmong agents) x.0

cuts_apart : (line agents n : ℕ) (l : List ℕ) (ls : List (List ℕ)) (x : List Cut × List (List ℕ)) → cuts_in line agents (suc n) (l ∷ ls) ≡ Ok x →
    (c : Cut) × (more : List Cut × List (List ℕ)) × (◌≡◌ {A = List Cut × List (List ℕ)} (c ∷ more.0, more.1) x) × (cut_in agents (fields_in l) ≡ Some c) × (cuts_in (line + 1) agents n ls ≡ Ok more)
cuts_apart line agents n l ls x h =
    let a = simp step_iff at h in
    let b = a.2 in
    let code = at_kept_line_ok line (ok_or (cut_in agents (fields_in l)) BadCut) a.0 a.1 in
    (a.0, b.0, ok_same (a.0 ∷ b.0.0, b.0.1) x b.2, was_some BadCut (cut_in agents (fields_in l)) a.0 code, b.1)

pub cuts_read : (line agents n : ℕ) (ls : List (List ℕ)) (x : List Cut × List (List ℕ)) → cuts_in line agents n ls ≡ Ok x → AreCuts agents n ls x
cuts_read line agents zero ls x h = subst (AreCuts agents zero ls) (ok_same {E = KeptTextFault} ([], ls) x h) (refl, refl, All-nil (IsCutAmong agents))
cuts_read line agents (suc n) [] x h = absurd (cc)
cuts_read line agents (suc n) (l ∷ ls) x h =
    let a = cuts_apart line agents n l ls x h in
    let one = cut_read agents l a.0 a.3 in
    let more = cuts_read (line + 1) agents n ls a.1 a.4 in
    subst (AreCuts agents (suc n) (l ∷ ls)) a.2 (ap₂ ◌∷◌ one.0 more.0, ap suc more.1, All-cons (IsCutAmong agents) a.0 a.1.0 one.1 more.2)

pub cuts_written : (line agents : ℕ) (cuts : List Cut) (left : List (List ℕ)) → 1 ≤ agents → All (IsCutAmong agents) cuts → cuts_in line agents (length cuts) (map cut_line cuts ++ left) ≡ Ok (cuts, left)
cuts_written line agents [] left some h = refl
cuts_written line agents (c ∷ cs) left some h =
    simp step_iff (
      c,
      ap (λ o. at_kept_line line (ok_or o BadCut)) (cut_written agents c some (All-head (IsCutAmong agents) c cs h)),
      ((cs, left), cuts_written (line + 1) agents cs left some (All-tail (IsCutAmong agents) c cs h), refl),
    )

-- ---- one batch

next_apart : (l : List ℕ) (ls : List (List ℕ)) (x : Batch × List (List ℕ)) → next_batch (l ∷ ls) ≡ Ok x →
    (head : HeadLine) × (b : Batch) × (◌≡◌ {A = Batch × List (List ℕ)} (b, drop head.count ls) x) × (batch_in (text_of_lines (l ∷ take head.count ls)) ≡ Ok b)
next_apart l ls x h =
    let a = simp step_iff at h in
    let b = a.2 in
    (a.0, b.0, ok_same (b.0, drop a.0.count ls) x b.2, or_code_ok NoBatch (batch_in (text_of_lines (l ∷ take a.0.count ls))) b.0 b.1)

-- the first lines are the batch's text
abbrev pub IsNextBatch : List (List ℕ) → Batch × List (List ℕ) → Type 0
IsNextBatch ls x = (text_of_lines ls ≡ batch_text x.0 ++ text_of_lines x.1) × IsWellFormed x.0

pub next_read : (ls : List (List ℕ)) (x : Batch × List (List ℕ)) → next_batch ls ≡ Ok x → IsNextBatch ls x
next_read [] x h = absurd (cc)
next_read (l ∷ ls) x h =
    let a = next_apart l ls x h in
    let n = a.0.count in
    let front = l ∷ take n ls in
    let parts : front ++ drop n ls ≡ l ∷ ls = ap (λ t. l ∷ t) (take-append-drop n ls) in
    let joined = (batch_read (text_of_lines front) a.1 a.3).joined in
    subst (IsNextBatch (l ∷ ls)) a.2 (
      ap text_of_lines (sym parts) ∙ flat_map-append ended front (drop n ls) ∙ ap (λ t. t ++ text_of_lines (drop n ls)) joined,
      IsWellFormed-read (text_of_lines front) a.1 a.3,
    )

pub next_written : (b : Batch) (left : List (List ℕ)) → IsWellFormed b → next_batch (batch_lines b ++ left) ≡ Ok (b, left)
next_written b left well =
    let limits : HeadLimits (head_of b) = record { agent = well.agent; seq = well.seq; count = well.count } in
    let ms = map record_line b.records in
    let count : length b.records ≡ length ms = sym (length-map b.records record_line) in
    let taken : take (length b.records) (ms ++ left) ≡ ms = ap (λ k. take k (ms ++ left)) count ∙ take-append_seam ms left in
    let dropped : drop (length b.records) (ms ++ left) ≡ left = ap (λ k. drop k (ms ++ left)) count ∙ drop-append_seam ms left in
    let head : List ℕ = head_line_of b in
    let is : batch_in (text_of_lines (head ∷ take (length b.records) (ms ++ left))) ≡ Ok b =
    ap (λ t. batch_in (text_of_lines (head ∷ t))) taken ∙ ap batch_in (lines_are_text b) ∙ batch_written (batch_text b) b well in
    ok_step_from (or_code NoBatch (head_in (fields_in head))) _ (head_of b) (Ok (b, left)) (ap (or_code NoBatch) (head_written (head_of b) limits))
    (ok_step_from (or_code NoBatch (batch_in (text_of_lines (head ∷ take (length b.records) (ms ++ left))))) _ b (Ok (b, left)) (ap (or_code NoBatch) is)
    (ap (λ t. Ok (b, t)) dropped))
  where
    first_of : List (List ℕ) → List ℕ
    first_of [] = []
    first_of (l ∷ ls) = l

    head_line_of : Batch → List ℕ
    head_line_of b = first_of (batch_lines b)

-- ---- all batches

abbrev pub behind : Option Batch → Holding → Holding
behind None h = h
behind (Some b) h = b ∷ h

pub record AreBatches (agents : ℕ) (before : Option Batch) (n : ℕ) (ls : List (List ℕ)) (x : BatchesRead) : Type 0 where
  pub text : text_of_lines ls ≡ flat_map batch_text x.batches ++ text_of_lines x.left
  pub size : length x.batches ≡ n
  pub order : is_in_order (behind before x.batches) ≡ true
  pub well : All IsWellFormed x.batches
  pub in_range : All (λ b. b.agent ≤ agents) x.batches

batches_apart : (line agents : ℕ) (before : Option Batch) (n : ℕ) (ls : List (List ℕ)) (x : BatchesRead) → batches_in line agents before (suc n) ls ≡ Ok x →
    (one : Batch × List (List ℕ)) × (more : BatchesRead) × (with_batch one.0 more ≡ x) × (next_batch ls ≡ Ok one) × (may_follow agents before one.0 ≡ true) × (batches_in (line + 1 + length one.0.records) agents (Some one.0) n one.1 ≡ Ok more)
batches_apart line agents before n ls x h =
    let a = simp step_iff at h in
    let t = a.2 in
    let m = t.2 in
    let test = may_follow agents before a.0.0 in (
      a.0,
      m.0,
      ok_same (with_batch a.0.0 m.0) x m.2,
      at_kept_line_ok line (next_batch ls) a.0 a.1,
      held_true test NotInOrder t.0 (at_kept_line_ok line (holds_or test NotInOrder) t.0 t.1),
      m.1,
    )

in_range_by : (agents : ℕ) (before : Option Batch) (b : Batch) → may_follow agents before b ≡ true → b.agent ≤ agents
in_range_by agents None b h = leb-true _ _ h
in_range_by agents (Some a) b h = leb-true _ _ (and_parts (nat_le b.agent agents) (comes_before a b) h).0

order_by : (agents : ℕ) (before : Option Batch) (b : Batch) (h : Holding) → may_follow agents before b ≡ true → is_in_order (b ∷ h) ≡ true → is_in_order (behind before (b ∷ h)) ≡ true
order_by agents None b h e order = order
order_by agents (Some a) b h e order = and_from _ _ (and_parts (nat_le b.agent agents) (comes_before a b) e).1 order

alone : (before : Option Batch) → is_in_order (behind before []) ≡ true
alone None = refl
alone (Some b) = refl

pub batches_read : (line agents : ℕ) (before : Option Batch) (n : ℕ) (ls : List (List ℕ)) (x : BatchesRead) → batches_in line agents before n ls ≡ Ok x → AreBatches agents before n ls x
batches_read line agents before zero ls x h = subst (AreBatches agents before zero ls) (ok_same {E = KeptTextFault} (record { batches = []; line = line; left = ls }) x h) (record {
  text = refl;
  size = refl;
  order = alone before;
  well = All-nil IsWellFormed;
  in_range = All-nil (λ b. b.agent ≤ agents);
})
batches_read line agents before (suc n) ls x h =
    let a = batches_apart line agents before n ls x h in
    let one = next_read ls a.0 a.3 in
    let more = batches_read (line + 1 + length a.0.0.records) agents (Some a.0.0) n a.0.1 a.1 a.5 in
    subst (AreBatches agents before (suc n) ls) a.2 (record {
      text = one.0 ∙ ap (λ t. batch_text a.0.0 ++ t) more.text ∙ sym (append_assoc (batch_text a.0.0) (flat_map batch_text a.1.batches) (text_of_lines a.1.left));
      size = ap suc more.size;
      order = order_by agents before a.0.0 a.1.batches a.4 more.order;
      well = All-cons IsWellFormed a.0.0 a.1.batches one.1 more.well;
      in_range = All-cons (λ b. b.agent ≤ agents) a.0.0 a.1.batches (in_range_by agents before a.0.0 a.4) more.in_range;
    })

may_follow_from : (agents : ℕ) (before : Option Batch) (b : Batch) (h : Holding) → b.agent ≤ agents → is_in_order (behind before (b ∷ h)) ≡ true → (may_follow agents before b ≡ true) × (is_in_order (b ∷ h) ≡ true)
may_follow_from agents None b h low order = (le-leb _ _ low, order)
may_follow_from agents (Some a) b h low order =
    let parts = and_parts (comes_before a b) (is_in_order (b ∷ h)) order in
    (and_from _ _ (le-leb _ _ low) parts.0, parts.1)

abbrev pub lines_of_batches : Holding → List (List ℕ)
lines_of_batches h = flat_map batch_lines h

abbrev Reads : ℕ → ℕ → Option Batch → Holding → List (List ℕ) → List (List ℕ) → Type 0
Reads line agents before h ls left = (last : ℕ) × (batches_in line agents before (length h) ls ≡ Ok (record { batches = h; line = last; left = left }))

pub batches_written : (line agents : ℕ) (before : Option Batch) (h : Holding) (left : List (List ℕ)) → is_in_order (behind before h) ≡ true → All IsWellFormed h → All (λ b. b.agent ≤ agents) h →
    Reads line agents before h (lines_of_batches h ++ left) left
batches_written line agents before [] left order well low = (line, refl)
batches_written line agents before (b ∷ h) left order well low =
    let may = may_follow_from agents before b h (All-head (λ b. b.agent ≤ agents) b h low) order in
    let more = batches_written (line + 1 + length b.records) agents (Some b) h left may.1 (All-tail IsWellFormed b h well) (All-tail (λ b. b.agent ≤ agents) b h low) in
    let next : next_batch (lines_of_batches (b ∷ h) ++ left) ≡ Ok (b, lines_of_batches h ++ left) =
    ap next_batch (append_assoc (batch_lines b) (lines_of_batches h) left) ∙ next_written b (lines_of_batches h ++ left) (All-head IsWellFormed b h well) in
    (more.0, simp step_iff ((b, lines_of_batches h ++ left), ap (at_kept_line line) next, (tt, ap (λ t. at_kept_line line (holds_or t NotInOrder)) may.0, (record { batches = h; line = more.0; left = left }, more.1, refl))))
