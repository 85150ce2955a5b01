-- A text is read as a log exactly where it is that log's text.
use Rattle.std.proofs.Common.{◌≡◌, ℕ, zero, suc, ◌+◌, ◌≤◌, true, ◌&&◌, cond, List, [], ◌∷◌, ◌++◌, length, take, drop, flat_map, Option, Some}
use Rattle.std.proofs.Common.{None, Result, Ok, Err, ok_or, unwrap_or, codes, refl, sym, ap, ap₂, ◌∙◌, subst, arith, eqb-true, eq-eqb, leb-true, le-leb, append-nil, append_assoc, length-append}
use Rattle.std.specs.Prelude.{◌==◌, nat_le, if◌then◌else◌}
use Rattle.std.specs.List.{list_all}
use Rattle.std.specs.Option.{option_map}
use Rattle.std.specs.Result.{result_ok}
use Rattle.std.proofs.Math.Seq.{take-append_seam, drop-append_seam}
use Rattle.std.proofs.lemmas.Bool.{and_parts, and_from, cond-true, false≢true}
use Rattle.std.proofs.lemmas.List.{take-append-drop}
use Rattle.std.proofs.lemmas.List.Concat.{flat_map-append}
use Rattle.std.proofs.lemmas.Option.{same_Some, none-some}
use Rattle.metering_model.specs.FirstFailure.{◌>>=◌, holds_or}
use Rattle.metering_model.specs.Batch.{is_empty, lacks}
use Rattle.metering_model.specs.BatchReading.{Lines, fields_in, lines_in, with_line}
use Rattle.metering_model.specs.KeptText.{HasText, KeptAmong, kept_in, kept_text, text_of_lines}
use Rattle.metering_model.proofs.FieldLaws.{whole_written}
use Rattle.metering_model.proofs.KeptLaws.{kept_lines, kept_lines_are_text, kept_lines_lack_feed, kept_read, kept_written, lines_of_kept_text, writable_of}
use Rattle.metering_model.proofs.KeptLines.{held_true}
use Rattle.metering_model.proofs.Splitting.{ended, lines_give_back}
use Rattle.metering_model.proofs.StepLaws.{ok_same, ok_step_from, step_iff, step_ok}
use Rattle.packet_text.proofs.OptionSteps.{chosen_first, mapped_some, was_ok}
use Rattle.packet_text.proofs.PacketLaws.{line_first}
use Rattle.log_text.specs.LogText.{BadIncrement, BadKept, ReadBase, GoOn, HasLog, Increment, IsLogHead, KeptThere, LogCode, LogHead, LogTextFault, ReadLog, TooLong, Torn, among_with, at_log_line, base_text, first_increment}
use Rattle.log_text.specs.LogText.{base_in, goes_on, head_in, head_text, increment_text, increments_in, kept_after, kept_at_first, kept_of_lines, lines_of_increment, log_below, log_in, log_of_lines, log_text, without_base, nothing_kept, section_in}
use Rattle.log_text.proofs.HeadLaws.{head_lacks_feed, head_line, head_read, head_written}
use Rattle.log_text.proofs.IncrementLaws.{Unkept, all_both, first_in, first_read, first_written, increment_lacks_feed, increment_lines_are_text, increment_size, increment_some, increment_unkept, lines_of, section, section_lacks_feed, section_read, tested_ok, there, there_from, was_some}

-- of a group of so many agents
abbrev pub AreFew : ℕ → Type 0
AreFew agents = (1 ≤ agents) × (agents ≤ 64)

-- ---- steps

pub at_log_line_ok : {A : Type 0} (line : ℕ) (r : Result A LogCode) (x : A) → at_log_line line r ≡ Ok x → r ≡ Ok x
at_log_line_ok line (Ok y) x h = ap Ok (ok_same y x h)
at_log_line_ok line (Err c) x h = absurd (cc)

pub none_left : {A : Type 0} (xs : List A) → is_empty xs ≡ true → xs ≡ []
none_left [] h = refl
none_left (x ∷ xs) h = absurd (false≢true h)

-- ---- lines of what a log begins with, and of increments

abbrev pub increment_lines : List Increment → List (List ℕ)
increment_lines is = flat_map lines_of is

abbrev pub base_lines : Option KeptAmong → List (List ℕ)
base_lines None = []
base_lines (Some k) = section (codes "kept ") (length (lines_in (kept_text k)).lines) ∷ kept_lines k

pub kept_count : (k : KeptAmong) → HasText k → length (lines_in (kept_text k)).lines ≡ length (kept_lines k)
kept_count k has = ap (λ (x : Lines). length x.lines) (lines_of_kept_text k (writable_of k has))

-- ---- increments, from reading

-- lines that are read as increments are theirs, and each goes on from those before it; the first line has that number
abbrev pub AreIncrements : KeptAmong → ℕ → List (List ℕ) → KeptThere → Type 0
AreIncrements k line ls last = (is : List Increment) × (text_of_lines ls ≡ flat_map increment_text is) × GoOn k is × (last.kept ≡ kept_after k is) × (last.line ≡ line + length (increment_lines is))

-- what each step of reading the first increment answered
one_apart : (m line : ℕ) (k : KeptAmong) (l : List ℕ) (ls : List (List ℕ)) (x : KeptThere) → increments_in (suc m) line k (l ∷ ls) ≡ Ok x →
    (one : Increment × List (List ℕ)) × (first_increment k.agents l ls ≡ Ok one) × (goes_on one.0 k ≡ true) × (increments_in m (line + lines_of_increment one.0) (among_with one.0 k) one.1 ≡ Ok x)
one_apart m line k l ls x h =
    let a = simp step_iff at h in
    let t = a.2 in
    let test = goes_on a.0.0 k in (
      a.0,
      at_log_line_ok line (first_increment k.agents l ls) a.0 a.1,
      held_true test BadIncrement t.0 (at_log_line_ok line (holds_or test BadIncrement) t.0 t.1),
      t.2,
    )

none_read : (line : ℕ) (k : KeptAmong) (x : KeptThere) → ◌≡◌ {A = Result KeptThere LogTextFault} (Ok (record { kept = k; line = line })) (Ok x) → AreIncrements k line [] x
none_read line k x h = subst (AreIncrements k line []) (ok_same {E = LogTextFault} (record { kept = k; line = line }) x h) ([], refl, tt, refl, omega arith)

-- lines of the first increment, and of those behind it
pub lines_on : (line last : ℕ) (i : Increment) (is : List Increment) → last ≡ line + lines_of_increment i + length (increment_lines is) → last ≡ line + length (increment_lines (i ∷ is))
lines_on line last i is e =
    let all = length-append (lines_of i) (increment_lines is) in
    let size = increment_size i in
    omega (arith, e, all, size)

pub increments_read : (m line : ℕ) (k : KeptAmong) (ls : List (List ℕ)) (x : KeptThere) → AreFew k.agents → increments_in m line k ls ≡ Ok x → AreIncrements k line ls x
increments_read zero line k [] x few h = none_read line k x h
increments_read (suc m) line k [] x few h = none_read line k x h
increments_read zero line k (l ∷ ls) x few h = absurd (cc)
increments_read (suc m) line k (l ∷ ls) x few h =
    let a = one_apart m line k l ls x h in
    let i = a.0.0 in
    let first = first_read k.agents l ls a.0 few a.1 in
    let more = increments_read m (line + lines_of_increment i) (among_with i k) a.0.1 x few a.3 in
    (i ∷ more.0, first.0 ∙ ap (λ t. increment_text i ++ t) more.1, (first.1, a.2, more.2), more.3, lines_on line x.line i more.0 more.4)

-- ---- what a log begins with, from reading

pub kept_lines_read : (agents n : ℕ) (ls : List (List ℕ)) (k : KeptAmong) → kept_of_lines agents n ls ≡ Some k → (text_of_lines (take n ls) ≡ kept_text k) × HasText k × (n ≡ length (lines_in (kept_text k)).lines) × (k.agents ≡ agents)
kept_lines_read agents n ls k h =
    let front = text_of_lines (take n ls) in
    let a = there (result_ok (kept_in front)) (λ k. cond (n == length (lines_in (kept_text k)).lines && (k.agents == agents)) (Some k) None) k h in
    let t = chosen_first (n == length (lines_in (kept_text a.0)).lines && (a.0.agents == agents)) (Some a.0) k a.2 in
    let tests = and_parts (n == length (lines_in (kept_text a.0)).lines) (a.0.agents == agents) t.0 in
    let is = kept_read front a.0 (was_ok (kept_in front) a.0 a.1) in
    subst (λ c. (front ≡ kept_text c) × HasText c × (n ≡ length (lines_in (kept_text c)).lines) × (c.agents ≡ agents)) (same_Some a.0 k t.1)
    (is.joined, is.has, eqb-true _ _ tests.0, eqb-true _ _ tests.1)

abbrev pub MayBeFirst : ℕ → Option KeptAmong → Type 0
MayBeFirst agents base = (k : KeptAmong) → base ≡ Some k → HasText k × (k.agents ≡ agents)

-- the lines are those of a base, or of none, and those that are left
abbrev pub AreBaseLines : ℕ → List (List ℕ) → ReadBase → Type 0
AreBaseLines agents ls x =
    (base : Option KeptAmong) × (x.kept ≡ unwrap_or base (nothing_kept agents)) × (text_of_lines ls ≡ base_text base ++ text_of_lines x.left) × MayBeFirst agents base × (x.line ≡ 2 + length (base_lines base))

none_is_base : (agents : ℕ) (ls : List (List ℕ)) (x : ReadBase) → ◌≡◌ {A = Result ReadBase LogTextFault} (Ok (without_base agents ls)) (Ok x) → AreBaseLines agents ls x
none_is_base agents ls x h = subst (AreBaseLines agents ls) (ok_same {E = LogTextFault} (without_base agents ls) x h) (None, refl, refl, λ k e. absurd (none-some k e), refl)

-- what a log begins with, by how many lines its second line says to be below it
abbrev pub base_by_section : ℕ → List ℕ → List (List ℕ) → Option ℕ → Result ReadBase LogTextFault
base_by_section agents l ls o = elim o [
  | None ↦ Ok (without_base agents (l ∷ ls))
  | Some n ↦ at_log_line 2 (
      if nat_le n (length ls) then ok_or (option_map (λ k. record { kept = k; line = 3 + n; left = drop n ls }) (kept_of_lines agents n ls)) BadKept else Err Torn)
]

pub base_read : (agents : ℕ) (ls : List (List ℕ)) (x : ReadBase) → base_in agents ls ≡ Ok x → AreBaseLines agents ls x
base_read agents [] x h = none_is_base agents [] x h
base_read agents (l ∷ ls) x h = by_section (section_in (codes "kept ") 4_294_967_295 l) refl h
  where
    by_section : (o : Option ℕ) → section_in (codes "kept ") 4_294_967_295 l ≡ o → base_by_section agents l ls o ≡ Ok x → AreBaseLines agents (l ∷ ls) x
    by_section None is h = none_is_base agents (l ∷ ls) x h
    by_section (Some n) is h =
        let made : KeptAmong → ReadBase = λ k. record { kept = k; line = 3 + n; left = drop n ls } in
        let o : Option ReadBase = option_map made (kept_of_lines agents n ls) in
        let t = tested_ok (nat_le n (length ls)) Torn (ok_or o BadKept) x (at_log_line_ok 2 (cond (nat_le n (length ls)) (ok_or o BadKept) (Err Torn)) x h) in
        let a = mapped_some made (kept_of_lines agents n ls) x (was_some BadKept o x t.1) in
        let kept = kept_lines_read agents n ls a.0 a.1 in
        let line = section_read (codes "kept ") 4_294_967_295 l n (omega arith) is in
        let below : text_of_lines ls ≡ kept_text a.0 ++ text_of_lines (drop n ls) =
        ap text_of_lines (sym (take-append-drop n ls)) ∙ flat_map-append ended (take n ls) (drop n ls) ∙ ap (λ t. t ++ text_of_lines (drop n ls)) kept.0 in
        let first : List ℕ = section (codes "kept ") (length (lines_in (kept_text a.0)).lines) in
        subst (AreBaseLines agents (l ∷ ls)) a.2 (
          Some a.0,
          refl,
          ap₂ (λ t u. ended t ++ u) (line.0 ∙ ap (section (codes "kept ")) kept.2) below ∙ sym (append_assoc (ended first) (kept_text a.0) (text_of_lines (drop n ls))),
          λ k e. subst (λ c. HasText c × (c.agents ≡ agents)) (same_Some a.0 k e) (kept.1, kept.3),
          let said = kept.2 in let count = kept_count a.0 kept.1 in omega (arith, said, count),
        )

-- ---- a log, from reading

pub first_agents : (agents : ℕ) (base : Option KeptAmong) → MayBeFirst agents base → (unwrap_or base (nothing_kept agents)).agents ≡ agents
first_agents agents None h = refl
first_agents agents (Some k) h = (h k refl).1

-- what each step behind the head line answered
below_apart : (h : LogHead) (ls : List (List ℕ)) (rest : List ℕ) (read : ReadLog) → log_below h ls rest ≡ Ok read →
    (first : ReadBase) × (last : KeptThere) × (◌≡◌ {A = ReadLog} (record { head = h; kept = last.kept }) read) × (base_in h.agents ls ≡ Ok first) × (increments_in (length first.left) first.line first.kept first.left ≡ Ok last) × (is_empty rest ≡ true)
below_apart h ls rest read e =
    let a = simp step_iff at e in
    let n = a.2 in
    let t = n.2 in
    (a.0, n.0, ok_same {E = LogTextFault} (record { head = h; kept = n.0.kept }) read t.2, a.1, n.1, held_true (is_empty rest) Torn t.0 (at_log_line_ok n.0.line (holds_or (is_empty rest) Torn) t.0 t.1))

-- the text is that of a log, and this is read of it
abbrev pub IsLogOf : List ℕ → ReadLog → Type 0
IsLogOf text read = (base : Option KeptAmong) × (increments : List Increment) × (text ≡ log_text read.head base increments) × HasLog read.head base increments × (read.kept ≡ kept_after (kept_at_first read.head base) increments)

lines_read : (ls : List (List ℕ)) (rest : List ℕ) (read : ReadLog) → length (text_of_lines ls ++ rest) ≤ 4_294_967_296 → log_of_lines ls rest ≡ Ok read → IsLogOf (text_of_lines ls ++ rest) read
lines_read [] rest read short e = absurd (cc)
lines_read (l ∷ ls) rest read short e = subst (IsLogOf (text_of_lines (l ∷ ls) ++ rest)) a.2 (
  base,
  is,
  whole,
  record {
    head = head.1;
    first = kept.3;
    go_on = subst (λ k. GoOn k is) kept.1 increments.2;
    short = subst (λ t. length t ≤ 4_294_967_296) whole short;
  },
  increments.3 ∙ ap (λ k. kept_after k is) kept.1,
)
  where
    first : (h : LogHead) × (at_log_line 1 (head_in (fields_in l)) ≡ Ok h) × (log_below h ls rest ≡ Ok read)
    first = step_ok (at_log_line 1 (head_in (fields_in l))) (λ h. log_below h ls rest) read e

    h : LogHead
    h = first.0

    head : (l ≡ head_line h) × IsLogHead h
    head = head_read l h (at_log_line_ok 1 (head_in (fields_in l)) h first.1)

    a : (first : ReadBase) × (last : KeptThere) × (◌≡◌ {A = ReadLog} (record { head = h; kept = last.kept }) read) × (base_in h.agents ls ≡ Ok first) × (increments_in (length first.left) first.line first.kept first.left ≡ Ok last) × (is_empty rest ≡ true)
    a = below_apart h ls rest read first.2

    kept : AreBaseLines h.agents ls a.0
    kept = base_read h.agents ls a.0 a.3

    base : Option KeptAmong
    base = kept.0

    agents : a.0.kept.agents ≡ h.agents
    agents = ap (λ (k : KeptAmong). k.agents) kept.1 ∙ first_agents h.agents base kept.3

    increments : AreIncrements a.0.kept a.0.line a.0.left a.1
    increments = increments_read (length a.0.left) a.0.line a.0.kept a.0.left a.1 (subst AreFew (sym agents) head.1.agents) a.4

    is : List Increment
    is = increments.0

    whole : text_of_lines (l ∷ ls) ++ rest ≡ log_text h base is
    whole =
        ap (λ r. text_of_lines (l ∷ ls) ++ r) (none_left rest a.5)
        ∙ append-nil (text_of_lines (l ∷ ls))
        ∙ ap₂ (λ t u. ended t ++ u) head.0 (kept.2 ∙ ap (λ t. base_text base ++ t) increments.1)
        ∙ sym (append_assoc (head_text h) (base_text base) (flat_map increment_text is))

pub log_read : (text : List ℕ) (read : ReadLog) → log_in text ≡ Ok read → IsLogOf text read
unfolding log_in
log_read text read h =
    let ls = lines_in text in
    let t = tested_ok (nat_le (length text) 4_294_967_296) (record { code = TooLong; line = 1 }) (log_of_lines ls.lines ls.rest) read h in
    let whole = lines_give_back text in
    subst (λ t. IsLogOf t read) whole (lines_read ls.lines ls.rest read (subst (λ t. length t ≤ 4_294_967_296) (sym whole) (leb-true _ _ t.0)) t.1)

-- ---- lines above others

-- lines with their line feeds are the first lines of a text
pub lines_above : (ls : List (List ℕ)) (text : List ℕ) → list_all (lacks 10) ls ≡ true
    → lines_in (text_of_lines ls ++ text) ≡ record { lines = ls ++ (lines_in text).lines; rest = (lines_in text).rest }
lines_above [] text h = refl
lines_above (l ∷ ls) text h =
    let both = and_parts (lacks 10 l) (list_all (lacks 10) ls) h in
    let below = text_of_lines ls ++ text in
    ap lines_in (append_assoc (ended l) (text_of_lines ls) text ∙ append_assoc l (10 ∷ []) below)
    ∙ line_first l below both.0
    ∙ ap (with_line l) (lines_above ls text both.1)

-- each line takes a byte
pub lines_are_short : (ls : List (List ℕ)) → length ls ≤ length (text_of_lines ls)
lines_are_short [] = omega arith
lines_are_short (l ∷ ls) =
    let one = length-append l (10 ∷ []) in
    let all = length-append (ended l) (text_of_lines ls) in
    let more = lines_are_short ls in
    omega (arith, one, all, more)

-- ---- the lines of a log

abbrev pub log_lines : LogHead → Option KeptAmong → List Increment → List (List ℕ)
log_lines h base is = head_line h ∷ base_lines base ++ increment_lines is

increment_lines_text : (is : List Increment) → text_of_lines (increment_lines is) ≡ flat_map increment_text is
increment_lines_text [] = refl
increment_lines_text (i ∷ is) = flat_map-append ended (lines_of i) (increment_lines is) ∙ ap₂ ◌++◌ (increment_lines_are_text i) (increment_lines_text is)

pub base_lines_text : (base : Option KeptAmong) → text_of_lines (base_lines base) ≡ base_text base
base_lines_text None = refl
base_lines_text (Some k) = ap (λ t. ended (section (codes "kept ") (length (lines_in (kept_text k)).lines)) ++ t) (kept_lines_are_text k)

-- they are its text
pub log_lines_text : (h : LogHead) (base : Option KeptAmong) (is : List Increment) → text_of_lines (log_lines h base is) ≡ log_text h base is
log_lines_text h base is =
    ap (λ t. head_text h ++ t) (flat_map-append ended (base_lines base) (increment_lines is) ∙ ap₂ ◌++◌ (base_lines_text base) (increment_lines_text is))
    ∙ sym (append_assoc (head_text h) (base_text base) (flat_map increment_text is))

increments_lack_feed : (k : KeptAmong) (is : List Increment) → GoOn k is → list_all (lacks 10) (increment_lines is) ≡ true
increments_lack_feed k [] go = refl
increments_lack_feed k (i ∷ is) go = all_both (lacks 10) (lines_of i) (increment_lines is) (increment_lacks_feed k.agents i go.0) (increments_lack_feed (among_with i k) is go.2)

pub base_lacks_feed : (agents : ℕ) (base : Option KeptAmong) → MayBeFirst agents base → list_all (lacks 10) (base_lines base) ≡ true
base_lacks_feed agents None h = refl
base_lacks_feed agents (Some k) h = and_from _ _ (section_lacks_feed (codes "kept ") (length (lines_in (kept_text k)).lines) refl) (kept_lines_lack_feed k (writable_of k (h k refl).0))

pub log_lacks_feed : (h : LogHead) (base : Option KeptAmong) (is : List Increment) → HasLog h base is → list_all (lacks 10) (log_lines h base is) ≡ true
log_lacks_feed h base is has =
    and_from _ _ (head_lacks_feed h has.head)
    (all_both (lacks 10) (base_lines base) (increment_lines is) (base_lacks_feed h.agents base has.first) (increments_lack_feed (kept_at_first h base) is has.go_on))

-- ---- increments, to reading

one_written : (m line : ℕ) (k : KeptAmong) (ls : List (List ℕ)) (i : Increment) (left : List (List ℕ)) → first_in k.agents ls ≡ Ok (i, left) → goes_on i k ≡ true
    → increments_in (suc m) line k ls ≡ increments_in m (line + lines_of_increment i) (among_with i k) left
one_written m line k [] i left is goes = absurd (cc)
one_written m line k (l ∷ ls) i left is goes =
    ok_step_from (at_log_line line (first_increment k.agents l ls)) _ (i, left) _ (ap (at_log_line line) is)
    (ok_step_from (at_log_line line (holds_or (goes_on i k) BadIncrement)) _ tt _ (ap (λ t. at_log_line line (holds_or t BadIncrement)) goes) refl)

-- all of them are read, and then the lines behind them
abbrev pub AreReadTo : (m line : ℕ) → KeptAmong → List (List ℕ) → KeptAmong → (last : ℕ) → List (List ℕ) → Type 0
AreReadTo m line k ls after last more = (n : ℕ) × (length more ≤ n) × (increments_in m line k ls ≡ increments_in n last after more)

increments_written : (m line : ℕ) (k : KeptAmong) (is : List Increment) (more : List (List ℕ)) → AreFew k.agents → GoOn k is → length (increment_lines is ++ more) ≤ m
    → AreReadTo m line k (increment_lines is ++ more) (kept_after k is) (line + length (increment_lines is)) more
increments_written m line k [] more few go low = (m, low, ap (λ n. increments_in m n k more) (omega arith))
increments_written zero line k (i ∷ is) more few go low =
    let front = length-append (lines_of i ++ increment_lines is) more in
    let all = length-append (lines_of i) (increment_lines is) in
    let size = increment_size i in
    let some = increment_some i in
    absurd (omega (arith, low, front, all, size, some))
increments_written (suc m) line k (i ∷ is) more few go low =
    let left = increment_lines is ++ more in
    let parts = append_assoc (lines_of i) (increment_lines is) more in
    let same = ap length parts in
    let all = length-append (lines_of i) left in
    let two = length-append (lines_of i) (increment_lines is) in
    let size = increment_size i in
    let some = increment_some i in
    let first = ap (first_in k.agents) parts ∙ first_written k.agents i left few go.0 in
    let rest = increments_written m (line + lines_of_increment i) (among_with i k) is more few go.2 (omega (arith, low, same, all, size, some)) in
    (rest.0, rest.1, one_written m line k (increment_lines (i ∷ is) ++ more) i left first go.1 ∙ rest.2 ∙ ap (λ n. increments_in rest.0 n (kept_after k (i ∷ is)) more) (omega (arith, two, size)))

-- ---- a log, to reading

kept_lines_written : (k : KeptAmong) (ls : List (List ℕ)) → HasText k → kept_of_lines k.agents (length (lines_in (kept_text k)).lines) (kept_lines k ++ ls) ≡ Some k
kept_lines_written k ls has =
    let n = length (lines_in (kept_text k)).lines in
    let count = kept_count k has in
    let front : take n (kept_lines k ++ ls) ≡ kept_lines k = ap (λ m. take m (kept_lines k ++ ls)) count ∙ take-append_seam (kept_lines k) ls in
    let is : kept_in (text_of_lines (take n (kept_lines k ++ ls))) ≡ Ok k = ap (λ xs. kept_in (text_of_lines xs)) front ∙ ap kept_in (kept_lines_are_text k) ∙ kept_written k has in
    there_from (result_ok (kept_in (text_of_lines (take n (kept_lines k ++ ls))))) (λ c. cond (n == length (lines_in (kept_text c)).lines && (c.agents == k.agents)) (Some c) None) k (Some k) (ap result_ok is)
    (cond-true (n == n && (k.agents == k.agents)) (Some k) None (and_from _ _ (eq-eqb n n refl) (eq-eqb k.agents k.agents refl)))

-- what is read of what a log begins with
abbrev firstly : LogHead → Option KeptAmong → List (List ℕ) → ReadBase
firstly h base ls = record { kept = kept_at_first h base; line = 2 + length (base_lines base); left = ls }

pub kept_section_written : (k : KeptAmong) → HasText k → length (base_text (Some k)) ≤ 4_294_967_295
    → section_in (codes "kept ") 4_294_967_295 (section (codes "kept ") (length (lines_in (kept_text k)).lines)) ≡ Some (length (lines_in (kept_text k)).lines)
kept_section_written k has short =
    let n = length (lines_in (kept_text k)).lines in
    let count = kept_count k has in
    let bytes = lines_are_short (kept_lines k) in
    let text = ap length (kept_lines_are_text k) in
    let whole = length-append (ended (section (codes "kept ") n)) (kept_text k) in
    let some : 1 ≤ length (kept_lines k) = omega arith in
    whole_written 1 4_294_967_295 n (omega arith) (omega (arith, count, some)) (omega (arith, count, bytes, text, whole, short))

section_kept : (agents n : ℕ) (l : List ℕ) (ls left : List (List ℕ)) (k : KeptAmong) → section_in (codes "kept ") 4_294_967_295 l ≡ Some n → n ≤ length ls → kept_of_lines agents n ls ≡ Some k → drop n ls ≡ left
    → base_in agents (l ∷ ls) ≡ Ok (record { kept = k; line = 3 + n; left = left })
section_kept agents n l ls left k said low is behind =
    let made : KeptAmong → ReadBase = λ k. record { kept = k; line = 3 + n; left = drop n ls } in
    ap (base_by_section agents l ls) said
    ∙ ap (at_log_line 2) (cond-true (nat_le n (length ls)) (ok_or (option_map made (kept_of_lines agents n ls)) BadKept) (Err Torn) (le-leb n (length ls) low))
    ∙ ap (λ o. at_log_line 2 (ok_or (option_map made o) BadKept)) is
    ∙ ap (λ xs. Ok (record { kept = k; line = 3 + n; left = xs })) behind

base_written : (h : LogHead) (base : Option KeptAmong) (ls : List (List ℕ)) → MayBeFirst h.agents base → length (base_text base) ≤ 4_294_967_295 → Unkept ls → base_in h.agents (base_lines base ++ ls) ≡ Ok (firstly h base ls)
base_written h None [] is short none = refl
base_written h None (l ∷ ls) is short none = ap (base_by_section h.agents l ls) none
base_written h (Some k) ls is short none =
    let n = length (lines_in (kept_text k)).lines in
    let has = is k refl in
    let all = kept_lines k ++ ls in
    let count = kept_count k has.0 in
    let kept = ap (λ a. kept_of_lines a n all) (sym has.1) ∙ kept_lines_written k ls has.0 in
    let dropped : drop n all ≡ ls = ap (λ m. drop m all) count ∙ drop-append_seam (kept_lines k) ls in
    let size = length-append (kept_lines k) ls in
    section_kept h.agents n (section (codes "kept ") n) all ls k (kept_section_written k has.0 short) (omega (arith, count, size)) kept dropped ∙ ap (λ m. Ok (record { kept = k; line = m; left = ls })) (omega (arith, count))

unkept_front : (is : List Increment) (more : List (List ℕ)) → Unkept more → Unkept (increment_lines is ++ more)
unkept_front [] more none = none
unkept_front (i ∷ is) more none = subst Unkept (sym (append_assoc (lines_of i) (increment_lines is) more)) (increment_unkept i (increment_lines is ++ more))

pub base_is_short : (h : LogHead) (base : Option KeptAmong) (is : List Increment) → length (log_text h base is) ≤ 4_294_967_296 → length (base_text base) ≤ 4_294_967_295
base_is_short h base is short =
    let one = length-append (head_text h ++ base_text base) (flat_map increment_text is) in
    let two = length-append (head_text h) (base_text base) in
    let line = length-append (head_line h) (10 ∷ []) in
    omega (arith, short, one, two, line)

-- what is answered when the lines end
abbrev pub log_end : LogHead → List ℕ → KeptThere → Result ReadLog LogTextFault
log_end h rest last = at_log_line last.line (holds_or (is_empty rest) Torn) >>= λ _. Ok (record { head = h; kept = last.kept })

-- a log's lines are read, and then those behind them
pub front_written : (h : LogHead) (base : Option KeptAmong) (is : List Increment) → HasLog h base is → (more : List (List ℕ)) (rest : List ℕ) → Unkept more →
    (m : ℕ) × (length more ≤ m)
    × (log_of_lines (log_lines h base is ++ more) rest ≡ (increments_in m (1 + length (log_lines h base is)) (kept_after (kept_at_first h base) is) more >>= log_end h rest))
front_written h base is has more rest none =
    let ls = increment_lines is ++ more in
    let few = subst AreFew (sym (first_agents h.agents base has.first)) has.head.agents in
    let all = increments_written (length ls) (2 + length (base_lines base)) (kept_at_first h base) is more few has.go_on (omega arith) in
    let count = length-append (base_lines base) (increment_lines is) in
    let first = ap (base_in h.agents) (append_assoc (base_lines base) (increment_lines is) more) ∙ base_written h base ls has.first (base_is_short h base is has.short) (unkept_front is more none) in (
      all.0,
      all.1,
      ok_step_from (at_log_line 1 (head_in (fields_in (head_line h)))) (λ h. log_below h ((base_lines base ++ increment_lines is) ++ more) rest) h _ (ap (at_log_line 1) (head_written h has.head))
          (ok_step_from (base_in h.agents ((base_lines base ++ increment_lines is) ++ more)) (λ first. increments_in (length first.left) first.line first.kept first.left >>= log_end h rest) (firstly h base ls) _ first
          (ap (λ r. r >>= log_end h rest) (all.2 ∙ ap (λ n. increments_in all.0 n (kept_after (kept_at_first h base) is) more) (omega (arith, count))))),
    )

pub lines_end : (m line : ℕ) (k : KeptAmong) → increments_in m line k [] ≡ Ok (record { kept = k; line = line })
lines_end zero line k = refl
lines_end (suc m) line k = refl

-- a text of few bytes is read by its lines
pub short_read : (text : List ℕ) → length text ≤ 4_294_967_296 → log_in text ≡ log_of_lines (lines_in text).lines (lines_in text).rest
unfolding log_in
short_read text short = cond-true (nat_le (length text) 4_294_967_296) _ _ (le-leb (length text) 4_294_967_296 short)

-- what is written is read as it
pub log_written : (h : LogHead) (base : Option KeptAmong) (is : List Increment) → HasLog h base is → log_in (log_text h base is) ≡ Ok (record { head = h; kept = kept_after (kept_at_first h base) is })
log_written h base is has =
    let text = log_text h base is in
    let front = front_written h base is has [] [] tt in
    let lines : lines_in text ≡ record { lines = log_lines h base is ++ []; rest = [] } =
    ap lines_in (sym (log_lines_text h base is) ∙ sym (append-nil (text_of_lines (log_lines h base is)))) ∙ lines_above (log_lines h base is) [] (log_lacks_feed h base is has) in
    short_read text has.short
    ∙ ap (λ (x : Lines). log_of_lines x.lines x.rest) lines
    ∙ front.2
    ∙ ap (λ r. r >>= log_end h []) (lines_end front.0 (1 + length (log_lines h base is)) (kept_after (kept_at_first h base) is))
