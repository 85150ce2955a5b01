-- A log that breaks off within an increment is refused at the line on which that begins.
use Rattle.std.proofs.Common.{◌≡◌, ◌≢◌, ℕ, zero, suc, ◌+◌, ◌≤◌, ◌<◌, ◌⊎◌, inl, inr, true, false, not, List, [], ◌∷◌, ◌++◌, length, take, drop, Option, Some, Ok, flat_map, Err, ok_or, codes, refl, sym, ap, ◌∙◌, subst, arith, append_assoc, length-append}
use Rattle.std.specs.Prelude.{◌==◌, nat_le}
use Rattle.std.specs.List.{list_all}
use Rattle.std.specs.Option.{option_map}
use Rattle.std.proofs.lemmas.Bool.{and_parts, and_from, cond-false, lt-leb}
use Rattle.metering_model.specs.FirstFailure.{◌>>=◌, holds_or}
use Rattle.metering_model.specs.Batch.{Batch, IsWellFormed, is_empty, lacks}
use Rattle.metering_model.specs.BatchReading.{Lines, lines_in, lines_of_parts}
use Rattle.metering_model.specs.KeptText.{HasText, KeptAmong, kept_text, text_of_lines}
use Rattle.metering_model.proofs.KeptLaws.{kept_lines}
use Rattle.metering_model.proofs.BatchLaws.{batch_lines}
use Rattle.metering_model.proofs.Splitting.{cut_whole, lines_give_back, lines_of_text}
use Rattle.packet_text.specs.PacketText.{lines_of_batch}
use Rattle.packet_text.proofs.PacketLaws.{line_first}
use Rattle.log_text.specs.LogText.{BadHead, BadIncrement, BadKept, BeginsRound, ReadBase, HasIncrementText, HasLog, Increment, IsLogHead, Learns, LogHead, SetsBallots, Takes, Torn, among_with, at_log_line, base_text, base_in, head_text, kept_of_lines, log_below, nothing_kept}
use Rattle.log_text.specs.LogText.{batch_of_lines, first_increment, goes_on, increment_text, increments_in, kept_after, kept_at_first, lines_of_increment, log_in, log_of_lines, log_text}
use Rattle.log_text.proofs.HeadLaws.{head_lacks_feed, head_line, head_written}
use Rattle.log_text.proofs.IncrementLaws.{Unkept, by_section, batch_size, increment_lacks_feed, increment_lines_are_text, lines_of, section, section_written}
use Rattle.log_text.proofs.ReadLogs.{without_line}
use Rattle.log_text.proofs.LogLaws.{MayBeFirst, base_is_short, base_lacks_feed, base_lines, base_lines_text, base_by_section, front_written, kept_count, kept_section_written, lines_above, lines_end, log_end, log_lacks_feed, log_lines, log_lines_text, short_read}

-- ---- pieces of lines

none_in_front : (piece more : List ℕ) → [] ≡ piece ++ more → more ≡ []
none_in_front [] more e = sym e
none_in_front (x ∷ xs) more e = absurd (cc)

-- a piece of a text has no line feed, or all of the text's first line
first_broken : (l text piece more : List ℕ) → lacks 10 l ≡ true → l ++ 10 ∷ text ≡ piece ++ more → (lacks 10 piece ≡ true) ⊎ ((other : List ℕ) × (piece ≡ l ++ 10 ∷ other) × (text ≡ other ++ more))
first_broken [] text [] more h e = inl refl
first_broken [] text (x ∷ xs) more h e =
    let first : x ≡ 10 = cc in
    let rest : text ≡ xs ++ more = cc in
    inr (xs, ap (λ c. c ∷ xs) first, rest)
first_broken (y ∷ ys) text [] more h e = inl refl
first_broken (y ∷ ys) text (x ∷ xs) more h e =
    let both = and_parts (not (y == 10)) (lacks 10 ys) h in
    let first : y ≡ x = cc in
    let rest : ys ++ 10 ∷ text ≡ xs ++ more = cc in
    elim (first_broken ys text xs more both.1 rest) [
      | inl none ↦ inl (and_from _ _ (ap (λ c. not (c == 10)) (sym first) ∙ both.0) none)
      | inr some ↦ inr (some.0, ap (λ c. c ∷ xs) (sym first) ∙ ap (λ t. y ∷ t) some.1, some.2)
    ]

-- a piece that breaks off before the end has fewer of the lines
lines_broken : (ls : List (List ℕ)) (piece more : List ℕ) → list_all (lacks 10) ls ≡ true → text_of_lines ls ≡ piece ++ more → more ≢ [] → (j : ℕ) × (j < length ls) × ((lines_in piece).lines ≡ take j ls)
lines_broken [] piece more h e some = absurd (some (none_in_front piece more e))
lines_broken (l ∷ ls) piece more h e some =
    let both = and_parts (lacks 10 l) (list_all (lacks 10) ls) h in
    elim (first_broken l (text_of_lines ls) piece more both.0 (sym (append_assoc l (10 ∷ []) (text_of_lines ls)) ∙ e)) [
      | inl none ↦ (0, omega arith, ap (λ ps. (lines_of_parts ps).lines) (cut_whole 10 piece none))
      | inr some_line ↦
          let rest = lines_broken ls some_line.0 more both.1 some_line.2 some in
          let low = rest.1 in
          (suc rest.0, omega (arith, low), ap (λ t. (lines_in t).lines) some_line.1 ∙ ap (λ (x : Lines). x.lines) (line_first l some_line.0 both.0) ∙ ap (λ xs. l ∷ xs) rest.2)
    ]

taken_few : {A : Type 0} (n : ℕ) (xs : List A) → length (take n xs) ≤ n
taken_few zero xs = omega arith
taken_few (suc n) [] = omega arith
taken_few (suc n) (x ∷ xs) = let few = taken_few n xs in omega (arith, few)

-- ---- a torn increment

-- the whole lines are none, and what is behind them is there; or they begin with one that says more to be below it than are
abbrev IsTorn : ℕ → List (List ℕ) → List ℕ → Type 0
IsTorn agents [] rest = is_empty rest ≡ false
IsTorn agents (l ∷ ls) rest = (first_increment agents l ls ≡ Err Torn) × Unkept (l ∷ ls)

broken_batch : (agents j : ℕ) (b : Batch) → IsWellFormed b → j < lines_of_batch b → first_increment agents (section (codes "batch ") (lines_of_batch b)) (take j (batch_lines b)) ≡ Err Torn
broken_batch agents j b h low =
    let n = lines_of_batch b in
    let ls = take j (batch_lines b) in
    let few = taken_few j (batch_lines b) in
    ap (by_section agents (section (codes "batch ") n) ls) (section_written b h)
    ∙ cond-false (nat_le n (length ls)) (ok_or (option_map (λ b. (Takes b, drop n ls)) (batch_of_lines n ls)) BadIncrement) (Err Torn) (lt-leb n (length ls) (omega (arith, few, low)))

broken_lines : (agents other j : ℕ) (i : Increment) (rest : List ℕ) → HasIncrementText agents i → j < length (lines_of i) → (j ≡ 0 → is_empty rest ≡ false) → IsTorn other (take j (lines_of i)) rest
broken_lines agents other zero i rest h low some = some refl
broken_lines agents other (suc j) (BeginsRound round) rest h low some = absurd (omega (arith, low))
broken_lines agents other (suc j) (SetsBallots period a) rest h low some = absurd (omega (arith, low))
broken_lines agents other (suc j) (Learns period cut) rest h low some = absurd (omega (arith, low))
broken_lines agents other (suc j) (Takes b) rest h low some = let size = batch_size b in (broken_batch other j b h (omega (arith, low, size)), refl)

not_empty : (t : List ℕ) → t ≢ [] → is_empty t ≡ false
not_empty [] some = absurd (some refl)
not_empty (c ∷ cs) some = refl

increment_torn : (agents other : ℕ) (i : Increment) (piece more : List ℕ) → HasIncrementText agents i → increment_text i ≡ piece ++ more → piece ≢ [] → more ≢ [] → IsTorn other (lines_in piece).lines (lines_in piece).rest
increment_torn agents other i piece more h e some cut =
    let rest = (lines_in piece).rest in
    let broken = lines_broken (lines_of i) piece more (increment_lacks_feed agents i h) (increment_lines_are_text i ∙ e) cut in
    let alone = λ (none : broken.0 ≡ 0). ap (λ ls. text_of_lines ls ++ rest) (sym (broken.2 ∙ ap (λ j. take j (lines_of i)) none)) ∙ lines_give_back piece in
    subst (λ ls. IsTorn other ls rest) (sym broken.2) (broken_lines agents other broken.0 i rest h broken.1 (λ none. ap is_empty (alone none) ∙ not_empty piece some))

torn_unkept : (agents : ℕ) (ls : List (List ℕ)) (rest : List ℕ) → IsTorn agents ls rest → Unkept ls
torn_unkept agents [] rest is = tt
torn_unkept agents (l ∷ ls) rest is = is.1

-- ---- a torn log

torn_end : (h : LogHead) (m line : ℕ) (k : KeptAmong) (ls : List (List ℕ)) (rest : List ℕ) → length ls ≤ m → IsTorn k.agents ls rest → (increments_in m line k ls >>= log_end h rest) ≡ Err (record { code = Torn; line = line })
torn_end h m line k [] rest low is =
    ap (λ r. r >>= log_end h rest) (lines_end m line k)
    ∙ ap (λ t. at_log_line line (holds_or t Torn) >>= λ _. Ok (record { head = h; kept = k })) is
torn_end h zero line k (l ∷ ls) rest low is = absurd (omega (arith, low))
torn_end h (suc m) line k (l ∷ ls) rest low is =
    ap (λ r. (at_log_line line r >>= λ one. at_log_line line (holds_or (goes_on one.0 k) BadIncrement) >>= λ _. increments_in m (line + lines_of_increment one.0) (among_with one.0 k) one.1) >>= log_end h rest) is.0

pub torn_refused : (h : LogHead) (base : Option KeptAmong) (is : List Increment) (next : Increment) (piece more : List ℕ) → HasLog h base is → HasIncrementText h.agents next → increment_text next ≡ piece ++ more → piece ≢ [] → more ≢ []
    → length (log_text h base is ++ piece) ≤ 4_294_967_296 → log_in (log_text h base is ++ piece) ≡ Err (record { code = Torn; line = 1 + length (lines_in (log_text h base is)).lines })
torn_refused h base is next piece more has text e some cut short =
    let ls = log_lines h base is in
    let kept = kept_after (kept_at_first h base) is in
    let torn = increment_torn h.agents kept.agents next piece more text e some cut in
    let behind = (lines_in piece).lines in
    let rest = (lines_in piece).rest in
    let front = front_written h base is has behind rest (torn_unkept kept.agents behind rest torn) in
    let lacks_feed = log_lacks_feed h base is has in
    let count = ap (λ t. length (lines_in t).lines) (sym (log_lines_text h base is)) ∙ ap (λ (x : Lines). length x.lines) (lines_of_text ls lacks_feed) in
    short_read (log_text h base is ++ piece) short
    ∙ ap (λ (x : Lines). log_of_lines x.lines x.rest) (ap (λ t. lines_in (t ++ piece)) (sym (log_lines_text h base is)) ∙ lines_above ls piece lacks_feed)
    ∙ front.2
    ∙ torn_end h front.0 (1 + length ls) kept behind rest front.1 torn
    ∙ ap (λ n. Err (record { code = Torn; line = 1 + n })) (sym count)

-- ---- torn in what a log begins with

-- the whole lines are none, and what is behind them is there; or the first says more to be below it than are
abbrev IsBaseTorn : ℕ → List (List ℕ) → List ℕ → Type 0
IsBaseTorn agents [] rest = is_empty rest ≡ false
IsBaseTorn agents (l ∷ ls) rest = base_in agents (l ∷ ls) ≡ Err (record { code = Torn; line = 2 })

broken_base : (agents j : ℕ) (k : KeptAmong) (rest : List ℕ) → HasText k → length (base_text (Some k)) ≤ 4_294_967_295 → j < length (base_lines (Some k)) → (j ≡ 0 → is_empty rest ≡ false) → IsBaseTorn agents (take j (base_lines (Some k))) rest
broken_base agents zero k rest has short low some = some refl
broken_base agents (suc j) k rest has short low some =
    let n = length (lines_in (kept_text k)).lines in
    let ls = take j (kept_lines k) in
    let count = kept_count k has in
    let few = taken_few j (kept_lines k) in
    let made : KeptAmong → ReadBase = λ k. record { kept = k; line = 3 + n; left = drop n ls } in
    ap (base_by_section agents (section (codes "kept ") n) ls) (kept_section_written k has short)
    ∙ ap (at_log_line 2) (cond-false (nat_le n (length ls)) (ok_or (option_map made (kept_of_lines agents n ls)) BadKept) (Err Torn) (lt-leb n (length ls) (omega (arith, count, few, low))))

base_torn : (agents : ℕ) (k : KeptAmong) (piece more : List ℕ) → MayBeFirst agents (Some k) → length (base_text (Some k)) ≤ 4_294_967_295 → base_text (Some k) ≡ piece ++ more → piece ≢ [] → more ≢ [] → IsBaseTorn agents (lines_in piece).lines (lines_in piece).rest
base_torn agents k piece more may short e some cut =
    let ls = base_lines (Some k) in
    let rest = (lines_in piece).rest in
    let broken = lines_broken ls piece more (base_lacks_feed agents (Some k) may) (base_lines_text (Some k) ∙ e) cut in
    let alone = λ (none : broken.0 ≡ 0). ap (λ ls. text_of_lines ls ++ rest) (sym (broken.2 ∙ ap (λ j. take j ls) none)) ∙ lines_give_back piece in
    subst (λ ls. IsBaseTorn agents ls rest) (sym broken.2) (broken_base agents broken.0 k rest (may k refl).0 short broken.1 (λ none. ap is_empty (alone none) ∙ not_empty piece some))

base_end : (h : LogHead) (ls : List (List ℕ)) (rest : List ℕ) → IsBaseTorn h.agents ls rest → log_below h ls rest ≡ Err (record { code = Torn; line = 2 })
base_end h [] rest is = ap (λ t. at_log_line 2 (holds_or t Torn) >>= λ _. Ok (record { head = h; kept = nothing_kept h.agents })) is
base_end h (l ∷ ls) rest is = ap (λ r. r >>= λ first. increments_in (length first.left) first.line first.kept first.left >>= log_end h rest) is

pub torn_at_first : (h : LogHead) (k : KeptAmong) (is : List Increment) (piece more : List ℕ) → HasLog h (Some k) is → base_text (Some k) ≡ piece ++ more → piece ≢ [] → more ≢ [] → log_in (head_text h ++ piece) ≡ Err (record { code = Torn; line = 2 })
torn_at_first h k is piece more has e some cut =
    let torn = base_torn h.agents k piece more has.first (base_is_short h (Some k) is has.short) e some cut in
    let l = head_line h in
    let both = length-append (head_text h) piece in
    let all = length-append (head_text h ++ base_text (Some k)) (flat_map increment_text is) in
    let front = length-append (head_text h) (base_text (Some k)) in
    let size = ap length e in
    let parts = length-append piece more in
    let low = has.short in
    short_read (head_text h ++ piece) (omega (arith, both, all, front, size, parts, low))
    ∙ ap (λ (x : Lines). log_of_lines x.lines x.rest) (ap lines_in (append_assoc l (10 ∷ []) piece) ∙ line_first l piece (head_lacks_feed h has.head))
    ∙ ap (λ r. at_log_line 1 r >>= λ h. log_below h (lines_in piece).lines (lines_in piece).rest) (head_written h has.head)
    ∙ base_end h (lines_in piece).lines (lines_in piece).rest torn

-- ---- torn in the head line

pub torn_in_head : (h : LogHead) (piece more : List ℕ) → IsLogHead h → head_text h ≡ piece ++ more → more ≢ [] → length piece ≤ 4_294_967_296 → log_in piece ≡ Err (record { code = BadHead; line = 1 })
torn_in_head h piece more is e some short =
    elim (first_broken (head_line h) [] piece more (head_lacks_feed h is) e) [
      | inl none ↦ without_line piece short (ap (λ ps. (lines_of_parts ps).lines) (cut_whole 10 piece none))
      | inr whole ↦ absurd (some (none_in_front whole.0 more whole.2))
    ]
