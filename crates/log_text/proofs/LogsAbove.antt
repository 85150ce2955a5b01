-- What stands above where a text is torn is a log.
use Rattle.std.proofs.Common.{◌≡◌, ◌≢◌, ℕ, zero, suc, ◌+◌, ◌≤◌, ◌⊎◌, inl, inr, Bool, true, false, cond, List, [], ◌∷◌, ◌++◌, length, flat_map, Option, Some, None, Result, Ok, Err, ok_or, codes, refl, sym, ap, ap₂, ◌∙◌, subst, arith, leb-true, append_assoc, length-append}
use Rattle.std.specs.Prelude.{nat_le}
use Rattle.std.proofs.lemmas.Bool.{true≢false}
use Rattle.std.proofs.lemmas.Option.{none-some}
use Rattle.metering_model.specs.FirstFailure.{◌>>=◌, holds_or}
use Rattle.metering_model.specs.Batch.{is_empty}
use Rattle.metering_model.specs.BatchReading.{Lines, fields_in, is_same, lines_in, whole_in}
use Rattle.metering_model.specs.KeptText.{KeptAmong, text_of_lines}
use Rattle.metering_model.proofs.KeptLines.{held_true}
use Rattle.metering_model.proofs.Splitting.{ended, lines_give_back, lines_of_text}
use Rattle.packet_text.specs.PacketText.{is_group}
use Rattle.log_text.specs.LogText.{BadHead, BadIncrement, ReadBase, GoOn, HasLog, Increment, IsLogHead, KeptThere, LogCode, LogHead, LogTextFault, TooLong, Torn, among_with, at_log_line, base_text, first_increment, base_in, goes_on}
use Rattle.log_text.specs.LogText.{head_in, head_text, increment_text, increments_in, is_among, kept_at_first, lines_of_increment, log_below, log_in, log_of_lines, log_text, section_in, who_in}
use Rattle.log_text.proofs.HeadLaws.{head_line, head_read}
use Rattle.log_text.proofs.IncrementLaws.{first_read}
use Rattle.log_text.proofs.LogLaws.{AreFew, AreBaseLines, MayBeFirst, at_log_line_ok, base_lines, first_agents, base_by_section, base_read, increment_lines, increments_read, lines_are_short, lines_on, log_end, log_lacks_feed, log_lines, log_lines_text}

-- ---- steps that failed

err_same : {A E : Type 0} (x y : E) → ◌≡◌ {A = Result A E} (Err x) (Err y) → x ≡ y
err_same x y h = cc

step_err : {A B E : Type 0} (r : Result A E) (f : A → Result B E) (e : E) → (r >>= f) ≡ Err e → (r ≡ Err e) ⊎ ((x : A) × (r ≡ Ok x) × (f x ≡ Err e))
step_err (Ok x) f e h = inr (x, refl, h)
step_err (Err c) f e h = inl (ap Err (err_same c e h))

at_line_err : {A : Type 0} (line : ℕ) (r : Result A LogCode) (f : LogTextFault) → at_log_line line r ≡ Err f → (r ≡ Err f.code) × (f.line ≡ line)
at_line_err line (Ok x) f h = absurd (cc)
at_line_err line (Err c) f h =
    let same = err_same (record { code = c; line = line }) f h in
    (ap (λ (g : LogTextFault). Err g.code) same, ap (λ (g : LogTextFault). g.line) (sym same))

not_held : {E : Type 0} (b : Bool) (e c : E) → holds_or b e ≡ Err c → (b ≡ false) × (e ≡ c)
not_held true e c h = absurd (cc)
not_held false e c h = (refl, err_same e c h)

-- a step that had to find something, or whose test had to hold, fails with its code
some_fails : {A B E : Type 0} (o : Option A) (code : E) (f : A → Result B E) (c : E) → ((x : A) → f x ≡ Err c → c ≡ code) → (ok_or o code >>= f) ≡ Err c → c ≡ code
some_fails (Some x) code f c later h = later x h
some_fails None code f c later h = sym (err_same code c h)

test_fails : {B E : Type 0} (b : Bool) (code : E) (f : Unit {0} → Result B E) (c : E) → (f tt ≡ Err c → c ≡ code) → (holds_or b code >>= f) ≡ Err c → c ≡ code
test_fails true code f c later h = later h
test_fails false code f c later h = sym (err_same code c h)

head_fails : (fs : List (List ℕ)) (c : LogCode) → head_in fs ≡ Err c → c ≡ BadHead
head_fails (version ∷ group ∷ word ∷ number ∷ voters ∷ observers ∷ agents ∷ []) c h =
    test_fails (is_same version (codes "G1")) BadHead _ c
    (test_fails (is_group group) BadHead _ c
    (some_fails (who_in word number) BadHead _ c (λ who.
    some_fails (whole_in 1 99 voters) BadHead _ c (λ v.
    some_fails (whole_in 0 99 observers) BadHead _ c (λ o.
    some_fails (whole_in 1 64 agents) BadHead _ c (λ a.
    test_fails (nat_le (v + o) 99) BadHead _ c
    (test_fails (is_among who (v + o) a) BadHead _ c (λ h. absurd (cc))))))))) h
head_fails fs c h = sym (err_same BadHead c h)

head_is_not_torn : BadHead ≢ Torn
head_is_not_torn h = cc

increment_is_not_torn : BadIncrement ≢ Torn
increment_is_not_torn h = cc

length_is_not_torn : TooLong ≢ Torn
length_is_not_torn h = cc

abbrev torn_at : ℕ → LogTextFault
torn_at line = record { code = Torn; line = line }

some_bytes : (t : List ℕ) → 1 ≤ length t → t ≢ []
some_bytes t low e = let none = ap length e in omega (arith, low, none)

-- ---- increments

-- the first lines are those of increments, and others stand behind them, at that line
abbrev IncrementsAbove : KeptAmong → ℕ → List (List ℕ) → ℕ → Type 0
IncrementsAbove k line ls at =
    (is : List Increment) × (behind : List (List ℕ)) × (text_of_lines ls ≡ flat_map increment_text is ++ text_of_lines behind) × GoOn k is × (at ≡ line + length (increment_lines is)) × (1 ≤ length behind)

increments_torn : (m line : ℕ) (k : KeptAmong) (ls : List (List ℕ)) (at : ℕ) → AreFew k.agents → increments_in m line k ls ≡ Err (torn_at at) → IncrementsAbove k line ls at
increments_torn zero line k [] at few h = absurd (cc)
increments_torn (suc m) line k [] at few h = absurd (cc)
increments_torn zero line k (l ∷ ls) at few h = absurd (increment_is_not_torn (ap (λ (f : LogTextFault). f.code) (err_same (record { code = BadIncrement; line = line }) (torn_at at) h)))
increments_torn (suc m) line k (l ∷ ls) at few h = elim (step_err (at_log_line line (first_increment k.agents l ls)) (λ one. at_log_line line (holds_or (goes_on one.0 k) BadIncrement) >>= λ _. increments_in m (line + lines_of_increment one.0) (among_with one.0 k) one.1) (torn_at at) h) [
  | inl first ↦ let here = (at_line_err line (first_increment k.agents l ls) (torn_at at) first).1 in ([], l ∷ ls, refl, tt, omega (arith, here), omega arith)
  | inr more ↦
      later (λ one e. increments_torn m (line + lines_of_increment one.0) (among_with one.0 k) one.1 at few e) more.0 (at_log_line_ok line (first_increment k.agents l ls) more.0 more.1) more.2
]
  where
    later : ((one : Increment × List (List ℕ)) → increments_in m (line + lines_of_increment one.0) (among_with one.0 k) one.1 ≡ Err (torn_at at) → IncrementsAbove (among_with one.0 k) (line + lines_of_increment one.0) one.1 at)
        → (one : Increment × List (List ℕ)) → first_increment k.agents l ls ≡ Ok one → (at_log_line line (holds_or (goes_on one.0 k) BadIncrement) >>= λ _. increments_in m (line + lines_of_increment one.0) (among_with one.0 k) one.1) ≡ Err (torn_at at)
        → IncrementsAbove k line (l ∷ ls) at
    later behind one is h =
        let test = goes_on one.0 k in
        elim (step_err (at_log_line line (holds_or test BadIncrement)) (λ _. increments_in m (line + lines_of_increment one.0) (among_with one.0 k) one.1) (torn_at at) h) [
          | inl failed ↦ absurd (increment_is_not_torn (not_held test BadIncrement Torn (at_line_err line (holds_or test BadIncrement) (torn_at at) failed).0).1)
          | inr on ↦
              let first = first_read k.agents l ls one few is in
              let rest = behind one on.2 in
              let goes = held_true test BadIncrement on.0 (at_log_line_ok line (holds_or test BadIncrement) on.0 on.1) in (
                one.0 ∷ rest.0,
                rest.1,
                first.0 ∙ ap (λ t. increment_text one.0 ++ t) rest.2 ∙ sym (append_assoc (increment_text one.0) (flat_map increment_text rest.0) (text_of_lines rest.1)),
                (first.1, goes, rest.3),
                lines_on line at one.0 rest.0 rest.4,
                rest.5,
              )
        ]

-- ---- the whole

-- a log stands above, and what is torn behind it, at that line
abbrev pub IsTornBelow : List ℕ → ℕ → Type 0
IsTornBelow text line =
    (h : LogHead) × (base : Option KeptAmong) × (increments : List Increment) × (piece : List ℕ) × HasLog h base increments × (text ≡ log_text h base increments ++ piece) × (piece ≢ [])
    × (line ≡ 1 + length (lines_in (log_text h base increments)).lines)

-- a log's lines, and others behind them
above_by : (h : LogHead) (base : Option KeptAmong) (is : List Increment) (l : List ℕ) (ls : List (List ℕ)) (rest piece : List ℕ) (at : ℕ) → l ≡ head_line h → IsLogHead h → MayBeFirst h.agents base → GoOn (kept_at_first h base) is
    → text_of_lines ls ++ rest ≡ (base_text base ++ flat_map increment_text is) ++ piece → piece ≢ [] → length (text_of_lines (l ∷ ls) ++ rest) ≤ 4_294_967_296 → at ≡ 2 + length (base_lines base) + length (increment_lines is)
    → IsTornBelow (text_of_lines (l ∷ ls) ++ rest) at
above_by h base is l ls rest piece at first head may go below some short line =
    let incs = flat_map increment_text is in
    let parts : head_text h ++ ((base_text base ++ incs) ++ piece) ≡ log_text h base is ++ piece =
    sym (append_assoc (head_text h) (base_text base ++ incs) piece) ∙ ap (λ t. t ++ piece) (sym (append_assoc (head_text h) (base_text base) incs)) in
    let whole = append_assoc (ended l) (text_of_lines ls) rest ∙ ap₂ (λ t u. ended t ++ u) first below ∙ parts in
    let size = ap length whole in
    let both = length-append (log_text h base is) piece in
    let has : HasLog h base is = record { head = head; first = may; go_on = go; short = omega (arith, short, size, both) } in
    let count = ap (λ t. length (lines_in t).lines) (sym (log_lines_text h base is)) ∙ ap (λ (x : Lines). length x.lines) (lines_of_text (log_lines h base is) (log_lacks_feed h base is has)) in
    let all = length-append (base_lines base) (increment_lines is) in
    (h, base, is, piece, has, whole, some, omega (arith, line, count, all))

-- a fault of what a log begins with is told at the line 2
first_fails : (agents : ℕ) (ls : List (List ℕ)) (f : LogTextFault) → base_in agents ls ≡ Err f → (f.line ≡ 2) × (1 ≤ length ls)
first_fails agents [] f h = absurd (cc)
first_fails agents (l ∷ ls) f h = (by_section (section_in (codes "kept ") 4_294_967_295 l) h, omega arith)
  where
    by_section : (o : Option ℕ) → base_by_section agents l ls o ≡ Err f → f.line ≡ 2
    by_section None h = absurd (cc)
    by_section (Some n) h = (at_line_err 2 _ f h).1

below_torn : (h : LogHead) (l : List ℕ) (ls : List (List ℕ)) (rest : List ℕ) (at : ℕ) → l ≡ head_line h → IsLogHead h → length (text_of_lines (l ∷ ls) ++ rest) ≤ 4_294_967_296 → log_below h ls rest ≡ Err (torn_at at)
    → IsTornBelow (text_of_lines (l ∷ ls) ++ rest) at
below_torn h l ls rest at line head short e = elim (step_err (base_in h.agents ls) (λ first. increments_in (length first.left) first.line first.kept first.left >>= log_end h rest) (torn_at at) e) [
  | inl failed ↦
      let is = first_fails h.agents ls (torn_at at) failed in
      let here = is.0 in
      let some = is.1 in
      let bytes = lines_are_short ls in
      let all = length-append (text_of_lines ls) rest in
      above_by h None [] l ls rest (text_of_lines ls ++ rest) at line head (λ k e. absurd (none-some k e)) tt refl (some_bytes (text_of_lines ls ++ rest) (omega (arith, some, bytes, all))) short (omega (arith, here))
  | inr read ↦ later read.0 (base_read h.agents ls read.0 read.1) read.2
]
  where
    later : (first : ReadBase) → AreBaseLines h.agents ls first → (increments_in (length first.left) first.line first.kept first.left >>= log_end h rest) ≡ Err (torn_at at) → IsTornBelow (text_of_lines (l ∷ ls) ++ rest) at
    later first kept e =
        let base = kept.0 in
        let left = first.left in
        let agents = ap (λ (k : KeptAmong). k.agents) kept.1 ∙ first_agents h.agents base kept.3 in
        let few = subst AreFew (sym agents) head.agents in
        let start = kept.4 in
        elim (step_err (increments_in (length left) first.line first.kept left) (log_end h rest) (torn_at at) e) [
          | inl failed ↦
              let above = increments_torn (length left) first.line first.kept left at few failed in
              let is = above.0 in
              let behind = text_of_lines above.1 in
              let here = above.4 in
              let some = above.5 in
              let bytes = lines_are_short above.1 in
              let all = length-append behind rest in
              let incs = flat_map increment_text is in
              let parts = ap (λ t. t ++ rest) (sym (append_assoc (base_text base) incs behind)) ∙ append_assoc (base_text base ++ incs) behind rest in
              above_by h base is l ls rest (behind ++ rest) at line head kept.3 (subst (λ k. GoOn k is) kept.1 above.3) (ap (λ t. t ++ rest) (kept.2 ∙ ap (λ t. base_text base ++ t) above.2) ∙ parts)
              (some_bytes (behind ++ rest) (omega (arith, some, bytes, all))) short (omega (arith, here, start))
          | inr read ↦
              let last = read.0 in
              let all = increments_read (length left) first.line first.kept left last few read.1 in
              let is = all.0 in
              let end = last_fails last read.2 in
              let here = end.0 in
              let there = all.4 in
              above_by h base is l ls rest rest at line head kept.3 (subst (λ k. GoOn k is) kept.1 all.2) (ap (λ t. t ++ rest) (kept.2 ∙ ap (λ t. base_text base ++ t) all.1)) end.1 short (omega (arith, here, there, start))
        ]
      where
        last_fails : (last : KeptThere) → log_end h rest last ≡ Err (torn_at at) → (at ≡ last.line) × (rest ≢ [])
        last_fails last e = elim (step_err (at_log_line last.line (holds_or (is_empty rest) Torn)) (λ _. Ok (record { head = h; kept = last.kept })) (torn_at at) e) [
          | inl failed ↦
              let is = at_line_err last.line (holds_or (is_empty rest) Torn) (torn_at at) failed in
              let full = (not_held (is_empty rest) Torn Torn is.0).0 in
              (is.1, λ none. true≢false (sym (ap is_empty none) ∙ full))
          | inr more ↦ absurd (cc)
        ]

lines_torn : (ls : List (List ℕ)) (rest : List ℕ) (at : ℕ) → length (text_of_lines ls ++ rest) ≤ 4_294_967_296 → log_of_lines ls rest ≡ Err (torn_at at) → IsTornBelow (text_of_lines ls ++ rest) at
lines_torn [] rest at short e = absurd (head_is_not_torn (ap (λ (f : LogTextFault). f.code) (err_same (record { code = BadHead; line = 1 }) (torn_at at) e)))
lines_torn (l ∷ ls) rest at short e =
    let fs = fields_in l in
    elim (step_err (at_log_line 1 (head_in fs)) (λ h. log_below h ls rest) (torn_at at) e) [
      | inl failed ↦ absurd (head_is_not_torn (sym (head_fails fs Torn (at_line_err 1 (head_in fs) (torn_at at) failed).0)))
      | inr read ↦
          let is = head_read l read.0 (at_log_line_ok 1 (head_in fs) read.0 read.1) in
          below_torn read.0 l ls rest at is.0 is.1 short read.2
    ]

-- what was answered after a test
not_tested : {A : Type 0} (b : Bool) (e : LogTextFault) (r : Result A LogTextFault) (f : LogTextFault) → cond b r (Err e) ≡ Err f → ((b ≡ true) × (r ≡ Err f)) ⊎ (e ≡ f)
not_tested true e r f h = inl (refl, h)
not_tested false e r f h = inr (err_same e f h)

pub torn_below : (text : List ℕ) (line : ℕ) → log_in text ≡ Err (record { code = Torn; line = line }) → IsTornBelow text line
unfolding log_in
torn_below text line h =
    let ls = lines_in text in
    let whole = lines_give_back text in
    elim (not_tested (nat_le (length text) 4_294_967_296) (record { code = TooLong; line = 1 }) (log_of_lines ls.lines ls.rest) (torn_at line) h) [
      | inl read ↦ subst (λ t. IsTornBelow t line) whole (lines_torn ls.lines ls.rest line (subst (λ t. length t ≤ 4_294_967_296) (sym whole) (leb-true _ _ read.0)) read.1)
      | inr long ↦ absurd (length_is_not_torn (ap (λ (f : LogTextFault). f.code) long))
    ]
