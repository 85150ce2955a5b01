-- Lines and the texts that they make: lines without line feeds come back, and their feeds count them.
use Rattle.std.proofs.Common.{◌≡◌, ℕ, ◌+◌, Bool, true, false, not, cond, List, [], ◌∷◌, ◌++◌, length, refl, sym, ap, ap₂, ◌∙◌, arith, append_assoc, append-nil}
use Rattle.std.specs.Prelude.{◌==◌}
use Rattle.std.specs.List.{list_all}
use Rattle.std.proofs.lemmas.Bool.{and_parts, and_from, not-true}
use Rattle.std.proofs.lemmas.List.Concat.{flat_map-append}
use Rattle.std.proofs.lemmas.List.Folds.{list_all-append}
use Rattle.std.proofs.lemmas.List.Sums.{sum_by-cons, sum_by-append}
use Rattle.metering_model.specs.Batch.{lacks}
use Rattle.metering_model.specs.BatchReading.{Lines, with_line, lines_of_parts, lines_in}
use Rattle.metering_model.specs.Transcript.{line, line_count}
use Rattle.metering_model.specs.Schedule.{TextLines, lines_text}
use Rattle.metering_model.proofs.FirstByte.{before, after, before_join, after_join}
use Rattle.metering_model.proofs.Splitting.{parts_at, parts_lack, cut_whole, cut_first, lines_of_text, lines_give_back}

-- no line has a line feed
abbrev pub are_whole : TextLines → Bool
are_whole ls = list_all (lacks 10) ls

pub lines_append : (ls ms : TextLines) → lines_text (ls ++ ms) ≡ lines_text ls ++ lines_text ms
lines_append ls ms = flat_map-append line ls ms

pub whole_both : (ls ms : TextLines) → are_whole ls ≡ true → are_whole ms ≡ true → are_whole (ls ++ ms) ≡ true
whole_both ls ms h k = list_all-append (lacks 10) ls ms ∙ and_from _ _ h k

pub whole_parts : (ls ms : TextLines) → are_whole (ls ++ ms) ≡ true → (are_whole ls ≡ true) × (are_whole ms ≡ true)
whole_parts ls ms h = and_parts (are_whole ls) (are_whole ms) (sym (list_all-append (lacks 10) ls ms) ∙ h)

-- a text has one list of lines
pub same_lines : (ls ms : TextLines) → are_whole ls ≡ true → are_whole ms ≡ true → lines_text ls ≡ lines_text ms → ls ≡ ms
same_lines ls ms h k e = ap (λ (x : Lines). x.lines) (sym (lines_of_text ls h) ∙ ap lines_in e ∙ lines_of_text ms k)

none_is_line : (l t : List ℕ) → [] ≡ line l ++ t → ⊥
none_is_line [] t e = cc
none_is_line (c ∷ cs) t e = cc

-- lines at the front of a text of lines are its first lines
pub front_of_lines : (ls ms : TextLines) (rest : List ℕ) → are_whole ls ≡ true → are_whole ms ≡ true → lines_text ms ≡ lines_text ls ++ rest →
    (ns : TextLines) × (ms ≡ ls ++ ns)
front_of_lines [] ms rest h k e = (ms, refl)
front_of_lines (l ∷ ls) [] rest h k e = absurd (none_is_line l (lines_text ls ++ rest) (e ∙ append_assoc (line l) (lines_text ls) rest))
front_of_lines (l ∷ ls) (m ∷ ms) rest h k e =
    let own = and_parts (lacks 10 l) (are_whole ls) h in
    let others = and_parts (lacks 10 m) (are_whole ms) k in
    let both : m ++ 10 ∷ lines_text ms ≡ l ++ 10 ∷ (lines_text ls ++ rest) =
    sym (append_assoc m (10 ∷ []) (lines_text ms)) ∙ e ∙ append_assoc (line l) (lines_text ls) rest ∙ append_assoc l (10 ∷ []) (lines_text ls ++ rest) in
    let first : m ≡ l = sym (before_join 10 m (lines_text ms) others.0) ∙ ap (before 10) both ∙ before_join 10 l (lines_text ls ++ rest) own.0 in
    let next : lines_text ms ≡ lines_text ls ++ rest =
    sym (after_join 10 m (lines_text ms) others.0) ∙ ap (after 10) both ∙ after_join 10 l (lines_text ls ++ rest) own.0 in
    let more = front_of_lines ls ms rest own.1 others.1 next in
    (more.0, ap₂ ◌∷◌ first more.1)

-- ---- lines of any text

lines_whole : (ps : TextLines) → are_whole ps ≡ true → are_whole (lines_of_parts ps).lines ≡ true
lines_whole [] h = refl
lines_whole (p ∷ []) h = refl
lines_whole (p ∷ q ∷ ps) h =
    let both = and_parts (lacks 10 p) (are_whole (q ∷ ps)) h in
    and_from _ _ both.0 (lines_whole (q ∷ ps) both.1)

pub lines_in_whole : (text : List ℕ) → are_whole (lines_in text).lines ≡ true
lines_in_whole text = lines_whole (parts_at 10 text) (parts_lack 10 text)

rest_lacks : (ps : TextLines) → are_whole ps ≡ true → lacks 10 (lines_of_parts ps).rest ≡ true
rest_lacks [] h = refl
rest_lacks (p ∷ []) h = (and_parts (lacks 10 p) (are_whole []) h).0
rest_lacks (p ∷ q ∷ ps) h = rest_lacks (q ∷ ps) (and_parts (lacks 10 p) (are_whole (q ∷ ps)) h).1

-- what stands behind the last line feed has none
pub rest_in_lacks : (text : List ℕ) → lacks 10 (lines_in text).rest ≡ true
rest_in_lacks text = rest_lacks (parts_at 10 text) (parts_lack 10 text)

cut_lines_and_rest : (ls : TextLines) (r : List ℕ) → are_whole ls ≡ true → lacks 10 r ≡ true → parts_at 10 (lines_text ls ++ r) ≡ ls ++ r ∷ []
cut_lines_and_rest [] r h k = cut_whole 10 r k
cut_lines_and_rest (l ∷ ls) r h k =
    let both = and_parts (lacks 10 l) (are_whole ls) h in
    ap (parts_at 10) (append_assoc (line l) (lines_text ls) r ∙ append_assoc l (10 ∷ []) (lines_text ls ++ r))
    ∙ cut_first 10 l (lines_text ls ++ r) both.0
    ∙ ap (λ ps. l ∷ ps) (cut_lines_and_rest ls r both.1 k)

parts_and_rest : (ls : TextLines) (r : List ℕ) → lines_of_parts (ls ++ r ∷ []) ≡ record { lines = ls; rest = r }
parts_and_rest [] r = refl
parts_and_rest (l ∷ []) r = refl
parts_and_rest (l ∷ m ∷ ls) r = ap (with_line l) (parts_and_rest (m ∷ ls) r)

-- lines and a text without a line feed behind them come back
pub lines_and_rest : (ls : TextLines) (r : List ℕ) → are_whole ls ≡ true → lacks 10 r ≡ true → lines_in (lines_text ls ++ r) ≡ record { lines = ls; rest = r }
lines_and_rest ls r h k = ap lines_of_parts (cut_lines_and_rest ls r h k) ∙ parts_and_rest ls r

-- the lines of a text that begins with lines
pub lines_before : (ls : TextLines) (text : List ℕ) → are_whole ls ≡ true → (lines_in (lines_text ls ++ text)).lines ≡ ls ++ (lines_in text).lines
lines_before ls text h =
    let ms = (lines_in text).lines in
    let r = (lines_in text).rest in
    let same : lines_text ls ++ text ≡ lines_text (ls ++ ms) ++ r =
    ap (λ t. lines_text ls ++ t) (sym (lines_give_back text)) ∙ sym (append_assoc (lines_text ls) (lines_text ms) r) ∙ ap (λ t. t ++ r) (sym (lines_append ls ms)) in
    ap (λ t. (lines_in t).lines) same
    ∙ ap (λ (x : Lines). x.lines) (lines_and_rest (ls ++ ms) r (whole_both ls ms h (lines_in_whole text)) (rest_in_lacks text))

-- a text with nothing behind its last line feed is its lines
pub is_its_lines : (text : List ℕ) → (lines_in text).rest ≡ [] → text ≡ lines_text (lines_in text).lines
is_its_lines text e =
    let ls = (lines_in text).lines in
    sym (lines_give_back text) ∙ ap (λ r. lines_text ls ++ r) e ∙ append-nil (lines_text ls)

-- ---- counting

no_feed_counts : (t : List ℕ) → lacks 10 t ≡ true → line_count t ≡ 0
no_feed_counts [] h = refl
no_feed_counts (c ∷ cs) h =
    let both = and_parts (not (c == 10)) (lacks 10 cs) h in
    sum_by-cons (λ x. cond (x == 10) 1 0) c cs ∙ ap₂ ◌+◌ (ap (λ b. cond b 1 0) (not-true _ both.0)) (no_feed_counts cs both.1)

pub line_count_is : (ls : TextLines) → are_whole ls ≡ true → line_count (lines_text ls) ≡ length ls
line_count_is [] h = refl
line_count_is (l ∷ ls) h =
    let both = and_parts (lacks 10 l) (are_whole ls) h in
    let one = sum_by-append (λ x. cond (x == 10) 1 0) l (10 ∷ []) in
    let all = sum_by-append (λ x. cond (x == 10) 1 0) (line l) (lines_text ls) in
    let none = no_feed_counts l both.0 in
    let rest = line_count_is ls both.1 in
    omega (arith, one, all, none, rest)

-- ---- a line's first byte

abbrev pub begins_with : ℕ → List ℕ → Bool
begins_with c [] = false
begins_with c (x ∷ xs) = x == c

pub begins_not : (c : ℕ) (s t : List ℕ) → begins_with c s ≡ false → begins_with c t ≡ false → begins_with c (s ++ t) ≡ false
begins_not c [] t h k = k
begins_not c (x ∷ xs) t h k = h
