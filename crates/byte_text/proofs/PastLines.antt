-- Behind so many lines of a text.
use Rattle.std.proofs.Common.{◌≡◌, ℕ, zero, suc, ◌+◌, ◌≤◌, ◌<◌, ◌==◌, true, List, [], ◌∷◌, ◌++◌, length, take, drop, Some, None, refl, sym, ap, ap₂, ◌∙◌, arith, length-drop, length-take, append_assoc, get_or}
use Rattle.std.specs.List.{position, list_all}
use Rattle.std.proofs.lemmas.Bool.{and_parts, and_from}
use Rattle.std.proofs.lemmas.List.{drop-drop, length-append, length-take-le, take-append-drop}
use Rattle.std.proofs.lemmas.List.Splits.{length-slice_split}
use Rattle.std.proofs.Math.Seq.{take-append-add, take-append_seam}
use Rattle.metering_model.specs.Batch.{lacks}
use Rattle.metering_model.specs.BatchReading.{lines_in, lines_of_parts, with_line}
use Rattle.metering_model.specs.Schedule.{lines_text}
use Rattle.metering_model.proofs.Splitting.{parts_at, parts_lack, cut_first, lines_give_back}
use Rattle.byte_text.specs.Lines.{IsPast}
use Rattle.byte_text.proofs.LineLemmas.{first_of_parts, lines_at_feed, lines_without_feed}

pub past_none : (text : List ℕ) → IsPast text 0 0
past_none text = record { within = omega arith; enough = omega arith; feeds = omega arith; lines = refl; place = refl }

-- one more line is taken
taken_next : (n : ℕ) (ls : List (List ℕ)) (l : List ℕ) (rest : List (List ℕ)) → drop n ls ≡ l ∷ rest
    → (suc n ≤ length ls) × (drop (suc n) ls ≡ rest) × (length (lines_text (take (suc n) ls)) ≡ length (lines_text (take n ls)) + length l + 1)
taken_next zero [] l rest e = absurd (omega (arith, ap length e))
taken_next zero (x ∷ xs) l rest e =
    let long : length (lines_text (x ∷ [])) ≡ length x + 1 = length-append (x ++ 10 ∷ []) [] ∙ omega (arith, length-append x (10 ∷ [])) in
    (omega arith, ap (drop 1) e, omega (arith, long, ap (λ ys. length (get_or ys 0 l)) e))
taken_next (suc n) [] l rest e = absurd (omega (arith, ap length e))
taken_next (suc n) (x ∷ xs) l rest e =
    let more = taken_next n xs l rest e in
    let now = length-append (x ++ 10 ∷ []) (lines_text (take (suc n) xs)) in
    let before = length-append (x ++ 10 ∷ []) (lines_text (take n xs)) in
    (omega (arith, more.0), more.1, omega (arith, now, before, more.2))

pub past_next : (text : List ℕ) (count at i : ℕ) → IsPast text count at → position (λ c. c == 10) (drop at text) ≡ Some i
    → IsPast text (suc count) (at + (i + 1))
past_next text count at i here found =
    let feed = lines_at_feed (drop at text) i found in
    let ls = (lines_in text).lines in
    let behind : drop (i + 1) (drop at text) ≡ drop (at + (i + 1)) text = drop-drop (i + 1) at text ∙ ap (λ n. drop n text) (omega arith) in
    let next = taken_next count ls (take i (drop at text)) (lines_in (drop (i + 1) (drop at text))).lines (sym here.lines ∙ ap (λ x. x.lines) feed.1) in
    let long : length (take i (drop at text)) ≡ i = length-take-le i (drop at text) (omega (arith, feed.0)) in
    record {
      within = omega (arith, feed.0, length-drop at text, here.within);
      enough = next.0;
      feeds = omega (arith, here.feeds);
      lines = ap (λ t. (lines_in t).lines) (sym behind) ∙ sym next.1;
      place = omega (arith, here.place, next.2, long);
    }

-- where no line is left, there were no more
pub past_end : (text : List ℕ) (count at : ℕ) → IsPast text count at → position (λ c. c == 10) (drop at text) ≡ None
    → length (lines_in text).lines ≡ count
past_end text count at here none =
    let ls = (lines_in text).lines in
    let empty = sym here.lines ∙ ap (λ x. x.lines) (lines_without_feed (drop at text) none) in
    omega (arith, ap length empty, length-drop count ls, here.enough)

front_of_lines : (n : ℕ) (ls : List (List ℕ)) (rest : List ℕ) → take (length (lines_text (take n ls))) (lines_text ls ++ rest) ≡ lines_text (take n ls)
front_of_lines zero ls rest = refl
front_of_lines (suc n) [] rest = refl
front_of_lines (suc n) (x ∷ xs) rest =
    let l = x ++ 10 ∷ [] in
    let front = lines_text (take n xs) in
    ap₂ take (length-append l front) (append_assoc l (lines_text xs) rest)
    ∙ take-append-add l (lines_text xs ++ rest) (length front)
    ∙ ap (λ t. l ++ t) (front_of_lines n xs rest)

-- the text up to there is that of the lines
pub text_of_front : (n : ℕ) (t : List ℕ) → take (length (lines_text (take n (lines_in t).lines))) t ≡ lines_text (take n (lines_in t).lines)
text_of_front n t =
    ap (take (length (lines_text (take n (lines_in t).lines)))) (sym (lines_give_back t))
    ∙ front_of_lines n (lines_in t).lines (lines_in t).rest

-- ---- lines at the front of a text

-- what stands behind whole lines is cut into lines by itself
pub lines_behind : (ls : List (List ℕ)) (rest : List ℕ) → list_all (lacks 10) ls ≡ true → lines_in (lines_text ls ++ rest) ≡ record { lines = ls ++ (lines_in rest).lines; rest = (lines_in rest).rest }
lines_behind [] rest h = refl
lines_behind (l ∷ ls) rest h =
    let both = and_parts (lacks 10 l) (list_all (lacks 10) ls) h in
    let more = lines_text ls ++ rest in
    let joined : lines_text (l ∷ ls) ++ rest ≡ l ++ 10 ∷ more = append_assoc (l ++ 10 ∷ []) (lines_text ls) rest ∙ append_assoc l (10 ∷ []) more in
    ap lines_in joined ∙ ap lines_of_parts (cut_first 10 l more both.0) ∙ first_of_parts l (parts_at 10 more) (some_parts more) ∙ ap (with_line l) (lines_behind ls rest both.1)
  where
    some_parts : (t : List ℕ) → 0 < length (parts_at 10 t)
    some_parts t = let size = length-slice_split (λ (c : ℕ). c == 10) t in omega (arith, size)

-- the lines of a text have no line feed
pub lines_lack : (text : List ℕ) → list_all (lacks 10) (lines_in text).lines ≡ true
lines_lack text = of_parts (parts_at 10 text) (parts_lack 10 text)
  where
    of_parts : (ps : List (List ℕ)) → list_all (lacks 10) ps ≡ true → list_all (lacks 10) (lines_of_parts ps).lines ≡ true
    of_parts [] h = refl
    of_parts (p ∷ []) h = refl
    of_parts (p ∷ q ∷ ps) h =
        let both = and_parts (lacks 10 p) (list_all (lacks 10) (q ∷ ps)) h in
        and_from _ _ both.0 (of_parts (q ∷ ps) both.1)

some_lack : (n : ℕ) (ls : List (List ℕ)) → list_all (lacks 10) ls ≡ true → list_all (lacks 10) (take n ls) ≡ true
some_lack zero ls h = refl
some_lack (suc n) [] h = refl
some_lack (suc n) (l ∷ ls) h =
    let both = and_parts (lacks 10 l) (list_all (lacks 10) ls) h in
    and_from _ _ both.0 (some_lack n ls both.1)

-- the bytes of the first lines
abbrev pub front_length : ℕ → List ℕ → ℕ
front_length n text = length (lines_text (take n (lines_in text).lines))

-- whatever stands behind the first lines of a text, they are the first lines
pub same_front : (n : ℕ) (text rest : List ℕ) → lines_in (take (front_length n text) text ++ rest) ≡ record { lines = take n (lines_in text).lines ++ (lines_in rest).lines; rest = (lines_in rest).rest }
same_front n text rest =
    let first = take n (lines_in text).lines in
    ap (λ t. lines_in (t ++ rest)) (text_of_front n text) ∙ lines_behind first rest (some_lack n (lines_in text).lines (lines_lack text))

-- the lines from there on are the others
pub other_lines : (n : ℕ) (text : List ℕ) → (lines_in text).lines ≡ take n (lines_in text).lines ++ (lines_in (drop (front_length n text) text)).lines
other_lines n text =
    let k = front_length n text in
    ap (λ t. (lines_in t).lines) (sym (take-append-drop k text)) ∙ ap (λ ls. ls.lines) (same_front n text (drop k text))

pub other_rest : (n : ℕ) (text : List ℕ) → (lines_in (drop (front_length n text) text)).rest ≡ (lines_in text).rest
other_rest n text =
    let k = front_length n text in
    sym (ap (λ t. (lines_in t).rest) (sym (take-append-drop k text)) ∙ ap (λ ls. ls.rest) (same_front n text (drop k text)))

-- Of two texts that go on in whatever way behind the same first lines each has these.
pub record HasFront (n : ℕ) (text other : List ℕ) : Type 0 where
  pub enough : n ≤ length (lines_in other).lines
  pub first : take n (lines_in other).lines ≡ take n (lines_in text).lines

pub has_front : (n : ℕ) (text rest : List ℕ) → n ≤ length (lines_in text).lines → HasFront n text (take (front_length n text) text ++ rest)
has_front n text rest enough =
    let first = take n (lines_in text).lines in
    let long : length first ≡ n = length-take-le n (lines_in text).lines enough in
    let is = ap (λ ls. ls.lines) (same_front n text rest) in
    record {
      enough = omega (arith, ap length is, length-append first (lines_in rest).lines, long);
      first = ap (take n) is ∙ ap (λ k. take k (first ++ (lines_in rest).lines)) (sym long) ∙ take-append_seam first (lines_in rest).lines;
    }

-- more lines are no shorter
pub longer_front : (n m : ℕ) (ls : List (List ℕ)) → n ≤ m → length (lines_text (take n ls)) ≤ length (lines_text (take m ls))
longer_front zero m ls low = omega arith
longer_front (suc n) zero ls low = absurd (omega (arith, low))
longer_front (suc n) (suc m) [] low = omega arith
longer_front (suc n) (suc m) (l ∷ ls) low =
    let rest = longer_front n m ls (omega (arith, low)) in
    omega (arith, rest, length-append (l ++ 10 ∷ []) (lines_text (take n ls)), length-append (l ++ 10 ∷ []) (lines_text (take m ls)))

pub front_within : (n : ℕ) (text : List ℕ) → front_length n text ≤ length text
front_within n text = let same = ap length (text_of_front n text) in omega (arith, same, length-take (front_length n text) text)
