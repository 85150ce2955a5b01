-- The batch at the front of a kept text: how far it goes, and what is read of it.
use Rattle.std.proofs.Common.{◌≡◌, ℕ, zero, suc, ◌+◌, ◌≤◌, ◌&&◌, Bool, true, false, cond, List, [], ◌∷◌, ◌++◌, length, take, drop, Some, None, Result, Ok, Err, refl, sym, ap, ap₂, subst, ◌∙◌, arith, length-take, get_or, nat_le, le-leb, leb-true}
use Rattle.std.specs.List.{list_all}
use Rattle.std.specs.Option.{option_map, option_and_then}
use Rattle.std.specs.Result.{result_ok}
use Rattle.std.proofs.Math.Seq.{drop-append_seam}
use Rattle.std.proofs.lemmas.Bool.{and_from, and_parts, cond-true}
use Rattle.std.proofs.lemmas.List.{length-map, length-take-le}
use Rattle.std.proofs.lemmas.Option.{same_Some, none-some}
use Rattle.metering_model.specs.FirstFailure.{◌>>=◌}
use Rattle.metering_model.specs.Batch.{Batch, lacks}
use Rattle.metering_model.specs.BatchReading.{HeadLine, Lines, head_in, fields_in, lines_in, batch_in}
use Rattle.metering_model.specs.declared.BatchCode.{BatchCode}
use Rattle.metering_model.specs.declared.BatchFault.{BatchFault}
use Rattle.metering_model.specs.declared.KeptCode.{KeptCode}
use Rattle.metering_model.specs.declared.KeptCode.TheVariants.{Batch as NoBatch}
use Rattle.metering_model.specs.KeptText.{at_kept_line, or_code, next_batch, text_of_lines}
use Rattle.metering_model.specs.Schedule.{lines_text}
use Rattle.metering_model.proofs.StepLaws.{ok_same}
use Rattle.metering_model.proofs.Splitting.{lines_of_text}
use Rattle.metering_model.proofs.LineLaws.{HeadLimits, head_line, head_written, head_lacks_feed, record_line, records_lack_feed}
use Rattle.metering_model.proofs.BatchLaws.{head_of, batch_lines, lines_are_text, batch_read}
use Rattle.byte_text.proofs.PastLines.{front_length, front_within, lines_lack, other_lines, other_rest, text_of_front}
use Rattle.batch_store.specs.Extents.{counted, batch_length, extent_in}
use Rattle.node_kept.specs.Inner.Left.{IsNextOf}

-- ---- a batch has as many lines as its head line counts

counts_right : (l : List ℕ) (ls : List (List ℕ)) (head : HeadLine) (b : Batch) → list_all (lacks 10) (l ∷ ls) ≡ true → head_in (fields_in l) ≡ Ok head → batch_in (text_of_lines (l ∷ ls)) ≡ Ok b → head.count ≡ length ls
counts_right l ls head b lack is_head is_batch =
    let text = text_of_lines (l ∷ ls) in
    let is = batch_read text b is_batch in
    let limits : HeadLimits (head_of b) = record { agent = is.agent; seq = is.seq; count = is.count } in
    let feeds = and_from _ _ (head_lacks_feed (head_of b) limits) (records_lack_feed b.records is.records) in
    let own = ap lines_in (is.joined ∙ sym (lines_are_text b)) ∙ lines_of_text (batch_lines b) feeds in
    let same : l ∷ ls ≡ batch_lines b = ap (λ (x : Lines). x.lines) (sym (lines_of_text (l ∷ ls) lack) ∙ own) in
    let first : l ≡ head_line (head_of b) = ap (λ xs. get_or xs 0 l) same in
    let heads : head ≡ head_of b = ok_same {E = BatchCode} head (head_of b) (sym is_head ∙ ap (λ t. head_in (fields_in t)) first ∙ head_written (head_of b) limits) in
    let count : head.count ≡ length b.records = ap (λ (h : HeadLine). h.count) heads in
    omega (arith, count, ap length same, length-map b.records record_line)

-- ---- where no batch comes first

-- the first of some lines have no line feed where none has
first_lack : (n : ℕ) (ls : List (List ℕ)) → list_all (lacks 10) ls ≡ true → list_all (lacks 10) (take n ls) ≡ true
first_lack zero ls h = refl
first_lack (suc n) [] h = refl
first_lack (suc n) (l ∷ ls) h =
    let both = and_parts (lacks 10 l) (list_all (lacks 10) ls) h in
    and_from _ _ both.0 (first_lack n ls both.1)

-- as many lines as are counted, in few bytes, have a length
fits : (l : List ℕ) (ls : List (List ℕ)) (n : ℕ) → n ≤ length ls → length (text_of_lines (l ∷ take n ls)) ≤ 65_536 → batch_length (l ∷ ls) (n + 1) ≡ Some (length (lines_text (take (n + 1) (l ∷ ls))))
fits l ls n enough short =
    let next : n + 1 ≡ suc n = omega arith in
    let same : length (lines_text (take (n + 1) (l ∷ ls))) ≡ length (text_of_lines (l ∷ take n ls)) = ap (λ k. length (lines_text (take k (l ∷ ls)))) next in
    let many : n + 1 ≤ length (l ∷ ls) = omega (arith, enough) in
    let few : length (lines_text (take (n + 1) (l ∷ ls))) ≤ 65_536 = omega (arith, same, short) in
    cond-true _ _ _ (and_from _ _ (le-leb _ _ many) (le-leb _ _ few))

abbrev BatchAnswer : Type 0
BatchAnswer = Result (Batch × List (List ℕ)) KeptCode

-- these lines are left behind the batch
abbrev with_left : List (List ℕ) → Result Batch BatchFault → BatchAnswer
with_left left r = or_code NoBatch r >>= λ b. Ok (b, left)

-- what is read behind the head
abbrev behind_head : List (List ℕ) → HeadLine → List ℕ → BatchAnswer
behind_head ls head l = with_left (drop head.count ls) (batch_in (text_of_lines (l ∷ take head.count ls)))

no_batch : (l : List ℕ) (ls : List (List ℕ)) (head : HeadLine) → list_all (lacks 10) (l ∷ ls) ≡ true → head_in (fields_in l) ≡ Ok head → batch_length (l ∷ ls) (head.count + 1) ≡ None → behind_head ls head l ≡ Err NoBatch
no_batch l ls head lack is_head none = by_batch (batch_in (text_of_lines (l ∷ take head.count ls))) refl
  where
    by_batch : (r : Result Batch BatchFault) → batch_in (text_of_lines (l ∷ take head.count ls)) ≡ r → with_left (drop head.count ls) r ≡ Err NoBatch
    by_batch (Err f) e = refl
    by_batch (Ok b) e =
        let both = and_parts (lacks 10 l) (list_all (lacks 10) ls) lack in
        let count = counts_right l (take head.count ls) head b (and_from _ _ both.0 (first_lack head.count ls both.1)) is_head e in
        let short = (batch_read (text_of_lines (l ∷ take head.count ls)) b e).short in
        absurd (none-some _ (sym none ∙ fits l ls head.count (omega (arith, count, length-take head.count ls)) short))

no_next : (ls : List (List ℕ)) → list_all (lacks 10) ls ≡ true → option_and_then (batch_length ls) (counted ls) ≡ None → next_batch ls ≡ Err NoBatch
no_next [] lack none = refl
no_next (l ∷ ls) lack none = by_head (head_in (fields_in l)) refl none
  where
    by_head : (r : Result HeadLine BatchCode) → head_in (fields_in l) ≡ r → option_and_then (batch_length (l ∷ ls)) (option_map (λ head. head.count + 1) (result_ok r)) ≡ None → (or_code NoBatch r >>= λ head. behind_head ls head l) ≡ Err NoBatch
    by_head (Err c) is_head none = refl
    by_head (Ok head) is_head none = no_batch l ls head lack is_head none

pub no_extent : (text : List ℕ) (line : ℕ) → extent_in text ≡ None → at_kept_line line (next_batch (lines_in text).lines) ≡ Err (record { code = NoBatch; line = line })
no_extent text line none = ap (at_kept_line line) (no_next (lines_in text).lines (lines_lack text) none)

-- ---- where one may

-- the first line counts others, and all are so long
record IsFront (text : List ℕ) (n : ℕ) : Type 0 where
  first : List ℕ
  others : List (List ℕ)
  head : HeadLine
  lines : (lines_in text).lines ≡ first ∷ others
  is_head : head_in (fields_in first) ≡ Ok head
  place : n ≡ front_length (head.count + 1) text
  enough : head.count + 1 ≤ length (lines_in text).lines

some_chosen : (b : Bool) (x n : ℕ) → cond b (Some x) None ≡ Some n → (b ≡ true) × (x ≡ n)
some_chosen true x n e = (refl, same_Some x n e)
some_chosen false x n e = absurd (none-some n e)

front_by : (text l : List ℕ) (ls : List (List ℕ)) (n : ℕ) → (lines_in text).lines ≡ l ∷ ls → (r : Result HeadLine BatchCode) → head_in (fields_in l) ≡ r
    → option_and_then (batch_length (l ∷ ls)) (option_map (λ head. head.count + 1) (result_ok r)) ≡ Some n → IsFront text n
front_by text l ls n is (Err c) is_head e = absurd (none-some n e)
front_by text l ls n is (Ok head) is_head e =
    let k = head.count + 1 in
    let both = some_chosen (nat_le k (length (l ∷ ls)) && nat_le (length (lines_text (take k (l ∷ ls)))) 65_536) (length (lines_text (take k (l ∷ ls)))) n e in
    let tests = and_parts (nat_le k (length (l ∷ ls))) (nat_le (length (lines_text (take k (l ∷ ls)))) 65_536) both.0 in
    record {
      first = l;
      others = ls;
      head = head;
      lines = is;
      is_head = is_head;
      place = sym both.1 ∙ ap (λ xs. length (lines_text (take k xs))) (sym is);
      enough = subst (λ xs. k ≤ length xs) (sym is) (leb-true _ _ tests.0);
    }

front_of : (text : List ℕ) (n : ℕ) → extent_in text ≡ Some n → IsFront text n
front_of text n e = by_lines (lines_in text).lines refl e
  where
    by_lines : (ls : List (List ℕ)) → (lines_in text).lines ≡ ls → option_and_then (batch_length ls) (counted ls) ≡ Some n → IsFront text n
    by_lines [] is e = absurd (none-some n e)
    by_lines (l ∷ ls) is e = front_by text l ls n is (head_in (fields_in l)) refl e

pub extent_within : (text : List ℕ) (n : ℕ) → extent_in text ≡ Some n → n ≤ length text
extent_within text n e =
    let front = front_of text n e in
    let place = front.place in
    omega (arith, place, front_within (front.head.count + 1) text)

-- the lines behind the front
others_left : (text : List ℕ) (n : ℕ) (front : IsFront text n) → (lines_in (drop n text)).lines ≡ drop front.head.count front.others
others_left text n front =
    let k = front.head.count + 1 in
    let ls = (lines_in text).lines in
    let behind = (lines_in (drop (front_length k text) text)).lines in
    let next : k ≡ suc front.head.count = omega arith in
    let long : k ≡ length (take k ls) = sym (length-take-le k ls front.enough) in
    ap (λ m. (lines_in (drop m text)).lines) front.place
    ∙ sym (drop-append_seam (take k ls) behind)
    ∙ ap (λ m. drop m (take k ls ++ behind)) (sym long)
    ∙ ap (drop k) (sym (other_lines k text))
    ∙ ap (drop k) front.lines
    ∙ ap (λ m. drop m (front.first ∷ front.others)) next

front_text : (text : List ℕ) (n : ℕ) (front : IsFront text n) → take n text ≡ text_of_lines (front.first ∷ take front.head.count front.others)
front_text text n front =
    let k = front.head.count + 1 in
    let next : k ≡ suc front.head.count = omega arith in
    ap (λ m. take m text) front.place
    ∙ text_of_front k text
    ∙ ap (λ xs. lines_text (take k xs)) front.lines
    ∙ ap (λ m. lines_text (take m (front.first ∷ front.others))) next

next_by : (text : List ℕ) (n : ℕ) → IsFront text n → next_batch (lines_in text).lines ≡ with_left (lines_in (drop n text)).lines (batch_in (take n text))
next_by text n front =
    ap next_batch front.lines
    ∙ ap (λ (r : Result HeadLine BatchCode). or_code NoBatch r >>= λ head. behind_head front.others head front.first) front.is_head
    ∙ ap₂ (λ t left. with_left left (batch_in t)) (sym (front_text text n front)) (sym (others_left text n front))

pub good_next : (text : List ℕ) (n : ℕ) (first left : List ℕ) (b : Batch) → extent_in text ≡ Some n → first ≡ take n text → left ≡ drop n text → batch_in first ≡ Ok b → IsNextOf text b left
good_next text n first left b e is_first is_left good =
    let front = front_of text n e in
    record {
      read =
          next_by text n front
          ∙ ap (with_left (lines_in (drop n text)).lines) (ap batch_in (sym is_first) ∙ good)
          ∙ ap (λ t. Ok (b, (lines_in t).lines)) (sym is_left);
      rest = ap (λ t. (lines_in t).rest) is_left ∙ ap (λ m. (lines_in (drop m text)).rest) front.place ∙ other_rest (front.head.count + 1) text;
    }

pub bad_next : (text : List ℕ) (line n : ℕ) (first : List ℕ) (f : BatchFault) → extent_in text ≡ Some n → first ≡ take n text → batch_in first ≡ Err f → at_kept_line line (next_batch (lines_in text).lines) ≡ Err (record { code = NoBatch; line = line })
bad_next text line n first f e is_first bad =
    ap (at_kept_line line) (
    next_by text n (front_of text n e)
    ∙ ap (with_left (lines_in (drop n text)).lines) (ap batch_in (sym is_first) ∙ bad)
    )
