-- The batch that stands first in a text, by one look at its head line.
use Rattle.std.proofs.Common.{◌≡◌, ℕ, zero, suc, ◌+◌, ◌-◌, ◌<◌, ◌≤◌, ◌==◌, Bool, true, false, cond, List, [], ◌∷◌, ◌++◌, length, take, drop, Option, Some, None, MatchOption, Ok, Err, refl, sym, ap, subst, ◌∙◌, arith, length-take, length-drop, take-take, nat_lt}
use Rattle.std.specs.Prelude.{slice_range}
use Rattle.std.specs.List.{position, position_or_len, prefix_len}
use Rattle.std.specs.Option.{option_map}
use Rattle.std.specs.Result.{result_ok}
use Rattle.std.proofs.lemmas.Bool.{cond-true, lt-ltb}
use Rattle.std.proofs.lemmas.List.{drop-drop, length-append}
use Rattle.std.proofs.lemmas.Option.{cond_some}
use Rattle.metering_model.specs.declared.BatchCode.TheVariants.{Head as NoHead}
use Rattle.metering_model.specs.BatchReading.{fields_in, head_in, lines_in}
use Rattle.metering_model.specs.Schedule.{lines_text}
use Rattle.record_view.specs.Lines.{IsPast}
use Rattle.record_view.proofs.LineLemmas.{lines_at_feed, lines_without_feed}
use Rattle.record_view.proofs.PastLines.{past_none, past_next}
use Rattle.batch_view.specs.declared.head.Head.{Head}
use Rattle.batch_view.specs.Extents.{counted, extent_in}
use Rattle.batch_view.specs.Inner.Lines.{IsFirstLine, IsBehindLines, head_line, BeginsWithHead}
use Rattle.batch_view.specs.Inner.First.{IsHeadFirst, IsFirstBatch}
use Rattle.batch_view.proofs.LineLemmas.{first_line, behind_none, one_more_line}
use Rattle.batch_view.proofs.ExtentLemmas.{front_is, no_head, too_few, far_enough}

-- ---- what the head line counts

front_slice : (text : List ℕ) (feed : ℕ) → slice_range text 0 feed ≡ take feed text
front_slice text feed = let same : feed - 0 ≡ feed = omega arith in ap (λ k. take k text) same

pub no_feed : (text : List ℕ) → position (λ (c : ℕ). c == 10) text ≡ None → counted (lines_in text).lines ≡ None
no_feed text none = ap (λ ls. counted ls.lines) (lines_without_feed text none)

bad_head : (text : List ℕ) (feed : ℕ) → position (λ (c : ℕ). c == 10) text ≡ Some feed → head_in (fields_in (take feed text)) ≡ Err NoHead → counted (lines_in text).lines ≡ None
bad_head text feed found bad =
    ap (λ ls. counted ls.lines) (lines_at_feed text feed found).1 ∙ ap (λ r. option_map (λ head. head.count + 1) (result_ok r)) bad

head_counts : (text : List ℕ) (h : Head) → IsHeadFirst text h → counted (lines_in text).lines ≡ Some (h.count + 1)
head_counts text h is =
    ap (λ ls. counted ls.lines) (lines_at_feed text is.feed is.found).1 ∙ ap (λ r. option_map (λ head. head.count + 1) (result_ok r)) is.head

pub head_found : (text : List ℕ) (feed : ℕ) (found : Option Head) → position (λ (c : ℕ). c == 10) text ≡ Some feed
    → MatchOption found (head_in (fields_in (slice_range text 0 feed)) ≡ Err NoHead) (λ h. (head_in (fields_in (slice_range text 0 feed)) ≡ Ok (head_line h)) × (h.records_from ≡ feed + 1))
    → MatchOption found (counted (lines_in text).lines ≡ None) (IsHeadFirst text)
head_found text feed None there bad = bad_head text feed there (ap (λ t. head_in (fields_in t)) (sym (front_slice text feed)) ∙ bad)
head_found text feed (Some h) there is = record {
  feed = feed;
  found = there;
  place = is.1;
  head = ap (λ t. head_in (fields_in t)) (sym (front_slice text feed)) ∙ is.0;
}

-- ---- the lines behind it

past_head : (text : List ℕ) (h : Head) → IsHeadFirst text h → IsPast text 1 h.records_from
past_head text h is =
    let place = is.place in
    let at : 0 + (is.feed + 1) ≡ h.records_from = omega (arith, place) in
    subst (λ (k : ℕ). IsPast text 1 k) at (past_next text 0 0 is.feed (past_none text) is.found)

first_and_others : (n : ℕ) (ls : List (List ℕ)) → 1 ≤ length ls → length (lines_text (take 1 ls)) + length (lines_text (take n (drop 1 ls))) ≡ length (lines_text (take (n + 1) ls))
first_and_others n [] some = absurd (omega (arith, some))
first_and_others n (l ∷ ls) some =
    let next : n + 1 ≡ suc n = omega arith in
    let one = length-append (l ++ 10 ∷ []) [] in
    let all = length-append (l ++ 10 ∷ []) (lines_text (take n ls)) in
    let sum : length (lines_text (l ∷ [])) + length (lines_text (take n ls)) ≡ length (lines_text (l ∷ take n ls)) = omega (arith, one, all) in
    sum ∙ ap (λ k. length (lines_text (take k (l ∷ ls)))) (sym next)

past_more : (text : List ℕ) (from n at : ℕ) → IsPast text 1 from → IsPast (drop from text) n at → IsPast text (n + 1) (from + at)
past_more text from n at head more =
    let ls = (lines_in text).lines in
    let left = (lines_in (drop from text)).lines in
    let place : at ≡ length (lines_text (take n (drop 1 ls))) = more.place ∙ ap (λ xs. length (lines_text (take n xs))) head.lines in
    let long : length left ≡ length (drop 1 ls) = ap length head.lines in
    record {
      within = omega (arith, head.within, more.within, length-drop from text);
      enough = omega (arith, head.enough, more.enough, long, length-drop 1 ls);
      feeds = omega (arith, head.feeds, more.feeds);
      lines =
          ap (λ t. (lines_in t).lines) (sym (drop-drop at from text))
          ∙ more.lines
          ∙ ap (drop n) head.lines
          ∙ drop-drop n 1 ls
          ∙ (let same : 1 + n ≡ n + 1 = omega arith in ap (λ k. drop k ls) same);
      place = omega (arith, head.place, place, first_and_others n ls head.enough);
    }

few_more : (text : List ℕ) (from n : ℕ) → IsPast text 1 from → length (lines_in (drop from text)).lines < n → length (lines_in text).lines < n + 1
few_more text from n head few =
    let long = ap length head.lines in
    omega (arith, few, long, length-drop 1 (lines_in text).lines)

-- ---- a shorter front begins with the same head

prefix_in_front : (p : ℕ → Bool) (xs : List ℕ) (n : ℕ) → prefix_len p xs < n → prefix_len p (take n xs) ≡ prefix_len p xs
prefix_in_front p xs zero low = absurd (omega (arith, low))
prefix_in_front p [] (suc n) low = refl
prefix_in_front p (x ∷ xs) (suc n) low = by (p x) (prefix_in_front p xs n) low
  where
    by : (b : Bool) → (prefix_len p xs < n → prefix_len p (take n xs) ≡ prefix_len p xs) → cond b (1 + prefix_len p xs) 0 < suc n → cond b (1 + prefix_len p (take n xs)) 0 ≡ cond b (1 + prefix_len p xs) 0
    by true more low = ap (λ k. 1 + k) (more (omega (arith, low)))
    by false more low = refl

feed_in_front : (text : List ℕ) (feed n : ℕ) → position (λ (c : ℕ). c == 10) text ≡ Some feed → feed < n → position (λ (c : ℕ). c == 10) (take n text) ≡ Some feed
feed_in_front text feed n found low =
    let is_feed : ℕ → Bool = λ (c : ℕ). c == 10 in
    let whole = cond_some (nat_lt (position_or_len is_feed text) (length text)) (position_or_len is_feed text) feed found in
    let place = whole.1 in
    let within = (lines_at_feed text feed found).0 in
    let same : position_or_len is_feed (take n text) ≡ position_or_len is_feed text = prefix_in_front _ text n (omega (arith, place, low)) in
    let there : position_or_len is_feed (take n text) < length (take n text) = omega (arith, same, place, within, low, length-take n text) in
    cond-true _ (Some (position_or_len is_feed (take n text))) None (lt-ltb _ _ there) ∙ ap Some (same ∙ place)

head_in_shorter : (text : List ℕ) (n : ℕ) (h : Head) → IsHeadFirst text h → h.records_from ≤ n → IsHeadFirst (take n text) h
head_in_shorter text n h is low =
    let place = is.place in
    let less : is.feed < n = omega (arith, place, low) in
    record {
      feed = is.feed;
      found = feed_in_front text is.feed n is.found less;
      place = place;
      head = ap (λ t. head_in (fields_in t)) (take-take is.feed n text (omega (arith, less))) ∙ is.head;
    }

begins : (text : List ℕ) (h : Head) → IsHeadFirst text h → BeginsWithHead text h
begins text h is =
    let same : 0 + is.feed ≡ is.feed = omega arith in
    let first : IsFirstLine text 0 (record { from = 0; to = is.feed }) = subst (λ (k : ℕ). IsFirstLine text 0 (record { from = 0; to = k })) same (first_line text 0 is.feed is.found (omega arith)) in
    let next = one_more_line text 0 0 (record { from = 0; to = is.feed }) (behind_none text) first in
    record {
      head_text = slice_range text 0 is.feed;
      first = next.left;
      head = ap (λ t. head_in (fields_in t)) (front_slice text is.feed) ∙ is.head;
      behind = subst (λ (k : ℕ). IsBehindLines text 1 k) (sym is.place) next.behind;
    }

-- ---- the answers

module _ (text : List ℕ) (m : ℕ) (most : m ≤ 65_536) (short : m < 65_536 → length text ≤ m) where
  pub without_head : counted (lines_in (take m text)).lines ≡ None → extent_in text ≡ None
  without_head none = no_head text 65_536 (omega arith) (rw (sym (front_is m text most short)) none)

  pub without_lines : (h : Head) → IsHeadFirst (take m text) h → length (lines_in (drop h.records_from (take m text))).lines < h.count → extent_in text ≡ None
  without_lines h is few =
      let front = front_is m text most short in
      let less = few_more (take m text) h.records_from h.count (past_head (take m text) h is) few in
      too_few text 65_536 (h.count + 1) (omega arith)
      (subst (λ (t : List ℕ). counted (lines_in t).lines ≡ Some (h.count + 1)) front (head_counts (take m text) h is))
      (subst (λ (t : List ℕ). length (lines_in t).lines < h.count + 1) front less)

  pub with_lines : (h : Head) (records : ℕ) → IsHeadFirst (take m text) h → IsPast (drop h.records_from (take m text)) h.count records → IsFirstBatch text h (h.records_from + records)
  with_lines h records is more =
      let front = front_is m text most short in
      let n = h.records_from + records in
      let past = past_more (take m text) h.records_from h.count records (past_head (take m text) h is) more in
      let within = past.within in
      let low : n ≤ m = omega (arith, within, length-take m text) in
      let there : n ≤ length text = omega (arith, within, length-take m text) in
      let same : take n (take m text) ≡ take n text = take-take n m text low in
      record {
        extent = far_enough text 65_536 (h.count + 1) n (omega arith)
            (subst (λ (t : List ℕ). counted (lines_in t).lines ≡ Some (h.count + 1)) front (head_counts (take m text) h is))
            (subst (λ (t : List ℕ). IsPast t (h.count + 1) n) front past);
        within = there;
        short = omega (arith, low, most);
        head = subst (λ (t : List ℕ). BeginsWithHead t h) same (begins _ h (head_in_shorter (take m text) n h is (omega arith)));
      }
