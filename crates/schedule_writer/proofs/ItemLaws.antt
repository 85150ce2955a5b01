-- What stands first in a text, and what is found of an input item by item.
use Rattle.std.proofs.Common.{◌≡◌, ◌<◌, ◌≤◌, ◌⊎◌, ◌&&◌, ℕ, zero, suc, ◌+◌, ◌-◌, Bool, true, false, cond, nat_le, List, [], ◌∷◌, ◌++◌, length, take, drop, Option, Some, None, Result, Ok, nat_eq, refl, sym, ap, ap₂, subst, ◌∙◌, inl, inr, ⊎_elim, arith, append_assoc, codes, length-drop}
use Rattle.std.specs.List.{position}
use Rattle.std.specs.Option.{option_and_then, option_map, unwrap_or}
use Rattle.std.proofs.lemmas.Option.{option_and_then_some}
use Rattle.std.proofs.lemmas.Bool.{cases_lt}
use Rattle.std.proofs.lemmas.List.{drop-drop, length-take, length-append, length-take-le, take-append-drop}
use Rattle.metering_model.specs.Batch.{is_empty}
use Rattle.std.specs.Result.{result_ok}
use Rattle.metering_model.specs.BatchReading.{fields_in, head_in, lines_in}
use Rattle.metering_model.specs.Schedule.{lines_text}
use Rattle.metering_model.proofs.FieldLaws.{same_read}
use Rattle.metering_model.proofs.StepLaws.{step_ok, ok_same}
use Rattle.byte_text.proofs.PastLines.{text_of_front}
use Rattle.batch_view.specs.Extents.{batch_length, counted, extent_in}
use Rattle.input_sections.specs.declared.faults.ScheduleFault.{ScheduleFault}
use Rattle.input_sections.specs.RateInput.{RateInput, default_sheet, if_begun, rate_input_in}
use Rattle.input_sections.specs.Sections.{IsCounted, Unread, begins_with, issuer_section, left, sheet_section, whole_of}
use Rattle.input_sections.proofs.CountedLines.{GoesOn, IsLeftOf, issuer_counted, left_behind, sheet_counted, whole_counted}
use Rattle.sheet_text.specs.Samples.{sample_issuer}
use Rattle.schedule_writer.specs.Inputs.{Item, Offers, Closes, Offered, batches_of, close_line, closes_from, head_text, item_at, item_length, item_text, items_in, items_of, items_text, lacks_head, offered_length, through_feed}
use Rattle.schedule_writer.specs.Inner.Walks.{IsPlace, IsThere}

some_length : (b : Bool) (m n : ℕ) → cond b (Some m) None ≡ Some n → m ≡ n
some_length true m n is = ap (λ o. unwrap_or o m) is
some_length false m n is = absurd (cc)

front_within : (k : ℕ) (text : List ℕ) → length (lines_text (take k (lines_in text).lines)) ≤ length text
front_within k text =
    let n = length (lines_text (take k (lines_in text).lines)) in
    let same : length (take n text) ≡ n = ap length (text_of_front k text) in
    let short : length (take n text) ≤ length text = take_short n text in
    omega arith
  where
    take_short : (n : ℕ) (t : List ℕ) → length (take n t) ≤ length t
    take_short n t = let h = length-take n t in omega arith

-- a batch does not go beyond its text
pub extent_within : (text : List ℕ) (n : ℕ) → extent_in text ≡ Some n → n ≤ length text
extent_within text n is =
    option_and_then_some (batch_length (lines_in text).lines) (counted (lines_in text).lines) n is
    (λ k counts long.
    let same = some_length (nat_le k (length (lines_in text).lines) && nat_le (length (lines_text (take k (lines_in text).lines))) 65_536) (length (lines_text (take k (lines_in text).lines))) n long in
    let within = front_within k text in
    omega arith)

-- ---- one item more

not_empty : {A : Type 0} (t : List ℕ) (x y : A) → 0 < length t → cond (is_empty t) x y ≡ y
not_empty [] x y some = absurd (omega arith)
not_empty (c ∷ cs) x y some = refl

all_empty : {A : Type 0} (t : List ℕ) (x y : A) → length t ≤ 0 → cond (is_empty t) x y ≡ x
all_empty [] x y none = refl
all_empty (c ∷ cs) x y none = absurd (omega arith)

pub item_next : (most : ℕ) (input : List ℕ) (from : ℕ) → 0 < length (drop from input)
    → items_in (suc most) input from ≡ item_at input from ∷ items_in most input (from + item_length (drop from input))
unfolding items_in
item_next most input from some = not_empty (drop from input) [] _ some

pub items_end : (most : ℕ) (input : List ℕ) (from : ℕ) → length (drop from input) ≤ 0 → items_in most input from ≡ []
unfolding items_in
items_end zero input from none = refl
items_end (suc most) input from none = all_empty (drop from input) [] _ none

pub items_none : (input : List ℕ) (from : ℕ) → items_in 0 input from ≡ []
unfolding items_in
items_none input from = refl

pub batches_split : (i : Item) (is : List Item) → batches_of (i ∷ is) ≡ batches_of (i ∷ []) ++ batches_of is
batches_split (Offers b) is = refl
batches_split Closes is = refl

-- so many batches stand above what follows
closes_split : (n : ℕ) (i : Item) (is : List Item) → closes_from n (i ∷ is) ≡ closes_from n (i ∷ []) ++ closes_from (n + length (batches_of (i ∷ []))) is
closes_split n (Offers b) is = refl
closes_split n Closes is = ap (λ k. n ∷ closes_from k is) (nothing_more n)
  where
    nothing_more : (n : ℕ) → n ≡ n + 0
    nothing_more n = omega arith

-- what was found with one item more, and what is left behind it
pub batches_more : (all found next : List Offered) (i : Item) (is : List Item) → found ++ batches_of (i ∷ is) ≡ all → next ≡ found ++ batches_of (i ∷ [])
    → next ++ batches_of is ≡ all
batches_more all found next i is so_far more =
    ap (λ t. t ++ batches_of is) more
    ∙ (append_assoc found (batches_of (i ∷ [])) (batches_of is) ∙ (ap (λ t. found ++ t) (sym (batches_split i is)) ∙ so_far))

pub closes_more : (all found next : List ℕ) (n m : ℕ) (i : Item) (is : List Item) → found ++ closes_from n (i ∷ is) ≡ all → next ≡ found ++ closes_from n (i ∷ [])
    → m ≡ n + length (batches_of (i ∷ [])) → next ++ closes_from m is ≡ all
closes_more all found next n m i is so_far more count =
    ap (λ t. t ++ closes_from m is) more
    ∙ (append_assoc found (closes_from n (i ∷ [])) (closes_from m is)
    ∙ (ap (λ k. found ++ (closes_from n (i ∷ []) ++ closes_from k is)) count ∙ (ap (λ t. found ++ t) (sym (closes_split n i is)) ∙ so_far)))

-- ---- the items are the input, cut in order

some_more : (l : List ℕ) (ls : List (List ℕ)) → 1 ≤ length (lines_text (l ∷ ls))
some_more l ls = let a = length-append (l ++ 10 ∷ []) (lines_text ls) in let b = length-append l (10 ∷ []) in omega (arith, a, b)

extent_some : (text : List ℕ) (n : ℕ) → extent_in text ≡ Some n → 1 ≤ n
extent_some text n is = by_lines (lines_in text).lines is
  where
    by_lines : (ls : List (List ℕ)) → option_and_then (batch_length ls) (counted ls) ≡ Some n → 1 ≤ n
    by_lines [] so = absurd (cc)
    by_lines (l ∷ ls) so =
        option_and_then_some (batch_length (l ∷ ls)) (counted (l ∷ ls)) n so
        (λ k counts long. by_count k (counts_one l ls k counts) (some_length _ _ n long))
      where
        counts_one : (l : List ℕ) (ls : List (List ℕ)) (k : ℕ) → counted (l ∷ ls) ≡ Some k → 1 ≤ k
        counts_one l ls k is = one_more (λ head. head.count) (result_ok (head_in (fields_in l))) k is
          where
            one_more : {A : Type 0} (f : A → ℕ) (o : Option A) (k : ℕ) → option_map (λ x. f x + 1) o ≡ Some k → 1 ≤ k
            one_more f (Some x) k so = let same = ap (λ o. unwrap_or o k) so in omega (arith, same)
            one_more f None k so = absurd (cc)

        by_count : (k : ℕ) → 1 ≤ k → length (lines_text (take k (l ∷ ls))) ≡ n → 1 ≤ n
        by_count zero one same = absurd (omega (arith, one))
        by_count (suc k) one same = let more = some_more l (take k ls) in omega (arith, more, same)

head_some : (text : List ℕ) (o : Option ℕ) → 1 ≤ length text → (1 ≤ length (through_feed o text)) × (length (through_feed o text) ≤ length text)
head_some text None some = (some, omega arith)
head_some [] (Some i) some = absurd (omega (arith, some))
head_some (c ∷ cs) (Some i) some = let long = length-take (i + 1) (c ∷ cs) in (omega (arith, long), omega (arith, long))

offered_some : (text : List ℕ) → 1 ≤ length text → (1 ≤ offered_length text) × (offered_length text ≤ length text)
unfolding offered_length
offered_some text some = by_extent (extent_in text) refl
  where
    by_head : (b : Bool) → (1 ≤ cond b (length (head_text text)) (length text)) × (cond b (length (head_text text)) (length text) ≤ length text)
    by_head true = head_some text (position (λ c. nat_eq c 10) text) some
    by_head false = (some, omega arith)

    by_extent : (o : Option ℕ) → extent_in text ≡ o
        → (1 ≤ elim o [ Some n ↦ n | None ↦ cond (lacks_head text) (length (head_text text)) (length text) ])
        × (elim o [ Some n ↦ n | None ↦ cond (lacks_head text) (length (head_text text)) (length text) ] ≤ length text)
    by_extent (Some n) is = (extent_some text n is, extent_within text n is)
    by_extent None is = by_head (lacks_head text)

-- an item has a byte at least, and is what stands there
record IsCut (t text : List ℕ) (n : ℕ) : Type 0 where
  some : 1 ≤ n
  within : n ≤ length t
  is : text ≡ take n t

cut_here : (input : List ℕ) (from : ℕ) → 1 ≤ length (drop from input) → IsCut (drop from input) (item_text (item_at input from)) (item_length (drop from input))
cut_here input from some = by_word (begins_with close_line (drop from input)) refl
  where
    by_word : (b : Bool) → begins_with close_line (drop from input) ≡ b
        → IsCut (drop from input)
        (item_text (cond b Closes (Offers (record { from = from; text = take (offered_length (drop from input)) (drop from input) }))))
        (cond b (length close_line) (offered_length (drop from input)))
    by_word true is =
        let same : take 6 (drop from input) ≡ close_line = same_read (take 6 (drop from input)) close_line is in
        let short : length (take 6 (drop from input)) ≡ 6 = ap length same in
        let long = length-take 6 (drop from input) in
        record { some = omega arith; within = omega (arith, short, long); is = sym same }
    by_word false is = let at = offered_some (drop from input) some in record { some = at.0; within = at.1; is = refl }

pub items_cut : (most : ℕ) (input : List ℕ) (from : ℕ) → length (drop from input) ≤ most → items_text (items_in most input from) ≡ drop from input
items_cut zero input from few = ap items_text (items_none input from) ∙ sym (none_left (drop from input) few)
  where
    none_left : (t : List ℕ) → length t ≤ 0 → t ≡ []
    none_left [] few = refl
    none_left (c ∷ cs) few = absurd (omega (arith, few))
items_cut (suc most) input from few =
    ⊎_elim
    (λ none. ap items_text (items_end (suc most) input from (omega (arith, none))) ∙ sym (none_left (drop from input) none))
    (λ some.
    let t = drop from input in
    let n = item_length t in
    let cut = cut_here input from some in
    let rest : drop n t ≡ drop (from + n) input = drop-drop n from input in
    let fewer : length (drop (from + n) input) ≤ most = (let a = length-drop n t in let b = ap length rest in omega (arith, a, b, few, cut.some, some)) in
    ap items_text (item_next most input from some)
    ∙ (ap₂ (λ x y. x ++ y) cut.is (items_cut most input (from + n) fewer ∙ sym rest) ∙ take-append-drop n t))
    (some_or_none (length (drop from input)))
  where
    none_left : (t : List ℕ) → length t < 1 → t ≡ []
    none_left [] few = refl
    none_left (c ∷ cs) few = absurd (omega (arith, few))

    some_or_none : (n : ℕ) → (n < 1) ⊎ (1 ≤ n)
    some_or_none zero = inl (omega arith)
    some_or_none (suc n) = inr (omega arith)

first_of : {A : Type 0} (x y : A) (xs ys : List A) → x ∷ xs ≡ y ∷ ys → (x ≡ y) × (xs ≡ ys)
first_of x y xs ys is = (cc, cc)

begins_there : (input : List ℕ) (from : ℕ) (b : Offered) → item_at input from ≡ Offers b → b.from ≡ from
begins_there input from b is = by_word (begins_with close_line (drop from input)) is
  where
    by_word : (t : Bool) → cond t Closes (Offers (record { from = from; text = take (offered_length (drop from input)) (drop from input) })) ≡ Offers b → b.from ≡ from
    by_word true so = absurd (cc)
    by_word false so = sym (from_is _ b so)
      where
        from_is : (a b : Offered) → Offers a ≡ Offers b → a.from ≡ b.from
        from_is a b same = cc

-- a batch is what stands where its item does, and begins there
take_same : (n : ℕ) (t : List ℕ) → take (length (take n t)) t ≡ take n t
take_same zero t = refl
take_same (suc n) [] = refl
take_same (suc n) (c ∷ cs) = ap (λ ds. c ∷ ds) (take_same n cs)

stands : (input : List ℕ) (from n : ℕ) → from ≤ length input → IsThere input (record { from = from; text = take n (drop from input) })
stands input from n within =
    let short = length-take n (drop from input) in
    let drops = length-drop from input in
    let long : (from + length (take n (drop from input))) - from ≡ length (take n (drop from input)) = omega arith in
    record {
      begins = within;
      room = omega (arith, short, drops, within);
      is_text = ap (λ k. take k (drop from input)) long ∙ take_same n (drop from input);
    }

pub offered_there : (input : List ℕ) (from : ℕ) (b : Offered) → Offers b ≡ item_at input from → from ≤ length input → IsThere input b
offered_there input from b is within = by_word (begins_with close_line (drop from input)) is
  where
    same_offer : (a c : Offered) → Offers a ≡ Offers c → a ≡ c
    same_offer a c same = cc

    by_word : (t : Bool) → Offers b ≡ cond t Closes (Offers (record { from = from; text = take (offered_length (drop from input)) (drop from input) })) → IsThere input b
    by_word true so = absurd (cc)
    by_word false so = subst (IsThere input) (sym (same_offer b _ so)) (stands input from (offered_length (drop from input)) within)

pub place_there : (input : List ℕ) (from : ℕ) (b : Offered) (known : Option ℕ) → Offers b ≡ item_at input from → IsPlace input from known → IsPlace input b.from known
place_there input from b known is place = subst (λ n. IsPlace input n known) (sym (begins_there input from b (sym is))) place

pub items_placed : (most : ℕ) (input : List ℕ) (from : ℕ) (before behind : List Item) (b : Offered) → items_in most input from ≡ before ++ Offers b ∷ behind
    → b.from ≡ from + length (items_text before)
items_placed zero input from before behind b is = absurd (no_items before (sym (items_none input from) ∙ is))
  where
    no_items : (before : List Item) → [] ≡ before ++ Offers b ∷ behind → ⊥
    no_items [] so = cc
    no_items (x ∷ xs) so = cc
items_placed (suc most) input from before behind b is =
    ⊎_elim (λ none. absurd (no_items before (sym (items_end (suc most) input from (omega (arith, none))) ∙ is)))
    (λ some. by_before (λ xs so. items_placed most input (from + item_length (drop from input)) xs behind b so) before some (sym (item_next most input from some) ∙ is))
    (some_or_none (length (drop from input)))
  where
    no_items : (before : List Item) → [] ≡ before ++ Offers b ∷ behind → ⊥
    no_items [] so = cc
    no_items (x ∷ xs) so = cc

    some_or_none : (n : ℕ) → (n < 1) ⊎ (1 ≤ n)
    some_or_none zero = inl (omega arith)
    some_or_none (suc n) = inr (omega arith)

    by_before : ((xs : List Item) → items_in most input (from + item_length (drop from input)) ≡ xs ++ Offers b ∷ behind
        → b.from ≡ (from + item_length (drop from input)) + length (items_text xs))
        → (before : List Item) → 1 ≤ length (drop from input)
        → item_at input from ∷ items_in most input (from + item_length (drop from input)) ≡ before ++ Offers b ∷ behind → b.from ≡ from + length (items_text before)
    by_before later [] some so = let first = first_of _ _ _ _ so in begins_there input from b first.0 ∙ plus_none from
      where
        plus_none : (n : ℕ) → n ≡ n + 0
        plus_none n = omega arith
    by_before later (x ∷ xs) some so =
        let first = first_of _ _ _ _ so in
        let cut = cut_here input from some in
        let n = item_length (drop from input) in
        let long : length (item_text (item_at input from)) ≡ n = ap length cut.is ∙ length-take-le n (drop from input) cut.within in
        let all = length-append (item_text x) (items_text xs) in
        let this : length (item_text x) ≡ n = ap (λ i. length (item_text i)) (sym first.0) ∙ long in
        later xs first.1 ∙ sums from n (length (items_text xs)) (length (item_text x)) (length (item_text x ++ items_text xs)) this all
      where
        sums : (a n r x w : ℕ) → x ≡ n → w ≡ x + r → (a + n) + r ≡ a + w
        sums a n r x w one two = omega (arith, one, two)

-- ---- what stands behind the sections is the end of the input

begun : {A : Type 0} (word : List ℕ) (section : Unread → Result (A × Unread) ScheduleFault) (missing : A) (text : List ℕ) (u : Unread) (r : A × Unread)
    → ((v : Unread) (s : A × Unread) → IsCounted v → section v ≡ Ok s → GoesOn v s.1) → IsLeftOf text u → if_begun word section missing u ≡ Ok r → IsLeftOf text r.1
begun word section missing text u r counts is h = by_word (begins_with word (left u)) h
  where
    by_word : (b : Bool) → cond b (section u) (Ok (missing, u)) ≡ Ok r → IsLeftOf text r.1
    by_word true so = left_behind text u r.1 is (counts u r is.counted so)
    by_word false so = subst (λ p. IsLeftOf text p.1) (ok_same _ _ so) is

pub batch_is_end : (text : List ℕ) (given : RateInput) → rate_input_in text ≡ Ok given → drop (length text - length given.batch) text ≡ given.batch
unfolding rate_input_in
batch_is_end text given h =
    let u = step_ok (whole_of text) _ given h in
    let sheet = step_ok (if_begun (codes "sheet ") sheet_section default_sheet u.0) _ given u.2 in
    let issuer = step_ok (if_begun (codes "issuer ") issuer_section sample_issuer sheet.0.1) _ given sheet.2 in
    let at_sheet = begun (codes "sheet ") sheet_section default_sheet text u.0 sheet.0 sheet_counted (whole_counted text u.0 u.1) sheet.1 in
    let at_batch = begun (codes "issuer ") issuer_section sample_issuer text sheet.0.1 issuer.0 issuer_counted at_sheet issuer.1 in
    let batch : given.batch ≡ left issuer.0.1 = sym (ap (λ (g : RateInput). g.batch) (ok_same _ _ issuer.2)) in
    let there : given.batch ≡ drop issuer.0.1.from text = batch ∙ ap (drop issuer.0.1.from) at_batch.text_is in
    ap (λ b. drop (length text - length b) text) there ∙ (is_end text issuer.0.1.from ∙ sym there)
  where
    past : (t : List ℕ) (n : ℕ) → length t ≤ n → drop n t ≡ []
    past t n far = none_left (drop n t) (let h = length-drop n t in omega (arith, h, far))
      where
        none_left : (t : List ℕ) → length t ≤ 0 → t ≡ []
        none_left [] few = refl
        none_left (c ∷ cs) few = absurd (omega (arith, few))

    is_end : (t : List ℕ) (n : ℕ) → drop (length t - length (drop n t)) t ≡ drop n t
    is_end t n =
        ⊎_elim (λ less. ap (λ k. drop k t) (let h = length-drop n t in omega (arith, h, less)))
        (λ more. past t (length t - length (drop n t)) (let h = length-drop n t in omega (arith, h, more)) ∙ sym (past t n more))
        (cases_lt n (length t))

pub input_cut : (input : List ℕ) (given : RateInput) → rate_input_in input ≡ Ok given → items_text (items_of input given) ≡ given.batch
unfolding items_of
input_cut input given is =
    let at = length input - length given.batch in
    items_cut (length input) input at (let h = length-drop at input in omega (arith, h)) ∙ batch_is_end input given is

pub input_placed : (input : List ℕ) (given : RateInput) (before behind : List Item) (b : Offered) → items_of input given ≡ before ++ Offers b ∷ behind
    → b.from ≡ (length input - length given.batch) + length (items_text before)
unfolding items_of
input_placed input given before behind b is = items_placed (length input) input (length input - length given.batch) before behind b is
