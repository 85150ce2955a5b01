-- What is taken from a text that the source lends is lent too, in order and apart.
use Rattle.std.proofs.Common.{◌≡◌, ℕ, zero, suc, ◌+◌, ◌-◌, ◌<◌, ◌≤◌, ◌==◌, Bool, true, false, List, [], ◌∷◌, ◌++◌, length, take, drop, map, Option, Some, None, refl, sym, ap, subst, ◌∙◌, arith, length-drop, slice_range}
use Rattle.std.specs.List.{list_any, position_or_len, flat_map}
use Rattle.std.proofs.lemmas.Bool.{ltb-true}
use Rattle.std.specs.Option.{option_to_list}
use Rattle.std.proofs.lemmas.List.{append-nil, take-take, drop-drop, drop-take, length-take-le}
use Rattle.record_view.specs.Parts.{LentText, lent, IsLent, AreLentApart, part_before, part_after, parts_at}
use Rattle.record_view.specs.Inner.Placed.{IsPlaced}
use Rattle.record_view.specs.TagTexts.{lent_tag, tags_at}
use Rattle.record_view.specs.Inner.TagParts.{are_tags}
use Rattle.record_view.specs.declared.exact.ReadingFields.{ReadingFields}
use Rattle.record_view.specs.Lent.{tag_texts}
use Rattle.record_view.specs.Inner.LineFields.{reading_parts, field_texts}
use Rattle.record_view.proofs.PartLaws.{within_any, parts_whole, parts_split}
use Rattle.record_view.proofs.TagLaws.{AllHaveEquals, all_have_equals, tags_rise, tags_of_empty, tags_of_parts_at}

-- ---- parts of a lent text

length-range : (source : List ℕ) (from to : ℕ) → from ≤ to → to ≤ length source → length (slice_range source from to) ≡ to - from
length-range source from to ordered within = length-take-le (to - from) (drop from source) (omega (arith, length-drop from source))

pub lent_placed : (source : List ℕ) (t : LentText) → IsLent source t → IsPlaced t
lent_placed source t h =
    let whole = ap length h.text ∙ length-range source t.from t.to h.ordered h.within in
    record { fits = omega (arith, h.ordered, whole) }

-- a front of a lent text
lent_front : (source : List ℕ) (t : LentText) (n : ℕ) → IsLent source t → t.from + n ≤ t.to → IsLent source (record { text = take n t.text; from = t.from; to = t.from + n })
lent_front source t n h short =
    let same : t.from + n - t.from ≡ n = omega arith in
    record {
      ordered = omega arith;
      within = omega (arith, h.within);
      text = ap (take n) h.text ∙ take-take n (t.to - t.from) (drop t.from source) (omega arith)
          ∙ ap (λ k. take k (drop t.from source)) (sym same);
    }

-- an end of a lent text
lent_back : (source : List ℕ) (t : LentText) (n : ℕ) → IsLent source t → t.from + n ≤ t.to → IsLent source (record { text = drop n t.text; from = t.from + n; to = t.to })
lent_back source t n h short =
    let split : t.to - t.from ≡ n + (t.to - (t.from + n)) = omega arith in
    record {
      ordered = short;
      within = h.within;
      text = ap (drop n) (h.text ∙ ap (λ k. take k (drop t.from source)) split)
          ∙ drop-take n (t.to - (t.from + n)) (drop t.from source)
          ∙ ap (take (t.to - (t.from + n))) (drop-drop n t.from source);
    }

-- where the byte stands, the text is split into two lent ones
pub record IsLentSplit (source : List ℕ) (byte : ℕ) (t : LentText) : Type 0 where
  pub before : IsLent source (part_before byte t)
  pub after : IsLent source (part_after byte t)
  pub apart : (part_before byte t).to < (part_after byte t).from

pub lent_split : (source : List ℕ) (byte : ℕ) (t : LentText) → IsLent source t → position_or_len (λ c. c == byte) t.text < length t.text → IsLentSplit source byte t
lent_split source byte t h within =
    let n = position_or_len (λ c. c == byte) t.text in
    let placed = lent_placed source t h in
    let fits : t.from + n + 1 ≤ t.to = omega (arith, placed.fits) in
    let back = lent_back source t (n + 1) h (omega (arith, fits)) in
    let next : t.from + (n + 1) ≡ t.from + n + 1 = omega arith in
    record {
      before = lent_front source t n h (omega (arith, fits));
      after = subst (λ k. IsLent source (record { text = drop (n + 1) t.text; from = k; to = t.to })) next back;
      apart = omega arith;
    }

-- ---- lists of lent texts

-- from further left on
pub lent_from : (source : List ℕ) (a b to : ℕ) (ts : List LentText) → a ≤ b → AreLentApart source b to ts → AreLentApart source a to ts
lent_from source a b to [] le h = h
lent_from source a b to (t ∷ ts) le h = (h.0, omega (arith, h.1), h.2, h.3)

-- without the first
pub lent_rest : (source : List ℕ) (from to : ℕ) (t : LentText) (ts : List LentText) → AreLentApart source from to (t ∷ ts) → AreLentApart source from to ts
lent_rest source from to t ts h = lent_from source from (t.to + 1) to ts (omega (arith, h.0.ordered, h.1)) h.3

-- one text, which stands in its own place
lent_one : (source : List ℕ) (t : LentText) → IsLent source t → AreLentApart source t.from t.to (t ∷ [])
lent_one source t h = (h, omega arith, omega arith, tt)

found_within : (byte : ℕ) (t : LentText) → list_any (λ c. c == byte) t.text ≡ true → position_or_len (λ c. c == byte) t.text < length t.text
found_within byte t e = ltb-true _ _ (within_any (λ c. c == byte) t.text ∙ e)

-- what stands before the byte, and the parts of the rest
lent_more : (source : List ℕ) (byte : ℕ) (t : LentText) → IsLent source t → list_any (λ c. c == byte) t.text ≡ true
    → AreLentApart source (part_after byte t).from (part_after byte t).to (parts_at byte (part_after byte t)) → AreLentApart source t.from t.to (parts_at byte t)
lent_more source byte t h found rest =
    let within = found_within byte t found in
    let split = lent_split source byte t h within in
    let both : AreLentApart source t.from t.to (part_before byte t ∷ parts_at byte (part_after byte t)) =
    (split.before, omega arith, omega (arith, split.apart, split.after.ordered), rest) in
    subst (AreLentApart source t.from t.to) (sym (parts_split byte t within)) both

-- the parts of a lent text, which has at most n bytes
parts_up_to : (source : List ℕ) (byte n : ℕ) (t : LentText) → length t.text ≤ n → IsLent source t → AreLentApart source t.from t.to (parts_at byte t)
parts_up_to source byte zero t short h = subst (AreLentApart source t.from t.to) (sym (parts_whole byte t (lent_placed source t h) (none t.text short))) (lent_one source t h)
  where
    none : (cs : List ℕ) → length cs ≤ 0 → list_any (λ c. c == byte) cs ≡ false
    none [] short = refl
    none (c ∷ cs) short = absurd (omega arith)
parts_up_to source byte (suc n) t short h =
    by_found (list_any (λ c. c == byte) t.text) refl (λ rest less lent. parts_up_to source byte n rest less lent)
  where
    shorter : position_or_len (λ c. c == byte) t.text < length t.text → length (part_after byte t).text ≤ n
    shorter within = omega (arith, length-drop (position_or_len (λ c. c == byte) t.text + 1) t.text)

    by_found : (b : Bool) → list_any (λ c. c == byte) t.text ≡ b
        → ((rest : LentText) → length rest.text ≤ n → IsLent source rest → AreLentApart source rest.from rest.to (parts_at byte rest))
        → AreLentApart source t.from t.to (parts_at byte t)
    by_found true e more =
        let within = found_within byte t e in
        lent_more source byte t h e (more (part_after byte t) (shorter within) (lent_split source byte t h within).after)
    by_found false e more = subst (AreLentApart source t.from t.to) (sym (parts_whole byte t (lent_placed source t h) e)) (lent_one source t h)

-- the parts of a lent text are lent, apart, and in its place
pub parts_lent : (source : List ℕ) (byte : ℕ) (t : LentText) → IsLent source t → AreLentApart source t.from t.to (parts_at byte t)
parts_lent source byte t h = parts_up_to source byte (length t.text) t (omega arith) h

-- ---- the tags of a lent text

-- up to further right
lent_to : (source : List ℕ) (from a b : ℕ) (ts : List LentText) → a ≤ b → AreLentApart source from a ts → AreLentApart source from b ts
lent_to source from a b [] le h = h
lent_to source from a b (t ∷ ts) le h = (h.0, h.1, omega (arith, h.2), lent_to source (t.to + 1) a b ts le h.3)

-- each lent part gives a lent key and a lent value
lent_pairs : (source : List ℕ) (from to : ℕ) (ps : List LentText) → AllHaveEquals ps → AreLentApart source from to ps
    → AreLentApart source from to (flat_map tag_texts (map lent_tag ps))
lent_pairs source from to [] pairs h = tt
lent_pairs source from to (p ∷ ps) pairs h =
    let split = lent_split source 61 p h.0 (found_within 61 p pairs.0) in
    let key_ends : (part_before 61 p).to ≤ to = omega (arith, split.apart, split.after.ordered, h.2) in
    let value_behind : (part_before 61 p).to + 1 ≤ (part_after 61 p).from = omega (arith, split.apart) in
    (split.before, h.1, key_ends, (split.after, value_behind, h.2, lent_pairs source (p.to + 1) to ps pairs.1 h.3))

pub tags_lent : (source : List ℕ) (from to : ℕ) (t : LentText) → IsLent source t → are_tags t.text ≡ true → from ≤ t.from → t.to ≤ to
    → AreLentApart source from to (flat_map tag_texts (tags_at t))
tags_lent source from to t h ok begins ends = by_length (length t.text) refl
  where
    by_length : (n : ℕ) → length t.text ≡ n → AreLentApart source from to (flat_map tag_texts (tags_at t))
    by_length zero e = subst (λ ts. AreLentApart source from to (flat_map tag_texts ts)) (sym (tags_of_empty t e)) tt
    by_length (suc n) e =
        let some : 0 < length t.text = omega arith in
        let pairs = all_have_equals [] (parts_at 59 t) (sym (tags_rise t some) ∙ ok) in
        let parts = lent_to source from t.to to (parts_at 59 t) ends (lent_from source from t.from t.to (parts_at 59 t) begins (parts_lent source 59 t h)) in
        subst (λ ts. AreLentApart source from to (flat_map tag_texts ts)) (sym (tags_of_parts_at t some)) (lent_pairs source from to (parts_at 59 t) pairs parts)

-- ---- a text behind others

-- texts up to a place, and one behind it
pub with_last : (source : List ℕ) (from m to : ℕ) (ts : List LentText) (q : LentText) → from ≤ q.from → m + 1 ≤ q.from → AreLentApart source from m ts
    → IsLent source q → q.to ≤ to → AreLentApart source from to (ts ++ q ∷ [])
with_last source from m to [] q low behind h last ends = (last, low, ends, tt)
with_last source from m to (t ∷ ts) q low behind h last ends = (
  h.0,
  h.1,
  omega (arith, h.2, behind, last.ordered, ends),
  with_last source (t.to + 1) m to ts q (omega (arith, h.2, behind)) behind h.3 last ends,
)

-- Without the last they end before it.
pub record IsLastOf (source : List ℕ) (from m to : ℕ) (ts : List LentText) (q : LentText) : Type 0 where
  pub low : from ≤ q.from
  pub others : AreLentApart source from m ts
  pub last : IsLent source q
  pub ends : q.to ≤ to

pub without_last : (source : List ℕ) (from m to : ℕ) (ts : List LentText) (q : LentText) → m + 1 ≡ q.from → AreLentApart source from to (ts ++ q ∷ [])
    → IsLastOf source from m to ts q
without_last source from m to [] q next h = record { low = h.1; others = tt; last = h.0; ends = h.2 }
without_last source from m to (t ∷ ts) q next h =
    let rest = without_last source (t.to + 1) m to ts q next h.3 in
    record {
      low = omega (arith, h.0.ordered, h.1, rest.low);
      others = (h.0, h.1, omega (arith, next, rest.low), rest.others);
      last = rest.last;
      ends = rest.ends;
    }

-- tags, and the region behind them, if there is one
pub tags_then : (source : List ℕ) (from to : ℕ) (t : LentText) (region : Option LentText) → are_tags t.text ≡ true
    → AreLentApart source from to (t ∷ option_to_list region) → AreLentApart source from to (flat_map tag_texts (tags_at t) ++ option_to_list region)
tags_then source from to t None ok h =
    subst (AreLentApart source from to) (sym (append-nil (flat_map tag_texts (tags_at t)))) (tags_lent source from to t h.0 ok h.1 h.2)
tags_then source from to t (Some q) ok h =
    let behind = h.3 in
    with_last source from t.to to (flat_map tag_texts (tags_at t)) q (omega (arith, h.0.ordered, h.1, behind.1)) behind.1
    (tags_lent source from t.to t h.0 ok h.1 (omega arith)) behind.0 behind.2

-- ---- the fields of a reading

-- one text, and what becomes of the others
lent_then : (source : List ℕ) (from to : ℕ) (t : LentText) (ts us : List LentText) → AreLentApart source from to (t ∷ ts)
    → (AreLentApart source (t.to + 1) to ts → AreLentApart source (t.to + 1) to us) → AreLentApart source from to (t ∷ us)
lent_then source from to t ts us h others = (h.0, h.1, h.2, others h.3)

-- what a reading lends are its fields but the value, and the texts of its tags
pub fields_lent : (source : List ℕ) (from to : ℕ) (f : ReadingFields) → are_tags f.tags.text.now ≡ true
    → AreLentApart source from to (reading_parts f) → AreLentApart source from to (field_texts f)
fields_lent source from to f ok h =
    let end = h.3 in
    let account = end.3 in
    let resource = account.3 in
    let key = resource.3 in (
      h.0,
      h.1,
      h.2,
      (
        end.0,
        end.1,
        end.2,
        (
          account.0,
          account.1,
          account.2,
          (resource.0, resource.1, resource.2, (key.0, key.1, key.2, last key.3)),
        ),
      ),
    )
  where
    tags : AreLentApart source ((lent f.commitment).to + 1) to (lent f.tags ∷ [])
        → AreLentApart source ((lent f.commitment).to + 1) to (flat_map tag_texts (tags_at (lent f.tags)) ++ [])
    tags h = tags_then source ((lent f.commitment).to + 1) to (lent f.tags) None ok h

    last : AreLentApart source ((lent f.key).to + 1) to (lent f.value ∷ lent f.commitment ∷ lent f.tags ∷ [])
        → AreLentApart source ((lent f.key).to + 1) to (lent f.commitment ∷ flat_map tag_texts (tags_at (lent f.tags)) ++ [])
    last h = lent_then source ((lent f.key).to + 1) to (lent f.commitment) (lent f.tags ∷ []) (flat_map tag_texts (tags_at (lent f.tags)) ++ [])
        (lent_rest source ((lent f.key).to + 1) to (lent f.value) (lent f.commitment ∷ lent f.tags ∷ []) h) tags
