-- Tags as an object of JSON: what is written of them, and what is read of that.
use Rattle.std.proofs.Common.{◌≡◌, ℕ, Bool, true, false, List, [], ◌∷◌, ◌++◌, Some, Ordering, Less, Equal, Greater, option_map, refl, sym, ap, ap₂, ◌∙◌, append_assoc, append-nil, arith}
use Rattle.std.specs.Prelude.{option_and_then}
use Rattle.std.specs.List.{list_all}
use Rattle.std.specs.Cmp.Lexicographic.{slice_cmp}
use Rattle.std.specs.Ordering.{is_lt, match_ordering, nat_cmp, ordering_reverse}
use Rattle.std.proofs.lemmas.Bool.{and_parts, and_from}
use Rattle.std.proofs.lemmas.Cmp.{nat_list_cmp_total}
use Rattle.json.specs.Json as json
use Rattle.json.specs.Lex.{tokens}
use Rattle.json.specs.Print.{ArePrintable}
use Rattle.json.specs.Tree.{json_tokens, members_depth, members_tokens}
use Rattle.json.proofs.Printed.Tokens.{tokens-print}
use Rattle.json.proofs.Printed.Trees.{value-json_tokens}
use Rattle.serde_json.specs.Data.{member, object, put, string}
use Rattle.serde_json.specs.Read.{max_depth, of_json, of_members, read}
use Rattle.serde_json.specs.Written.{comma_if, compact_text, members_outline, members_text, outline}
use Rattle.serde_json.proofs.Texts.{print-outline}
use Rattle.metering_model.specs.Batch.{Tag, is_below, is_text, keys_rise}
use Rattle.metering_model.specs.File.{json_object, json_string}
use Rattle.record_view.proofs.TagsHold.{has_texts}
use Rattle.focus_csv.specs.TagData.{tag_data, tag_members}
use Rattle.focus_csv.proofs.JsonText.{string_written}
use Rattle.focus_csv.proofs.TagTexts.{all_left, members_left}

-- ---- written

grouped : (s k v m e : List ℕ) → s ++ (k ++ 58 ∷ (v ++ (m ++ e))) ≡ (s ++ (((k ++ 58 ∷ []) ++ v) ++ m)) ++ e
grouped s k v m e = simp append_assoc

members_written : (later : Bool) (ts : List Tag) → list_all has_texts ts ≡ true → members_text later (tag_members ts) ≡ members_left (comma_if later) ts ++ 125 ∷ []
members_written later [] h = refl
members_written later (t ∷ ts) h =
    let parts = and_parts (has_texts t) (list_all has_texts ts) h in
    let texts = and_parts (is_text t.key) (is_text t.value) parts.0 in
    ap₂ (λ k v. comma_if later ++ (k ++ 58 ∷ (v ++ members_text true (tag_members ts)))) (string_written t.key texts.0) (string_written t.value texts.1)
    ∙ ap (λ m. comma_if later ++ (json_string t.key ++ 58 ∷ (json_string t.value ++ m))) (members_written true ts parts.1)
    ∙ grouped (comma_if later) (json_string t.key) (json_string t.value) (members_left (44 ∷ []) ts) (125 ∷ [])

pub tags_written : (ts : List Tag) → list_all has_texts ts ≡ true → compact_text (tag_data ts) ≡ json_object ts
tags_written ts h = ap (λ m. 123 ∷ m) (members_written false ts h ∙ ap (λ m. m ++ 125 ∷ []) (all_left ts))

-- ---- read

all_printable : (ts : List Tag) → ArePrintable (members_tokens (members_outline (tag_members ts)))
unfolding ArePrintable
all_printable [] = (tt, tt)
all_printable (t ∷ ts) = (tt, (tt, all_printable ts))

tokens_are : (ts : List Tag) → list_all has_texts ts ≡ true → tokens (json_object ts) ≡ json_tokens (outline (tag_data ts))
unfolding ArePrintable
tokens_are ts h =
    ap tokens (sym (tags_written ts h) ∙ sym (print-outline (tag_data ts)))
    ∙ tokens-print (json_tokens (outline (tag_data ts))) (tt, all_printable ts)

-- whether each key is below a key
abbrev all_below : List Tag → List ℕ → Bool
all_below ts key = list_all (λ t. is_below t.key key) ts

below_is : (a b : List ℕ) → is_below a b ≡ true → slice_cmp nat_cmp a b ≡ Less
below_is a b h = by_order (slice_cmp nat_cmp a b) h
  where
    by_order : (o : Ordering) → is_lt o ≡ true → o ≡ Less
    by_order Less e = refl
    by_order Equal e = absurd (cc)
    by_order Greater e = absurd (cc)

above_is : (a b : List ℕ) → is_below a b ≡ true → slice_cmp nat_cmp b a ≡ Greater
above_is a b h = nat_list_cmp_total.antisymm b a ∙ ap ordering_reverse (below_is a b h)

below_both : (a b c : List ℕ) → is_below a b ≡ true → is_below b c ≡ true → is_below a c ≡ true
below_both a b c h k = ap is_lt (nat_list_cmp_total.trans a b c (below_is a b h) (below_is b c k))

-- a key above all goes last
put_last : (done : List Tag) (t : Tag) → all_below done t.key ≡ true → put t.key (string t.value) (tag_members done) ≡ tag_members (done ++ t ∷ [])
put_last [] t h = refl
put_last (d ∷ ds) t h =
    let parts = and_parts (is_below d.key t.key) (all_below ds t.key) h in
    ap (λ o. match_ordering o (member t.key (string t.value) (tag_members (d ∷ ds))) (member d.key (string t.value) (tag_members ds)) (member d.key (string d.value) (put t.key (string t.value) (tag_members ds))))
    (above_is d.key t.key parts.0)
    ∙ ap (member d.key (string d.value)) (put_last ds t parts.1)

still_below : (done : List Tag) (a b : List ℕ) → all_below done a ≡ true → is_below a b ≡ true → all_below done b ≡ true
still_below [] a b h k = refl
still_below (d ∷ ds) a b h k =
    let parts = and_parts (is_below d.key a) (all_below ds a) h in
    and_from (is_below d.key b) (all_below ds b) (below_both d.key a b parts.0 k) (still_below ds a b parts.1 k)

one_more_below : (done : List Tag) (t : Tag) (key : List ℕ) → all_below done key ≡ true → is_below t.key key ≡ true → all_below (done ++ t ∷ []) key ≡ true
one_more_below [] t key h k = and_from _ _ k refl
one_more_below (d ∷ ds) t key h k =
    let parts = and_parts (is_below d.key key) (all_below ds key) h in
    and_from (is_below d.key key) (all_below (ds ++ t ∷ []) key) parts.0 (one_more_below ds t key parts.1 k)

-- whether the first key, if there is one, is above all of those before
abbrev goes_on : List Tag → List Tag → Bool
goes_on done [] = true
goes_on done (t ∷ ts) = all_below done t.key

later_rise : (t : Tag) (ts : List Tag) → keys_rise (t ∷ ts) ≡ true → keys_rise ts ≡ true
later_rise t [] h = refl
later_rise t (u ∷ us) h = (and_parts (is_below t.key u.key) (keys_rise (u ∷ us)) h).1

later_go_on : (done : List Tag) (t : Tag) (ts : List Tag) → keys_rise (t ∷ ts) ≡ true → all_below done t.key ≡ true → goes_on (done ++ t ∷ []) ts ≡ true
later_go_on done t [] h k = refl
later_go_on done t (u ∷ us) h k =
    let step = (and_parts (is_below t.key u.key) (keys_rise (u ∷ us)) h).0 in
    one_more_below done t u.key (still_below done t.key u.key k step) step

members_read : (done ts : List Tag) → keys_rise ts ≡ true → goes_on done ts ≡ true → of_members (members_outline (tag_members ts)) (tag_members done) ≡ Some (tag_members (done ++ ts))
members_read done [] h k = ap (λ x. Some (tag_members x)) (sym (append-nil done))
members_read done (t ∷ ts) h k =
    ap (of_members (members_outline (tag_members ts))) (put_last done t k)
    ∙ members_read (done ++ t ∷ []) ts (later_rise t ts h) (later_go_on done t ts h k)
    ∙ ap (λ x. Some (tag_members x)) (append_assoc done (t ∷ []) ts)

shallow : (ts : List Tag) → members_depth (members_outline (tag_members ts)) ≡ 0
shallow [] = refl
shallow (t ∷ ts) = omega (arith, shallow ts)

starts : (ts : List Tag) → goes_on [] ts ≡ true
starts [] = refl
starts (t ∷ ts) = refl

pub tags_read : (ts : List Tag) → list_all has_texts ts ≡ true → keys_rise ts ≡ true → read (json_object ts) ≡ Some (tag_data ts)
tags_read ts h k =
    let j = outline (tag_data ts) in
    ap (λ x. option_and_then of_json (option_and_then (λ p. json.if_last p.0 p.1) (json.value max_depth x))) (tokens_are ts h ∙ sym (append-nil (json_tokens j)))
    ∙ ap (λ x. option_and_then of_json (option_and_then (λ p. json.if_last p.0 p.1) x)) (value-json_tokens j max_depth [] (omega (arith, shallow ts)))
    ∙ ap (option_map object) (members_read [] ts k (starts ts))
