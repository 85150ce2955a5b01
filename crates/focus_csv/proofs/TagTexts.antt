-- The members of an object that are still to be written.
use Rattle.std.proofs.Common.{◌≡◌, ℕ, ◌==◌, ◌||◌, Bool, true, false, List, [], ◌∷◌, ◌++◌, map, refl, sym, ap, ap₂, ◌∙◌, append_assoc}
use Rattle.std.specs.Prelude.{if◌then◌else◌}
use Rattle.std.specs.List.{join_with_byte, list_any}
use Rattle.std.proofs.lemmas.List.{append-nil}
use Rattle.std.proofs.lemmas.Grind.{flat_map-append}
use Rattle.metering_model.specs.Batch.{Tag}
use Rattle.metering_model.specs.File.{json_member, json_object, json_string, marked, quoted}
use Rattle.focus_csv.specs.Inner.Runs.{behind}
use Rattle.focus_csv.specs.Inner.Strings.{is_odd, doubled}

-- each behind a comma, but the first behind what is given
abbrev pub members_left : List ℕ → List Tag → List ℕ
members_left separator [] = []
members_left separator (t ∷ ts) = separator ++ (json_member t ++ members_left (44 ∷ []) ts)

pub all_left : (ts : List Tag) → members_left [] ts ≡ join_with_byte 44 (map json_member ts)
all_left [] = refl
all_left (t ∷ []) = append-nil (json_member t)
all_left (t ∷ u ∷ us) = ap (λ x. json_member t ++ 44 ∷ x) (all_left (u ∷ us))

-- ---- plain tags

abbrev twice : ℕ → List ℕ
twice c = if c == 34 then 34 ∷ c ∷ [] else c ∷ []

plain_byte : (a b rest : Bool) (c : ℕ) (t u : List ℕ) → ((a || b) || rest) ≡ false → (rest ≡ false → u ≡ t)
    → (if a then 34 ∷ c ∷ [] else c ∷ []) ++ u ≡ c ∷ t
plain_byte true b rest c t u h more = absurd (cc)
plain_byte false true rest c t u h more = absurd (cc)
plain_byte false false rest c t u h more = ap (λ x. c ∷ x) (more h)

plain_doubled : (t : List ℕ) → is_odd t ≡ false → doubled t ≡ t
plain_doubled [] h = refl
plain_doubled (c ∷ cs) h = plain_byte (c == 34) (c == 92) (is_odd cs) c cs (doubled cs) h (plain_doubled cs)

unmarked_byte : (odd rest : Bool) (c : ℕ) (t u : List ℕ) → (odd || rest) ≡ false → (rest ≡ false → u ≡ t)
    → (if odd then 92 ∷ c ∷ [] else c ∷ []) ++ u ≡ c ∷ t
unmarked_byte true rest c t u h more = absurd (cc)
unmarked_byte false rest c t u h more = ap (λ x. c ∷ x) (more h)

plain_inner : (t : List ℕ) → is_odd t ≡ false → marked (λ c. (c == 34) || (c == 92)) 92 t ≡ t
plain_inner [] h = refl
plain_inner (c ∷ cs) h = unmarked_byte ((c == 34) || (c == 92)) (is_odd cs) c cs (marked (λ x. (x == 34) || (x == 92)) 92 cs) h (plain_inner cs)

plain_string : (t : List ℕ) → is_odd t ≡ false → 34 ∷ (t ++ 34 ∷ []) ≡ json_string t
plain_string t h = ap (λ x. 34 ∷ (x ++ 34 ∷ [])) (sym (plain_inner t h))

pub doubled_string : (t : List ℕ) → is_odd t ≡ false → doubled (json_string t) ≡ 34 ∷ 34 ∷ (t ++ 34 ∷ 34 ∷ [])
doubled_string t h =
    ap doubled (sym (plain_string t h)) ∙ ap (λ x. 34 ∷ 34 ∷ x) (flat_map-append twice t (34 ∷ []) ∙ ap (λ x. x ++ 34 ∷ 34 ∷ []) (plain_doubled t h))

-- a plain tag within a quoted field
doubled_member : (t : Tag) → is_odd t.key ≡ false → is_odd t.value ≡ false
    → doubled (json_member t) ≡ 34 ∷ 34 ∷ (t.key ++ 34 ∷ 34 ∷ 58 ∷ 34 ∷ 34 ∷ (t.value ++ 34 ∷ 34 ∷ []))
doubled_member t k v =
    let rest = 34 ∷ 34 ∷ (t.value ++ 34 ∷ 34 ∷ []) in
    flat_map-append twice (json_string t.key ++ 58 ∷ []) (json_string t.value)
    ∙ ap (λ x. x ++ doubled (json_string t.value)) (flat_map-append twice (json_string t.key) (58 ∷ []))
    ∙ ap₂ (λ x y. (x ++ 58 ∷ []) ++ y) (doubled_string t.key k) (doubled_string t.value v)
    ∙ ap (λ x. 34 ∷ 34 ∷ x) (append_assoc (t.key ++ 34 ∷ 34 ∷ []) (58 ∷ []) rest ∙ append_assoc t.key (34 ∷ 34 ∷ []) (58 ∷ rest))

-- what is put behind a text for a plain tag
pub plain_put : (old front begin : List ℕ) (t : Tag) → is_odd t.key ≡ false → is_odd t.value ≡ false → begin ≡ front ++ 34 ∷ 34 ∷ []
    → ((((old ++ begin) ++ t.key) ++ 34 ∷ 34 ∷ 58 ∷ 34 ∷ 34 ∷ []) ++ t.value) ++ 34 ∷ 34 ∷ [] ≡ old ++ (front ++ doubled (json_member t))
plain_put old front begin t k v is =
    let middle = 34 ∷ 34 ∷ 58 ∷ 34 ∷ 34 ∷ [] in
    let end = 34 ∷ 34 ∷ [] in
    let rest = t.key ++ (middle ++ (t.value ++ end)) in
    append_assoc (((old ++ begin) ++ t.key) ++ middle) t.value end
    ∙ append_assoc ((old ++ begin) ++ t.key) middle (t.value ++ end)
    ∙ append_assoc (old ++ begin) t.key (middle ++ (t.value ++ end))
    ∙ append_assoc old begin rest
    ∙ ap (λ x. old ++ (x ++ rest)) is
    ∙ ap (λ x. old ++ x) (append_assoc front end rest)
    ∙ ap (λ x. old ++ (front ++ x)) (sym (doubled_member t k v))

-- a string is quoted in a field, since its quotation marks are
pub string_quoted : (t : List ℕ) → quoted (json_string t) ≡ 34 ∷ (doubled (json_string t) ++ 34 ∷ [])
string_quoted t = refl

-- what is put behind a text for any tag
pub odd_put : (old front : List ℕ) (t : Tag)
    → (((old ++ front) ++ doubled (json_string t.key)) ++ 58 ∷ []) ++ doubled (json_string t.value) ≡ old ++ (front ++ doubled (json_member t))
odd_put old front t =
    let key = doubled (json_string t.key) in
    let value = doubled (json_string t.value) in
    append_assoc ((old ++ front) ++ key) (58 ∷ []) value
    ∙ append_assoc (old ++ front) key (58 ∷ value)
    ∙ append_assoc old front (key ++ 58 ∷ value)
    ∙ ap (λ x. old ++ (front ++ x))
    (sym (append_assoc key (58 ∷ []) value)
    ∙ sym (flat_map-append twice (json_string t.key ++ 58 ∷ []) (json_string t.value) ∙ ap (λ x. x ++ value) (flat_map-append twice (json_string t.key) (58 ∷ []))))

-- one tag less is left within the quotation marks
pub one_less_doubled : (text : List ℕ) (t : Tag) (ts : List Tag)
    → (text ++ 44 ∷ doubled (json_member t)) ++ doubled (members_left (44 ∷ []) ts) ≡ text ++ doubled (members_left (44 ∷ []) (t ∷ ts))
one_less_doubled text t ts =
    append_assoc text (44 ∷ doubled (json_member t)) (doubled (members_left (44 ∷ []) ts))
    ∙ ap (λ x. text ++ 44 ∷ x) (sym (flat_map-append twice (json_member t) (members_left (44 ∷ []) ts)))

pub first_doubled : (t : Tag) (ts : List Tag) → doubled (json_member t) ++ doubled (members_left (44 ∷ []) ts) ≡ doubled (members_left [] (t ∷ ts))
first_doubled t ts = sym (flat_map-append twice (json_member t) (members_left (44 ∷ []) ts))

-- an object of some tags is quoted
is_quoted : (t : Tag) (ts : List Tag) → list_any (λ c. (c == 44) || (c == 34) || (c == 13) || (c == 10)) (json_object (t ∷ ts)) ≡ true
is_quoted t [] = refl
is_quoted t (u ∷ us) = refl

quoted_object : (t : Tag) (ts : List Tag) → quoted (json_object (t ∷ ts)) ≡ 34 ∷ (doubled (json_object (t ∷ ts)) ++ 34 ∷ [])
quoted_object t ts = ap (λ b. if b then 34 ∷ doubled (json_object (t ∷ ts)) ++ 34 ∷ [] else json_object (t ∷ ts)) (is_quoted t ts)

-- what was written of some tags, with its end behind it
pub plain_object : (all : List Tag) (t : Tag) (ts : List Tag) (piece : List ℕ) → all ≡ t ∷ ts
    → piece ≡ 44 ∷ 34 ∷ 123 ∷ doubled (members_left [] all)
    → piece ++ 125 ∷ 34 ∷ [] ≡ behind (json_object all ∷ [])
plain_object all t ts piece some is =
    let members = join_with_byte 44 (map json_member (t ∷ ts)) in
    ap (λ x. x ++ 125 ∷ 34 ∷ []) (is ∙ ap (λ x. 44 ∷ 34 ∷ 123 ∷ doubled (members_left [] x)) some ∙ ap (λ x. 44 ∷ 34 ∷ 123 ∷ doubled x) (all_left (t ∷ ts)))
    ∙ ap (λ x. 44 ∷ 34 ∷ 123 ∷ x) (sym (append_assoc (doubled members) (125 ∷ []) (34 ∷ [])) ∙ ap (λ x. x ++ 34 ∷ []) (sym (flat_map-append twice members (125 ∷ []))))
    ∙ ap (λ x. 44 ∷ x) (sym (quoted_object t ts))
    ∙ sym (append-nil (44 ∷ quoted (json_object (t ∷ ts))))
    ∙ ap (λ x. behind (json_object x ∷ [])) (sym some)
