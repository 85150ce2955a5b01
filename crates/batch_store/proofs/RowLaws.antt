-- The parts of a row.
use Rattle.std.proofs.Common.{◌≡◌, ℕ, zero, suc, ◌+◌, ◌*◌, ◌/◌, ◌%◌, ◌<◌, ◌≤◌, List, [], ◌∷◌, ◌++◌, length, take, get_or, refl, sym, ap, ap₂, subst, ◌∙◌, arith, append_assoc, length-append}
use Rattle.std.specs.List.{flat_map, AllZip}
use Rattle.std.specs.Arc.{arc_value}
use Rattle.std.proofs.lemmas.List.{append-nil, take-append-le}
use Rattle.std.proofs.lemmas.Grind.{flat_map-append}
use Rattle.batch_store.specs.Inner.Shelves.{Shared}
use Rattle.batch_store.specs.Inner.Rows.{AreClones, AreFull, IsRow, Part, batches_in, in_parts, part_at}
use Rattle.batch_store.proofs.Clones.{same_clones, clones_joined, clones_length, parts_length}

-- the parts are as many as stand before a place
pub part_within : (parts : List Part) (last : List Shared) (n c r : ℕ) → AreFull parts → length last < 64 → n ≤ length (in_parts parts last) → n ≡ 64 * c + r → c ≤ length parts
part_within parts last n c r full few within is = let long = parts_length parts last full in omega (arith, few, within, is, long)

pub part_length : (parts : List Part) (last : List Shared) (c r : ℕ) → AreFull parts → r < 64 → c ≤ length parts → 64 * c + r ≤ length (in_parts parts last) → r ≤ length (part_at parts last c)
part_length [] last zero r full few within long = omega (arith, long)
part_length [] last (suc c) r full few within long = absurd (omega (arith, within))
part_length (p ∷ parts) last zero r full few within long = omega (arith, full.0, few)
part_length (p ∷ parts) last (suc c) r full few within long =
    let all = parts_length (p ∷ parts) last full in
    let rest = parts_length parts last full.1 in
    part_length parts last c r full.1 few (omega (arith, within)) (omega (arith, long, all, rest))

-- there is one more behind as many
pub part_longer : (parts : List Part) (last : List Shared) (c r : ℕ) → AreFull parts → r < 64 → c ≤ length parts → 64 * c + r < length (in_parts parts last) → r < length (part_at parts last c)
part_longer [] last zero r full few within long = omega (arith, long)
part_longer [] last (suc c) r full few within long = absurd (omega (arith, within))
part_longer (p ∷ parts) last zero r full few within long = omega (arith, full.0, few)
part_longer (p ∷ parts) last (suc c) r full few within long =
    let all = parts_length (p ∷ parts) last full in
    let rest = parts_length parts last full.1 in
    part_longer parts last c r full.1 few (omega (arith, within)) (omega (arith, long, all, rest))

-- ---- the batch at a place

behind : {X : Type 0} (xs ys : List X) (n m : ℕ) (d : X) → n ≡ length xs + m → get_or (xs ++ ys) n d ≡ get_or ys m d
behind [] ys n m d e = let same : n ≡ m = omega (arith, e) in ap (λ k. get_or ys k d) same
behind (x ∷ xs) ys zero m d e = absurd (omega (arith, e))
behind (x ∷ xs) ys (suc n) m d e = behind xs ys n m d (omega (arith, e))

before : {X : Type 0} (xs ys : List X) (n : ℕ) (d : X) → n < length xs → get_or (xs ++ ys) n d ≡ get_or xs n d
before [] ys n d low = absurd (omega (arith, low))
before (x ∷ xs) ys zero d low = refl
before (x ∷ xs) ys (suc n) d low = before xs ys n d (omega (arith, low))

pub at_part : (parts : List Part) (last : List Shared) (n c r : ℕ) (d : Shared) → AreFull parts → r < 64 → c ≤ length parts → n ≡ 64 * c + r → get_or (part_at parts last c) r d ≡ get_or (in_parts parts last) n d
at_part [] last n zero r d full few within is = ap (λ k. get_or last k d) (omega (arith, is))
at_part [] last n (suc c) r d full few within is = absurd (omega (arith, within))
at_part (p ∷ parts) last n zero r d full few within is =
    let same : r ≡ n = omega (arith, is) in
    let shown = before (batches_in p) (in_parts parts last) n d (omega (arith, full.0, few, is)) in
    ap (λ k. get_or (batches_in p) k d) same ∙ (sym shown ∙ ap (λ xs. get_or xs n d) (sym (append_assoc (batches_in p) (flat_map batches_in parts) last)))
at_part (p ∷ parts) last n (suc c) r d full few within is =
    let shown = behind (batches_in p) (in_parts parts last) n (64 * c + r) d (omega (arith, full.0, is)) in
    at_part parts last (64 * c + r) c r d full.1 few (omega (arith, within)) refl ∙ (sym shown ∙ ap (λ xs. get_or xs n d) (sym (append_assoc (batches_in p) (flat_map batches_in parts) last)))

-- ---- the first batches

past : {X : Type 0} (xs ys : List X) (n m : ℕ) → n ≡ length xs + m → take n (xs ++ ys) ≡ xs ++ take m ys
past [] ys n m e = let same : n ≡ m = omega (arith, e) in ap (λ k. take k ys) same
past (x ∷ xs) ys zero m e = absurd (omega (arith, e))
past (x ∷ xs) ys (suc n) m e = ap (λ zs. x ∷ zs) (past xs ys n m (omega (arith, e)))

pub taken : (parts : List Part) (last : List Shared) (n c r : ℕ) → AreFull parts → r < 64 → c ≤ length parts → n ≡ 64 * c + r
    → take n (in_parts parts last) ≡ in_parts (take c parts) (take r (part_at parts last c))
taken [] last n zero r full few within is = ap (λ k. take k last) (omega (arith, is))
taken [] last n (suc c) r full few within is = absurd (omega (arith, within))
taken (p ∷ parts) last n zero r full few within is =
    let same : n ≡ r = omega (arith, is) in
    ap (take n) (append_assoc (batches_in p) (flat_map batches_in parts) last) ∙ (take-append-le n (batches_in p) (in_parts parts last) (omega (arith, full.0, few, is)) ∙ ap (λ k. take k (batches_in p)) same)
taken (p ∷ parts) last n (suc c) r full few within is =
    ap (take n) (append_assoc (batches_in p) (flat_map batches_in parts) last)
    ∙ (past (batches_in p) (in_parts parts last) n (64 * c + r) (omega (arith, full.0, is))
    ∙ (ap (λ xs. batches_in p ++ xs) (taken parts last (64 * c + r) c r full.1 few (omega (arith, within)) refl)
    ∙ sym (append_assoc (batches_in p) (flat_map batches_in (take c parts)) (take r (part_at parts last c)))))

pub length_taken : {X : Type 0} (n : ℕ) (xs : List X) → n ≤ length xs → length (take n xs) ≡ n
length_taken zero xs low = refl
length_taken (suc n) [] low = absurd (omega (arith, low))
length_taken (suc n) (x ∷ xs) low = let rest = length_taken n xs (omega (arith, low)) in omega (arith, rest)

-- ---- parts that are shared once more

abbrev pub ArePartClones : List Part → List Part → Type 0
ArePartClones ps qs = AllZip (λ a b. arc_value b ≡ arc_value a) ps qs

same_batches : (ps qs : List Part) → ArePartClones ps qs → flat_map batches_in qs ≡ flat_map batches_in ps
same_batches [] [] z = refl
same_batches [] (q ∷ qs) z = absurd z
same_batches (p ∷ ps) [] z = absurd z
same_batches (p ∷ ps) (q ∷ qs) z = let first = ap (λ v. v.items) z.0 in let rest = same_batches ps qs z.1 in cc

full_clones : (ps qs : List Part) → ArePartClones ps qs → AreFull ps → AreFull qs
full_clones [] [] z full = tt
full_clones [] (q ∷ qs) z full = absurd z
full_clones (p ∷ ps) [] z full = absurd z
full_clones (p ∷ ps) (q ∷ qs) z full = (ap (λ v. length v.items) z.0 ∙ full.0, full_clones ps qs z.1 full.1)

full_taken : (n : ℕ) (ps : List Part) → AreFull ps → AreFull (take n ps)
full_taken zero ps full = tt
full_taken (suc n) [] full = tt
full_taken (suc n) (p ∷ ps) full = (full.0, full_taken n ps full.1)

full_joined : (ps : List Part) (p : Part) → AreFull ps → length (batches_in p) ≡ 64 → AreFull (ps ++ p ∷ [])
full_joined [] p full own = (own, tt)
full_joined (x ∷ ps) p full own = (full.0, full_joined ps p full.1 own)

-- what is shared of a row
pub shared_row : (parts : List Part) (last : List Shared) (count n c r : ℕ) (qs : List Part) (ys : List Shared) → IsRow parts last count → n ≤ length (in_parts parts last) → n ≡ 64 * c + r → r < 64
    → ArePartClones (take c parts) qs → AreClones (take r (part_at parts last c)) ys
    → IsRow qs ys n × AreClones (take n (in_parts parts last)) (in_parts qs ys)
shared_row parts last count n c r qs ys is within at few zp zl =
    let enough = part_within parts last n c r is.full is.few within at in
    let same = taken parts last n c r is.full few enough at in
    let front = subst (λ xs. AreClones (flat_map batches_in (take c parts)) xs) (sym (same_batches (take c parts) qs zp)) (same_clones (flat_map batches_in (take c parts))) in
    let clones = subst (λ xs. AreClones xs (in_parts qs ys)) (sym same) (clones_joined (flat_map batches_in (take c parts)) (flat_map batches_in qs) (take r (part_at parts last c)) ys front zl) in
    let many = clones_length (take n (in_parts parts last)) (in_parts qs ys) clones in
    let long = length_taken n (in_parts parts last) within in
    let left = clones_length (take r (part_at parts last c)) ys zl in
    let short = is.short in (
      record {
        full = full_clones (take c parts) qs zp (full_taken c parts is.full);
        few = let most = length-take-most r (part_at parts last c) in omega (arith, left, most, few);
        count = omega (arith, many, long);
        short = omega (arith, many, long, within, short);
      },
      clones,
    )
  where
    length-take-most : {X : Type 0} (n : ℕ) (xs : List X) → length (take n xs) ≤ n
    length-take-most zero xs = omega arith
    length-take-most (suc n) [] = omega arith
    length-take-most (suc n) (x ∷ xs) = let rest = length-take-most n xs in omega (arith, rest)

-- ---- one batch more

-- behind the last
pub one_behind : (parts : List Part) (last now : List Shared) (count : ℕ) (b : Shared) → IsRow parts last count → length (in_parts parts last) < 1_000_000 → length last + 1 < 64 → now ≡ last ++ b ∷ []
    → IsRow parts now (count + 1) × AreClones (in_parts parts last ++ b ∷ []) (in_parts parts now)
one_behind parts last now count b is room few e =
    let same : in_parts parts now ≡ in_parts parts last ++ b ∷ [] = ap (in_parts parts) e ∙ sym (append_assoc (flat_map batches_in parts) last (b ∷ [])) in
    let many = ap length same ∙ length-append (in_parts parts last) (b ∷ []) in
    let own = ap length e ∙ length-append last (b ∷ []) in
    let count = is.count in (
      record {
        full = is.full;
        few = omega (arith, own, few);
        count = omega (arith, many, count);
        short = omega (arith, many, room);
      },
      subst (AreClones (in_parts parts last ++ b ∷ [])) (sym same) (same_clones (in_parts parts last ++ b ∷ [])),
    )

-- as the last of a part
pub one_part_more : (parts now : List Part) (last none : List Shared) (count : ℕ) (b : Shared) (p : Part) → IsRow parts last count → length (in_parts parts last) < 1_000_000 → 64 ≤ length last + 1
    → AreClones (last ++ b ∷ []) (batches_in p) → now ≡ parts ++ p ∷ [] → none ≡ []
    → IsRow now none (count + 1) × AreClones (in_parts parts last ++ b ∷ []) (in_parts now none)
one_part_more parts now last none count b p is room many zp e en =
    let all = append-nil (flat_map batches_in parts ++ batches_in p) in
    let joined : flat_map batches_in (parts ++ p ∷ []) ≡ flat_map batches_in parts ++ batches_in p = flat_map-append batches_in parts (p ∷ []) ∙ ap (λ xs. flat_map batches_in parts ++ xs) (append-nil (batches_in p)) in
    let same : in_parts now none ≡ flat_map batches_in parts ++ batches_in p = ap₂ in_parts e en ∙ (append-nil (flat_map batches_in (parts ++ p ∷ [])) ∙ joined) in
    let added = subst (λ xs. AreClones xs (flat_map batches_in parts ++ batches_in p)) (sym (append_assoc (flat_map batches_in parts) last (b ∷ [])))
    (clones_joined (flat_map batches_in parts) (flat_map batches_in parts) (last ++ b ∷ []) (batches_in p) (same_clones (flat_map batches_in parts)) zp) in
    let clones = subst (AreClones (in_parts parts last ++ b ∷ [])) (sym same) added in
    let long = clones_length (in_parts parts last ++ b ∷ []) (in_parts now none) clones ∙ length-append (in_parts parts last) (b ∷ []) in
    let own = clones_length (last ++ b ∷ []) (batches_in p) zp ∙ length-append last (b ∷ []) in
    let few = is.few in
    let count = is.count in (
      record {
        full = subst AreFull (sym e) (full_joined parts p is.full (omega (arith, own, few, many)));
        few = let nothing = ap length en in omega (arith, nothing);
        count = omega (arith, long, count);
        short = omega (arith, long, room);
      },
      clones,
    )

-- ---- a part, by its number

pub part_there : (parts : List Part) (last : List Shared) (n : ℕ) (d : Part) → n < length parts → batches_in (get_or parts n d) ≡ part_at parts last n
part_there [] last n d low = absurd (omega (arith, low))
part_there (p ∷ parts) last zero d low = refl
part_there (p ∷ parts) last (suc n) d low = part_there parts last n d (omega (arith, low))

pub part_behind : (parts : List Part) (last : List Shared) (n : ℕ) → length parts ≤ n → n ≤ length parts → last ≡ part_at parts last n
part_behind [] last zero high low = refl
part_behind [] last (suc n) high low = refl
part_behind (p ∷ parts) last zero high low = absurd (omega (arith, high))
part_behind (p ∷ parts) last (suc n) high low = part_behind parts last n (omega (arith, high)) (omega (arith, low))

-- ---- a place in its part

pub split : (n : ℕ) → n ≡ 64 * (n / 64) + n % 64
split n = omega arith

pub rest_small : (n : ℕ) → n % 64 < 64
rest_small n = omega arith

-- what a copy of a list has, where none stood before it
pub copied : {X : Type 0} (R : X → X → Type 0) (xs none now : List X) → none ≡ [] → ((cs : List X) × (now ≡ none ++ cs) × AllZip R xs cs) → AllZip R xs now
copied R xs none now e clones = subst (AllZip R xs) (sym (clones.1 ∙ ap (λ ys. ys ++ clones.0) e)) clones.2
