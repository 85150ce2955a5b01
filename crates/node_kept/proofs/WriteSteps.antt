-- A kept text is written number by number, cut by cut and batch by batch.
use Rattle.std.proofs.Common.{◌≡◌, ℕ, zero, suc, ◌+◌, ◌≤◌, ◌<◌, List, [], ◌∷◌, ◌++◌, length, map, take, flat_map, All, decimal, get_or, Ok, refl, sym, ap, ◌∙◌, arith, append-nil, append_assoc}
use Rattle.std.specs.List.{join_with_byte}
use Rattle.std.proofs.lemmas.List.Elements.{All-nil, All-cons, All-head, All-tail}
use Rattle.std.proofs.lemmas.List.Concat.{flat_map-append}
use Rattle.metering_model.specs.Batch.{Batch, batch_text, line_of_fields}
use Rattle.metering_model.specs.BatchReading.{batch_in}
use Rattle.metering_model.specs.KeptText.{KeptAmong, cut_text, kept_head_fields, kept_text, vote_cuts}
use Rattle.metering_model.proofs.BatchLaws.{batch_read}
use Rattle.metering_model.proofs.KeptLaws.{few_batches}
use Rattle.batch_store.proofs.CutTexts.{join_more}
use Rattle.batch_store.specs.Stores.{Stored, IsStored}
use Rattle.batch_store.specs.Batches.{batch_of}

-- ---- one element more of a list

pub take_one_more : {A : Type 0} (xs : List A) (k : ℕ) (d : A) → k < length xs → take (k + 1) xs ≡ take k xs ++ get_or xs k d ∷ []
take_one_more [] k d low = absurd (omega (arith, low))
take_one_more (x ∷ xs) zero d low = refl
take_one_more (x ∷ xs) (suc k) d low =
    let next : suc k + 1 ≡ suc (k + 1) = omega arith in
    ap (λ n. take n (x ∷ xs)) next ∙ ap (λ ys. x ∷ ys) (take_one_more xs k d (omega (arith, low)))

pub map_one_more : {A B : Type 0} (f : A → B) (xs : List A) (x : A) → map f (xs ++ x ∷ []) ≡ map f xs ++ f x ∷ []
map_one_more f [] x = refl
map_one_more f (y ∷ ys) x = ap (λ ts. f y ∷ ts) (map_one_more f ys x)

-- ---- numbers of a head line

pub one_number_more : (word : List ℕ) (numbers : List ℕ) (k : ℕ) → k < length numbers →
    join_with_byte 124 (word ∷ map decimal (take k numbers)) ++ 124 ∷ decimal (get_or numbers k 0) ≡ join_with_byte 124 (word ∷ map decimal (take (k + 1) numbers))
one_number_more word numbers k low =
    sym (join_more word (map decimal (take k numbers)) (decimal (get_or numbers k 0)))
    ∙ ap (λ ts. join_with_byte 124 (word ∷ ts)) (sym (map_one_more decimal (take k numbers) (get_or numbers k 0)))
    ∙ ap (λ ns. join_with_byte 124 (word ∷ map decimal ns)) (sym (take_one_more numbers k 0 low))

-- ---- cuts and batches

pub one_more_of : {A B : Type 0} (f : A → B) (t : B → List ℕ) (xs : List A) (k : ℕ) (x : A) → k < length xs → x ≡ get_or xs k x →
    flat_map t (map f (take k xs)) ++ t (f x) ≡ flat_map t (map f (take (k + 1) xs))
one_more_of f t xs k x low e =
    let last = ap (λ y. take k xs ++ y ∷ []) (sym e) in
    ap (λ u. flat_map t (map f (take k xs)) ++ u) (sym (append-nil (t (f x))))
    ∙ sym (flat_map-append t (map f (take k xs)) (f x ∷ []))
    ∙ ap (flat_map t) (sym (map_one_more f (take k xs) x))
    ∙ ap (λ ys. flat_map t (map f ys)) (sym (take_one_more xs k x low ∙ last))

pub all_of : {A B : Type 0} (f : A → B) (xs : List A) (k : ℕ) → length xs ≤ k → map f (take k xs) ≡ map f xs
all_of f [] zero end = refl
all_of f [] (suc k) end = refl
all_of f (x ∷ xs) zero end = absurd (omega (arith, end))
all_of f (x ∷ xs) (suc k) end = ap (λ ys. f x ∷ ys) (all_of f xs k (omega (arith, end)))

-- a batch's bytes are its text, and few
pub bytes_are_text : (bytes : List ℕ) → batch_in bytes ≡ Ok (batch_of bytes) → bytes ≡ batch_text (batch_of bytes)
bytes_are_text bytes e = (batch_read bytes (batch_of bytes) e).joined

pub bytes_are_few : (bytes : List ℕ) → batch_in bytes ≡ Ok (batch_of bytes) → length bytes ≤ 65_536
bytes_are_few bytes e = (batch_read bytes (batch_of bytes) e).short

-- one batch more is put, and one less is left
pub put_one_more : (before bytes whole : List ℕ) (h left : List Batch) (b : Batch) → h ≡ b ∷ left → bytes ≡ batch_text b → before ++ flat_map batch_text h ≡ whole → (before ++ bytes) ++ flat_map batch_text left ≡ whole
put_one_more before bytes whole h left b is is_text here =
    append_assoc before bytes (flat_map batch_text left)
    ∙ ap (λ t. before ++ (t ++ flat_map batch_text left)) is_text
    ∙ ap (λ k. before ++ flat_map batch_text k) (sym is)
    ∙ here

all_lower : (agents : ℕ) (h : List Batch) → agents ≤ 64 → All (λ b. b.agent ≤ agents) h → All (λ b. b.agent ≤ 64) h
all_lower agents [] most low = All-nil (λ b. b.agent ≤ 64)
all_lower agents (b ∷ h) most low =
    let one = All-head (λ b. b.agent ≤ agents) b h low in
    All-cons (λ b. b.agent ≤ 64) b h (omega (arith, one, most)) (all_lower agents h most (All-tail (λ b. b.agent ≤ agents) b h low))

-- a store has few enough batches
pub store_is_few : (s : Stored) → IsStored s → length s.batches ≤ 64_000_000
store_is_few s is = few_batches s.batches is.is_holding (all_lower s.agents s.batches is.agents_to is.of_agents)

-- the text is put together from its head line, its cuts, that of its vote, and its batches
pub is_whole : (k : KeptAmong) (before : List ℕ) → before ≡ (((([] ++ line_of_fields (kept_head_fields k)) ++ flat_map cut_text k.kept.learned) ++ flat_map cut_text (vote_cuts k.kept.acceptor.vote)) ++ flat_map batch_text k.kept.holding) → before ≡ kept_text k
is_whole k before e =
    let head = line_of_fields (kept_head_fields k) in
    let learned = flat_map cut_text k.kept.learned in
    let voted = flat_map cut_text (vote_cuts k.kept.acceptor.vote) in
    e
    ∙ ap (λ t. t ++ flat_map batch_text k.kept.holding) (append_assoc head learned voted ∙ ap (λ t. head ++ t) (sym (flat_map-append cut_text k.kept.learned (vote_cuts k.kept.acceptor.vote))))
