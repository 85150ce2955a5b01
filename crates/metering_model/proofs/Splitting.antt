-- Cutting a text at a byte and joining the parts by that byte undo one another, and what lines a text has.
use Rattle.std.proofs.Common.{◌≡◌, ℕ, Bool, true, false, not, List, [], ◌∷◌, ◌++◌, refl, sym, ap, ◌∙◌, flat_map, append_assoc, eq-eqb}
use Rattle.std.specs.Prelude.{◌==◌}
use Rattle.std.specs.List.{list_all, slice_split, onto_first, join_with_byte}
use Rattle.std.proofs.lemmas.List.Splits.{slice_split-cons_yes, slice_split-cons_no, join_with_byte-slice_split}
use Rattle.std.proofs.lemmas.Bool.{and_parts, and_from, not-true, not_from_false}
use Rattle.metering_model.specs.Batch.{lacks}
use Rattle.metering_model.specs.BatchReading.{with_line, lines_of_parts, lines_in}

-- the parts between the places where a byte stands
abbrev pub parts_at : ℕ → List ℕ → List (List ℕ)
parts_at c t = slice_split (λ x. x == c) t

-- a line with its line feed
abbrev pub ended : List ℕ → List ℕ
ended l = l ++ 10 ∷ []

-- ---- tests of each element

-- what passes a test passes a weaker one
pub list_all_weaker : {A : Type 0} (p q : A → Bool) → ((x : A) → p x ≡ true → q x ≡ true) → (xs : List A) → list_all p xs ≡ true → list_all q xs ≡ true
list_all_weaker p q f [] h = refl
list_all_weaker p q f (x ∷ xs) h =
    let both = and_parts (p x) (list_all p xs) h in
    and_from _ _ (f x both.0) (list_all_weaker p q f xs both.1)

-- two texts in a row pass a test where each does
pub list_all_both : (p : ℕ → Bool) (s t : List ℕ) → list_all p s ≡ true → list_all p t ≡ true → list_all p (s ++ t) ≡ true
list_all_both p [] t h k = k
list_all_both p (c ∷ cs) t h k =
    let both = and_parts (p c) (list_all p cs) h in
    and_from _ _ both.0 (list_all_both p cs t both.1 k)

pub list_all_left : (p : ℕ → Bool) (s t : List ℕ) → list_all p (s ++ t) ≡ true → list_all p s ≡ true
list_all_left p [] t h = refl
list_all_left p (c ∷ cs) t h =
    let both = and_parts (p c) (list_all p (cs ++ t)) h in
    and_from _ _ both.0 (list_all_left p cs t both.1)

pub list_all_right : (p : ℕ → Bool) (s t : List ℕ) → list_all p (s ++ t) ≡ true → list_all p t ≡ true
list_all_right p [] t h = h
list_all_right p (c ∷ cs) t h = list_all_right p cs t ((and_parts (p c) (list_all p (cs ++ t)) h).1)

-- ---- cutting what was joined

-- a text without the byte is one part
pub cut_whole : (c : ℕ) (t : List ℕ) → lacks c t ≡ true → parts_at c t ≡ t ∷ []
cut_whole c [] h = refl
cut_whole c (x ∷ xs) h =
    let both = and_parts (not (x == c)) (lacks c xs) h in
    slice_split-cons_no (λ y. y == c) x xs (not-true _ both.0) ∙ ap (onto_first x) (cut_whole c xs both.1)

-- the first part ends at the first such byte
pub cut_first : (c : ℕ) (s t : List ℕ) → lacks c s ≡ true → parts_at c (s ++ c ∷ t) ≡ s ∷ parts_at c t
cut_first c [] t h = slice_split-cons_yes (λ y. y == c) c t (eq-eqb c c refl)
cut_first c (x ∷ xs) t h =
    let both = and_parts (not (x == c)) (lacks c xs) h in
    slice_split-cons_no (λ y. y == c) x (xs ++ c ∷ t) (not-true _ both.0) ∙ ap (onto_first x) (cut_first c xs t both.1)

-- there is a first part
parts_some : (c : ℕ) (t : List ℕ) → (p : List ℕ) × (ps : List (List ℕ)) × (parts_at c t ≡ p ∷ ps)
parts_some c [] = ([], [], refl)
parts_some c (x ∷ xs) = cases (x == c) refl (parts_some c xs)
  where
    cases : (b : Bool) → (x == c) ≡ b → (p : List ℕ) × (ps : List (List ℕ)) × (parts_at c xs ≡ p ∷ ps) → (p : List ℕ) × (ps : List (List ℕ)) × (parts_at c (x ∷ xs) ≡ p ∷ ps)
    cases true e rest = ([], parts_at c xs, slice_split-cons_yes (λ y. y == c) x xs e)
    cases false e rest = (x ∷ rest.0, rest.1, slice_split-cons_no (λ y. y == c) x xs e ∙ ap (onto_first x) rest.2)

-- the last part begins behind the last such byte
pub cut_last : (c : ℕ) (s t : List ℕ) → lacks c t ≡ true → parts_at c (s ++ c ∷ t) ≡ parts_at c s ++ t ∷ []
cut_last c [] t h = cut_first c [] t refl ∙ ap (λ ps. [] ∷ ps) (cut_whole c t h)
cut_last c (x ∷ xs) t h = cases (x == c) refl (cut_last c xs t h)
  where
    cases : (b : Bool) → (x == c) ≡ b → parts_at c (xs ++ c ∷ t) ≡ parts_at c xs ++ t ∷ [] → parts_at c (x ∷ xs ++ c ∷ t) ≡ parts_at c (x ∷ xs) ++ t ∷ []
    cases true e rest =
        slice_split-cons_yes (λ y. y == c) x (xs ++ c ∷ t) e
        ∙ (ap (λ ps. [] ∷ ps) rest
        ∙ ap (λ ps. ps ++ t ∷ []) (sym (slice_split-cons_yes (λ y. y == c) x xs e)))
    cases false e rest =
        let some = parts_some c xs in
        let onto : onto_first x (parts_at c xs ++ t ∷ []) ≡ onto_first x (parts_at c xs) ++ t ∷ [] = rw some.2 refl in
        slice_split-cons_no (λ y. y == c) x (xs ++ c ∷ t) e
        ∙ (ap (onto_first x) rest
        ∙ (onto
        ∙ ap (λ ps. ps ++ t ∷ []) (sym (slice_split-cons_no (λ y. y == c) x xs e))))

-- parts without the byte come back
pub cut_join : (c : ℕ) (s : List ℕ) (ss : List (List ℕ)) → list_all (lacks c) (s ∷ ss) ≡ true → parts_at c (join_with_byte c (s ∷ ss)) ≡ s ∷ ss
cut_join c s [] h = cut_whole c s ((and_parts (lacks c s) true h).0)
cut_join c s (t ∷ ts) h =
    let both = and_parts (lacks c s) (list_all (lacks c) (t ∷ ts)) h in
    cut_first c s (join_with_byte c (t ∷ ts)) both.0 ∙ ap (λ ps. s ∷ ps) (cut_join c t ts both.1)

-- ---- joining what was cut

-- the parts give the text back
pub join_cut : (c : ℕ) (t : List ℕ) → join_with_byte c (parts_at c t) ≡ t
join_cut c t = join_with_byte-slice_split c t

-- no part has the byte, with another byte before the first part
onto_lacks : (c x : ℕ) (ps : List (List ℕ)) → (x == c) ≡ false → list_all (lacks c) ps ≡ true → list_all (lacks c) (onto_first x ps) ≡ true
onto_lacks c x [] h k = and_from _ _ (and_from _ _ (not_from_false _ h) refl) refl
onto_lacks c x (p ∷ ps) h k =
    let both = and_parts (lacks c p) (list_all (lacks c) ps) k in
    and_from _ _ (and_from _ _ (not_from_false _ h) both.0) both.1

-- no part has the byte
pub parts_lack : (c : ℕ) (t : List ℕ) → list_all (lacks c) (parts_at c t) ≡ true
parts_lack c [] = refl
parts_lack c (x ∷ xs) = cases (x == c) refl (parts_lack c xs)
  where
    cases : (b : Bool) → (x == c) ≡ b → list_all (lacks c) (parts_at c xs) ≡ true → list_all (lacks c) (parts_at c (x ∷ xs)) ≡ true
    cases true e h = ap (list_all (lacks c)) (slice_split-cons_yes (λ y. y == c) x xs e) ∙ h
    cases false e h = ap (list_all (lacks c)) (slice_split-cons_no (λ y. y == c) x xs e) ∙ onto_lacks c x (parts_at c xs) e h

-- what each byte of the parts passes each byte of the join passes, if the byte between them does
pub join_passes : (p : ℕ → Bool) (c : ℕ) (ts : List (List ℕ)) → p c ≡ true → list_all (list_all p) ts ≡ true → list_all p (join_with_byte c ts) ≡ true
join_passes p c [] h k = refl
join_passes p c (t ∷ []) h k = (and_parts (list_all p t) true k).0
join_passes p c (t ∷ u ∷ us) h k =
    let both = and_parts (list_all p t) (list_all (list_all p) (u ∷ us)) k in
    list_all_both p t (c ∷ join_with_byte c (u ∷ us)) both.0 (and_from _ _ h (join_passes p c (u ∷ us) h both.1))

-- and the other way round
pub join_passed : (p : ℕ → Bool) (c : ℕ) (ts : List (List ℕ)) → list_all p (join_with_byte c ts) ≡ true → list_all (list_all p) ts ≡ true
join_passed p c [] h = refl
join_passed p c (t ∷ []) h = and_from _ _ h refl
join_passed p c (t ∷ u ∷ us) h =
    let rest = and_parts (p c) (list_all p (join_with_byte c (u ∷ us))) (list_all_right p t (c ∷ join_with_byte c (u ∷ us)) h) in
    and_from _ _ (list_all_left p t (c ∷ join_with_byte c (u ∷ us)) h) (join_passed p c (u ∷ us) rest.1)

-- ---- the lines of a text

-- lines and rest are the parts between line feeds
lines_joined : (ps : List (List ℕ)) → flat_map ended (lines_of_parts ps).lines ++ (lines_of_parts ps).rest ≡ join_with_byte 10 ps
lines_joined [] = refl
lines_joined (p ∷ []) = refl
lines_joined (p ∷ q ∷ ps) =
    append_assoc (ended p) (flat_map ended (lines_of_parts (q ∷ ps)).lines) (lines_of_parts (q ∷ ps)).rest
    ∙ append_assoc p (10 ∷ []) (flat_map ended (lines_of_parts (q ∷ ps)).lines ++ (lines_of_parts (q ∷ ps)).rest)
    ∙ ap (λ t. p ++ 10 ∷ t) (lines_joined (q ∷ ps))

-- the lines with their line feeds and the rest are the text
pub lines_give_back : (text : List ℕ) → flat_map ended (lines_in text).lines ++ (lines_in text).rest ≡ text
lines_give_back text = lines_joined (parts_at 10 text) ∙ join_cut 10 text

-- behind the last line feed stands one more part, which is empty
cut_lines : (ls : List (List ℕ)) → list_all (lacks 10) ls ≡ true → parts_at 10 (flat_map ended ls) ≡ ls ++ [] ∷ []
cut_lines [] h = refl
cut_lines (l ∷ ls) h =
    let both = and_parts (lacks 10 l) (list_all (lacks 10) ls) h in
    ap (parts_at 10) (append_assoc l (10 ∷ []) (flat_map ended ls))
    ∙ cut_first 10 l (flat_map ended ls) both.0
    ∙ ap (λ ps. l ∷ ps) (cut_lines ls both.1)

-- that part is the rest
parts_of_lines : (ls : List (List ℕ)) → lines_of_parts (ls ++ [] ∷ []) ≡ record { lines = ls; rest = [] }
parts_of_lines [] = refl
parts_of_lines (l ∷ []) = refl
parts_of_lines (l ∷ m ∷ ls) = ap (with_line l) (parts_of_lines (m ∷ ls))

-- lines without a line feed come back, and nothing behind them
pub lines_of_text : (ls : List (List ℕ)) → list_all (lacks 10) ls ≡ true → lines_in (flat_map ended ls) ≡ record { lines = ls; rest = [] }
lines_of_text ls h = ap lines_of_parts (cut_lines ls h) ∙ parts_of_lines ls
