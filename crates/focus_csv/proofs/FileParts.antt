-- A file grows behind its header line.
use Rattle.std.proofs.Common.{◌≡◌, ℕ, ◌+◌, ◌-◌, ◌<◌, ◌≤◌, List, [], ◌∷◌, ◌++◌, length, take, drop, get_or, refl, sym, ap, ◌∙◌, append_assoc, append-nil, arith}
use Rattle.std.specs.List.{flat_map}
use Rattle.std.proofs.lemmas.Grind.{flat_map-append}
use Rattle.std.proofs.lemmas.List.{drop_all, drop_more, get_or-drop, length-drop, take_all}
use Rattle.metering_model.specs.Row.{Row}
use Rattle.metering_model.specs.File.{file, header_line, row_text}
use Rattle.focus_csv.specs.Rows.{batch_lines}
use Rattle.focus_row.specs.Rows.{joined}
use Rattle.focus_csv.proofs.OneMore.{taken_more}

pub more : (written part : List Row) → file written ++ flat_map row_text part ≡ file (written ++ part)
more written part =
    append_assoc header_line (10 ∷ flat_map row_text written) (flat_map row_text part)
    ∙ ap (λ t. header_line ++ 10 ∷ t) (sym (flat_map-append row_text written part))

pub texts_of : (parts : List (List Row)) → flat_map (flat_map row_text) parts ≡ flat_map row_text (flat_map (λ part. part) parts)
texts_of [] = refl
texts_of (p ∷ ps) =
    ap (λ t. flat_map row_text p ++ t) (texts_of ps)
    ∙ sym (flat_map-append row_text p (flat_map (λ part. part) ps))

pub all_parts : (parts : List (List Row)) → (header_line ++ 10 ∷ []) ++ flat_map (flat_map row_text) parts ≡ file (flat_map (λ part. part) parts)
all_parts parts =
    append_assoc header_line (10 ∷ []) (flat_map (flat_map row_text) parts)
    ∙ ap (λ t. header_line ++ 10 ∷ t) (texts_of parts)

-- ---- the lines of batches

pub none_put : (batches : List (List Row)) (text : List ℕ) (from : ℕ) → text ≡ text ++ batch_lines (take (from - from) (drop from batches))
none_put batches text from =
    let none : from - from ≡ 0 = omega arith in
    sym (append-nil text) ∙ ap (λ n. text ++ batch_lines (take n (drop from batches))) (sym none)

-- one batch more, behind a text and those so far
pub one_more_of : (batches : List (List Row)) (from k : ℕ) (text old new : List ℕ) → from ≤ k → k < length batches
    → new ≡ old ++ flat_map row_text (get_or batches k []) → old ≡ text ++ batch_lines (take (k - from) (drop from batches))
    → new ≡ text ++ batch_lines (take ((k + 1) - from) (drop from batches))
one_more_of batches from k text old new low high is before =
    let n = k - from in
    let rest = drop from batches in
    let place : from + n ≡ k = omega arith in
    let more : n + 1 ≡ (k + 1) - from = omega arith in
    let here : get_or batches k [] ≡ get_or rest n [] = ap (λ i. get_or batches i []) (sym place) ∙ sym (get_or-drop from batches n []) in
    let inside : n < length rest = omega (arith, length-drop from batches) in
    is
    ∙ ap (λ t. t ++ flat_map row_text (get_or batches k [])) before
    ∙ append_assoc text (batch_lines (take n rest)) (flat_map row_text (get_or batches k []))
    ∙ ap (λ r. text ++ (batch_lines (take n rest) ++ flat_map row_text r)) here
    ∙ ap (λ t. text ++ t) (taken_more (flat_map row_text) rest n [] inside ∙ ap (λ m. batch_lines (take m rest)) more)

-- the lines of all batches behind the header line, behind a text
pub file_behind : (old head text new : List ℕ) (batches : List (List Row)) (n : ℕ) → head ≡ header_line ++ 10 ∷ [] → text ≡ old ++ head
    → n ≡ length batches → new ≡ text ++ batch_lines (take (n - 0) (drop 0 batches)) → new ≡ old ++ file (joined batches)
file_behind old head text new batches n is_header begun all is =
    let lines = batch_lines batches in
    let whole : take (n - 0) batches ≡ batches = take_all (n - 0) batches (omega (arith, all)) in
    is
    ∙ ap (λ bs. text ++ batch_lines bs) whole
    ∙ ap (λ t. t ++ lines) (begun ∙ ap (λ h. old ++ h) is_header)
    ∙ append_assoc old (header_line ++ 10 ∷ []) lines
    ∙ ap (λ t. old ++ t) (all_parts batches)

-- ---- a file that is written batch by batch

-- nothing was written, and the header line comes next
pub begun_file : (head text : List ℕ) (batches : List (List Row)) → text ≡ [] ++ head → head ≡ header_line ++ 10 ∷ []
    → [] ++ (text ++ batch_lines (drop 0 batches)) ≡ file (joined batches)
begun_file head text batches begun is_header = ap (λ t. t ++ batch_lines batches) (begun ∙ is_header) ∙ all_parts batches

-- the lines of a batch, and those behind it, are those from it on
pub next_batch : (batches : List (List Row)) (k : ℕ) (old new : List ℕ) → k < length batches → new ≡ old ++ flat_map row_text (get_or batches k [])
    → new ++ batch_lines (drop (k + 1) batches) ≡ old ++ batch_lines (drop k batches)
next_batch batches k old new within is =
    let here = flat_map row_text (get_or batches k []) in
    ap (λ t. t ++ batch_lines (drop (k + 1) batches)) is
    ∙ append_assoc old here (batch_lines (drop (k + 1) batches))
    ∙ ap (λ bs. old ++ batch_lines bs) (sym (drop_more batches k [] within))

-- behind all batches there is nothing
pub none_left : (batches : List (List Row)) (k : ℕ) → length batches ≤ k → batch_lines (drop k batches) ≡ []
none_left batches k past = ap batch_lines (drop_all k batches past)
