-- A whole kept text: its head line, and what is below it.
use Rattle.std.proofs.Common.{◌≡◌, ℕ, ◌+◌, true, false, List, [], ◌∷◌, ◌++◌, length, None, Result, Ok, Err, refl, sym, ap, ap₂, ◌∙◌, arith, eqb-true}
use Rattle.std.specs.Prelude.{◌&&◌, ◌==◌}
use Rattle.std.proofs.lemmas.Bool.{and_parts, false_from_ne_true}
use Rattle.std.specs.List.{flat_map}
use Rattle.metering_model.specs.FirstFailure.{◌>>=◌, holds_or}
use Rattle.metering_model.specs.Batch.{is_empty}
use Rattle.metering_model.specs.BatchReading.{Lines, lines_in, with_line, fields_in}
use Rattle.metering_model.specs.Cut.{Cut}
use Rattle.metering_model.specs.Holding.{Holding}
use Rattle.metering_model.specs.declared.KeptTextFault.{KeptTextFault}
use Rattle.metering_model.specs.declared.KeptCode.{KeptCode}
use Rattle.metering_model.specs.declared.KeptCode.TheVariants.{Head as BadHead, Extra as HasExtra}
use Rattle.metering_model.specs.KeptText.{KeptAmong, KeptHead, BatchesRead, at_kept_line, cuts_in, batches_in, cuts_of_vote, kept_head_in, kept_below, kept_of_lines, kept_of_parts, kept_in}
use Rattle.metering_model.proofs.Splitting.{ended, lines_give_back}
use Rattle.node_kept.specs.Offers.{BeginsWithHead, first_head}
use Rattle.node_kept.specs.Inner.Left.{AreCutsOf, AreBatchesOf}

-- ---- the end of a text

-- nothing is left of a text without lines and without a rest
pub nothing_left : (text : List ℕ) → (is_empty (lines_in text).lines && is_empty (lines_in text).rest) ≡ is_empty text
nothing_left [] = refl
nothing_left (x ∷ xs) = false_from_ne_true _ (λ e.
    let parts = and_parts (is_empty (lines_in (x ∷ xs)).lines) (is_empty (lines_in (x ∷ xs)).rest) e in
    let none = ap₂ (λ ls rest. flat_map ended ls ++ rest) (empty (lines_in (x ∷ xs)).lines parts.0) (empty (lines_in (x ∷ xs)).rest parts.1) in
    let same = sym (lines_give_back (x ∷ xs)) ∙ none in
    omega (arith, ap length same))
  where
    empty : {A : Type 0} (ys : List A) → is_empty ys ≡ true → ys ≡ []
    empty [] h = refl
    empty (y ∷ ys) h = absurd (cc)

-- an empty text has no bytes
pub empty_by_length : (text : List ℕ) → is_empty text ≡ (length text == 0)
empty_by_length [] = refl
empty_by_length (x ∷ xs) = sym (false_from_ne_true (length (x ∷ xs) == 0) (λ e. let none = eqb-true (length (x ∷ xs)) 0 e in omega (arith, none)))

-- ---- below the head line

abbrev behind_batches : (rest : List ℕ) → KeptHead → List Cut → BatchesRead → Result KeptAmong KeptTextFault
behind_batches rest h cuts read = at_kept_line read.line (holds_or (is_empty read.left && is_empty rest) HasExtra) >>= λ u. Ok (kept_of_parts h cuts read.batches)

abbrev behind_cuts : (rest : List ℕ) → KeptHead → List Cut × List (List ℕ) → Result KeptAmong KeptTextFault
behind_cuts rest h cuts = batches_in (2 + h.learned + cuts_of_vote h.ballot) h.agents None h.batches cuts.1 >>= behind_batches rest h cuts.0

pub cuts_fault : (ls : List (List ℕ)) (rest : List ℕ) (h : KeptHead) (f : KeptTextFault) → cuts_in 2 h.agents (h.learned + cuts_of_vote h.ballot) ls ≡ Err f → kept_below ls rest h ≡ Err f
cuts_fault ls rest h f e = ap (λ (r : Result (List Cut × List (List ℕ)) KeptTextFault). r >>= behind_cuts rest h) e

module _ (text : List ℕ) (h : KeptHead) (cuts : List Cut) (below : List ℕ) (first : ℕ) (starts : first ≡ 2 + (h.learned + cuts_of_vote h.ballot))
    (are : AreCutsOf text 2 h.agents (h.learned + cuts_of_vote h.ballot) cuts below) where
  by_cuts : kept_below (lines_in text).lines (lines_in text).rest h ≡ (batches_in first h.agents None h.batches (lines_in below).lines >>= behind_batches (lines_in text).rest h cuts)
  by_cuts =
      let line : 2 + h.learned + cuts_of_vote h.ballot ≡ first = omega (arith, starts) in
      ap (λ (r : Result (List Cut × List (List ℕ)) KeptTextFault). r >>= behind_cuts (lines_in text).rest h) are.read
      ∙ ap (λ n. batches_in n h.agents None h.batches (lines_in below).lines >>= behind_batches (lines_in text).rest h cuts) line

  pub batches_fault : (f : KeptTextFault) → batches_in first h.agents None h.batches (lines_in below).lines ≡ Err f → kept_below (lines_in text).lines (lines_in text).rest h ≡ Err f
  batches_fault f e = by_cuts ∙ ap (λ (r : Result BatchesRead KeptTextFault). r >>= behind_batches (lines_in text).rest h cuts) e

  module _ (batches : Holding) (last : ℕ) (left : List ℕ) (read : AreBatchesOf below first h.agents h.batches batches last left) where
    by_batches : kept_below (lines_in text).lines (lines_in text).rest h ≡ (at_kept_line last (holds_or (is_empty left) HasExtra) >>= λ u. Ok (kept_of_parts h cuts batches))
    by_batches =
        let rest : (lines_in text).rest ≡ (lines_in left).rest = sym are.rest ∙ sym read.rest in
        by_cuts
        ∙ ap (λ (r : Result BatchesRead KeptTextFault). r >>= behind_batches (lines_in text).rest h cuts) read.read
        ∙ ap (λ t. at_kept_line last (holds_or (is_empty (lines_in left).lines && is_empty t) HasExtra) >>= λ u. Ok (kept_of_parts h cuts batches)) rest
        ∙ ap (λ b. at_kept_line last (holds_or b HasExtra) >>= λ u. Ok (kept_of_parts h cuts batches)) (nothing_left left)

    pub extra_fault : is_empty left ≡ false → kept_below (lines_in text).lines (lines_in text).rest h ≡ Err (record { code = HasExtra; line = last })
    extra_fault e = by_batches ∙ ap (λ b. at_kept_line last (holds_or b HasExtra) >>= λ u. Ok (kept_of_parts h cuts batches)) e

    pub all_read : is_empty left ≡ true → kept_below (lines_in text).lines (lines_in text).rest h ≡ Ok (kept_of_parts h cuts batches)
    all_read e = by_batches ∙ ap (λ b. at_kept_line last (holds_or b HasExtra) >>= λ u. Ok (kept_of_parts h cuts batches)) e

-- ---- the head line

pub no_line : (text : List ℕ) → (lines_in text).lines ≡ [] → kept_in text ≡ Err (record { code = BadHead; line = 1 })
no_line text e = ap (λ ls. kept_of_lines ls (lines_in text).rest) e

pub bad_head : (text l below : List ℕ) → lines_in text ≡ with_line l (lines_in below) → kept_head_in (fields_in l) ≡ Err BadHead → kept_in text ≡ Err (record { code = BadHead; line = 1 })
bad_head text l below e bad =
    ap (λ (ls : Lines). kept_of_lines ls.lines ls.rest) e
    ∙ ap (λ (r : Result KeptHead KeptCode). at_kept_line 1 r >>= kept_below (lines_in below).lines (lines_in below).rest) bad

pub good_head : (text l below : List ℕ) (h : KeptHead) → lines_in text ≡ with_line l (lines_in below) → kept_head_in (fields_in l) ≡ Ok h → kept_in text ≡ kept_below (lines_in below).lines (lines_in below).rest h
good_head text l below h e good =
    ap (λ (ls : Lines). kept_of_lines ls.lines ls.rest) e
    ∙ ap (λ (r : Result KeptHead KeptCode). at_kept_line 1 r >>= kept_below (lines_in below).lines (lines_in below).rest) good

-- a text that was read begins with a head line
pub read_begins : (text : List ℕ) (k : KeptAmong) → kept_in text ≡ Ok k → BeginsWithHead text
read_begins text k e = by_lines (lines_in text).lines e
  where
    by_head : (r : Result KeptHead KeptCode) (ls : List (List ℕ)) → (at_kept_line 1 r >>= kept_below ls (lines_in text).rest) ≡ Ok k → (h : KeptHead) × (r ≡ Ok h)
    by_head (Ok h) ls e = (h, refl)
    by_head (Err code) ls e = absurd (cc)

    by_lines : (ls : List (List ℕ)) → kept_of_lines ls (lines_in text).rest ≡ Ok k → (h : KeptHead) × (first_head ls ≡ Ok h)
    by_lines [] e = absurd (cc)
    by_lines (l ∷ ls) e = by_head (kept_head_in (fields_in l)) ls e
