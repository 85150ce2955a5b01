-- Read as CSV, a line gives the fields that it was joined from, whatever bytes they have.
use Rattle.std.proofs.Common.{◌≡◌, ℕ, Bool, true, false, ◌||◌, List, [], ◌∷◌, ◌++◌, map, refl, sym, ap, ap₂, ◌∙◌, append_assoc, append-nil}
use Rattle.std.specs.Prelude.{◌==◌, if◌then◌else◌}
use Rattle.std.specs.List.{list_any, onto_first, join_with_byte}
use Rattle.std.proofs.lemmas.Bool.{cond_both, cond-true, cond-false}
use Rattle.metering_model.specs.Row.{Row}
use Rattle.metering_model.specs.File.{marked, quoted, fields_of_row}
use Rattle.row_laws.specs.Columns.{line_of_row}
use Rattle.transcript_laws.specs.Csv.{Before, Within, Enclosed, BehindMark, fields_from, csv_fields}

-- a field ends where the line does, or a comma stands
record Ends (rest : List ℕ) (behind : List (List ℕ)) : Type 0 where
  pub before : fields_from Before rest ≡ [] ∷ behind
  pub within : fields_from Within rest ≡ [] ∷ behind
  pub behind_mark : fields_from BehindMark rest ≡ [] ∷ behind

at_the_end : Ends [] []
at_the_end = record { before = refl; within = refl; behind_mark = refl }

at_a_comma : (rest : List ℕ) → Ends (44 ∷ rest) (fields_from Before rest)
at_a_comma rest = record { before = refl; within = refl; behind_mark = refl }

-- ---- the bytes for which a field is enclosed

abbrev is_cutting : ℕ → Bool
is_cutting c = (c == 44) || (c == 34) || (c == 13) || (c == 10)

neither : (a b : Bool) → (a || b) ≡ false → (a ≡ false) × (b ≡ false)
neither true b h = absurd (cc)
neither false b h = (refl, h)

cuts_not : (c : ℕ) → is_cutting c ≡ false → ((c == 44) ≡ false) × ((c == 34) ≡ false)
cuts_not c h = neither (c == 44) (c == 34) (neither ((c == 44) || (c == 34)) (c == 13) (neither ((c == 44) || (c == 34) || (c == 13)) (c == 10) h).0).0

-- ---- one field

module _ (rest : List ℕ) (behind : List (List ℕ)) (ends : Ends rest behind) where
  within_read : (t : List ℕ) → list_any is_cutting t ≡ false → fields_from Within (t ++ rest) ≡ t ∷ behind
  within_read [] h = ends.within
  within_read (c ∷ cs) h =
      let both = neither (is_cutting c) (list_any is_cutting cs) h in
      cond-false (c == 44) ([] ∷ fields_from Before (cs ++ rest)) (onto_first c (fields_from Within (cs ++ rest))) (cuts_not c both.0).0
      ∙ ap (onto_first c) (within_read cs both.1)

  plain_read : (t : List ℕ) → list_any is_cutting t ≡ false → fields_from Before (t ++ rest) ≡ t ∷ behind
  plain_read [] h = ends.before
  plain_read (c ∷ cs) h =
      let both = neither (is_cutting c) (list_any is_cutting cs) h in
      let no = cuts_not c both.0 in
      let other = if c == 44 then [] ∷ fields_from Before (cs ++ rest) else onto_first c (fields_from Within (cs ++ rest)) in
      cond-false (c == 34) (fields_from Enclosed (cs ++ rest)) other no.1
      ∙ (cond-false (c == 44) ([] ∷ fields_from Before (cs ++ rest)) (onto_first c (fields_from Within (cs ++ rest))) no.0
      ∙ ap (onto_first c) (within_read cs both.1))

  -- behind the first mark: each inner one stands twice
  enclosed_read : (t : List ℕ) → fields_from Enclosed (marked (λ c. c == 34) 34 t ++ 34 ∷ rest) ≡ t ∷ behind
  enclosed_read [] = ends.behind_mark
  enclosed_read (c ∷ cs) =
      let next = marked (λ x. x == 34) 34 cs ++ 34 ∷ rest in
      cond_both (c == 34) (34 ∷ c ∷ []) (c ∷ []) (λ piece. fields_from Enclosed (piece ++ marked (λ x. x == 34) 34 cs ++ 34 ∷ rest) ≡ (c ∷ cs) ∷ behind)
      (λ is. cond-true (c == 34) (onto_first c (fields_from Enclosed next)) _ is ∙ ap (onto_first c) (enclosed_read cs))
      (λ is. cond-false (c == 34) (fields_from BehindMark next) (onto_first c (fields_from Enclosed next)) is ∙ ap (onto_first c) (enclosed_read cs))

  field_read : (t : List ℕ) → fields_from Before (quoted t ++ rest) ≡ t ∷ behind
  field_read t =
      cond_both (list_any is_cutting t) (34 ∷ marked (λ c. c == 34) 34 t ++ 34 ∷ []) t (λ q. fields_from Before (q ++ rest) ≡ t ∷ behind)
      (λ _. ap (fields_from Enclosed) (append_assoc (marked (λ c. c == 34) 34 t) (34 ∷ []) rest) ∙ enclosed_read t)
      (λ is. plain_read t is)

-- ---- a line

pub fields_read : (f : List ℕ) (fs : List (List ℕ)) → csv_fields (join_with_byte 44 (map quoted (f ∷ fs))) ≡ f ∷ fs
fields_read f [] = ap (fields_from Before) (sym (append-nil (quoted f))) ∙ field_read [] [] at_the_end f
fields_read f (g ∷ gs) =
    let next = join_with_byte 44 (map quoted (g ∷ gs)) in
    field_read (44 ∷ next) (fields_from Before next) (at_a_comma next) f ∙ ap (λ fs. f ∷ fs) (fields_read g gs)

pub row_read : (r : Row) → csv_fields (line_of_row r) ≡ fields_of_row r
row_read r = fields_read _ _

pub rows_read : (xs : List Row) → map csv_fields (map line_of_row xs) ≡ map fields_of_row xs
rows_read [] = refl
rows_read (x ∷ xs) = ap₂ ◌∷◌ (row_read x) (rows_read xs)
