-- Reading a line of CSV, as RFC 4180 has it: the fields between commas, of which quotation marks may enclose any.
use Rattle.std.specs.Prelude.{ℕ, Bool, true, false, ◌==◌, if◌then◌else◌, List, [], ◌∷◌, filter, Option, Some, slice_get}
use Rattle.std.specs.List.{flat_map, onto_first}
use Rattle.row_laws.specs.Columns.{data_lines}

-- Where a reader stands: before a field, in one, in an enclosed one, or behind a quotation mark in that, which ends the
-- field unless a second one follows: the two stand for one.
pub data Place : Type 0 where
  Before : Place
  Within : Place
  Enclosed : Place
  BehindMark : Place

-- the field that the reader stands in, as far as it still goes, and those behind it
abbrev pub fields_from : Place → List ℕ → List (List ℕ)
fields_from place [] = [] ∷ []
fields_from Before (c ∷ cs) =
    if c == 34 then fields_from Enclosed cs else (if c == 44 then [] ∷ fields_from Before cs else onto_first c (fields_from Within cs))
fields_from Within (c ∷ cs) = if c == 44 then [] ∷ fields_from Before cs else onto_first c (fields_from Within cs)
fields_from Enclosed (c ∷ cs) = if c == 34 then fields_from BehindMark cs else onto_first c (fields_from Enclosed cs)
fields_from BehindMark (c ∷ cs) =
    if c == 34 then onto_first c (fields_from Enclosed cs) else (if c == 44 then [] ∷ fields_from Before cs else onto_first c (fields_from Within cs))

-- the fields of a line without its line feed
abbrev pub csv_fields : List ℕ → List (List ℕ)
csv_fields line = fields_from Before line

-- a field that is there, and empty
abbrev pub is_null : Option (List ℕ) → Bool
is_null (Some []) = true
is_null _ = false

-- of all lines behind the header lines those whose eighth field, ChargeClass, is null: they charge their readings as new
abbrev pub new_lines : List (List ℕ) → List (List ℕ)
new_lines texts = filter (λ line. is_null (slice_get (csv_fields line) 7)) (flat_map data_lines texts)
