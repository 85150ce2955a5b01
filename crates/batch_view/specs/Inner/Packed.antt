-- An entry from where its line begins and its fields end.
use Rattle.std.specs.Prelude.{◌≡◌, ℕ, ◌+◌, ◌<◌, List, [], ◌∷◌, ◌++◌, ℤ}
use Rattle.metering_model.specs.Limits.{most_batch_bytes}
use Rattle.record_view.specs.declared.fields.Span.{Span}
use Rattle.batch_view.specs.declared.entries.Found.TheVariants.{Reading, Amend}
use Rattle.batch_view.specs.declared.entries.Entry.{Entry}
use Rattle.batch_view.specs.declared.packed.Packed as declared

-- the ends of the first eight fields
abbrev pub ends_of : (a b c d e f g h : ℕ) → List ℕ
ends_of a b c d e f g h = a ∷ b ∷ c ∷ d ∷ e ∷ f ∷ g ∷ h ∷ []

-- the spans of fields that end there, the first of which begins at `from`, and each other one byte behind the one before it
abbrev pub spans_from : ℕ → List ℕ → List Span
spans_from from [] = []
spans_from from (to ∷ ends) = record { from = from; to = to } ∷ spans_from (to + 1) ends

-- the entry of which this is kept
abbrev pub unpacked : List ℕ → ℤ → declared.Packed → Entry
unpacked ends value (declared.TheVariants.Reading kind from tags region start end) =
    record { spans = spans_from from (ends ++ tags ∷ region ∷ []); value = value; found = Reading kind start end }
unpacked ends value (declared.TheVariants.Amend from index seq) =
    record { spans = spans_from from (ends ++ 0 ∷ 0 ∷ []); value = value; found = Amend seq index }

-- where the line begins, and where the ninth and the tenth field of a reading end
abbrev pub places_of : declared.Packed → ℕ × ℕ × ℕ
places_of (declared.TheVariants.Reading kind from tags region start end) = (from, tags, region)
places_of (declared.TheVariants.Amend from index seq) = (from, 0, 0)

-- It is that place, where the place is one of a batch.
abbrev pub IsShort : ℕ → ℕ → Type 0
IsShort place kept = place < most_batch_bytes → kept ≡ place
