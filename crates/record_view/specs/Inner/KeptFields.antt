-- Spans that lie in a source, and a reading whose texts stand at them.
use Rattle.std.specs.Prelude.{◌≡◌, ℕ, ◌≤◌, List, length, slice_range, Option, Some, None, IsTrue}
use Rattle.std.specs.List.{slice_get}
use Rattle.metering_model.specs.declared.Version.{Version}
use Rattle.metering_model.specs.declared.Version.TheVariants.{B1, B2}
use Rattle.record_view.specs.declared.fields.Field.{Field}
use Rattle.record_view.specs.declared.fields.Span.{Span}
use Rattle.record_view.specs.declared.kept.Numbers.{Numbers}
use Rattle.record_view.specs.declared.records.Reading.{Reading}
use Rattle.record_view.specs.Parts.{lent}
use Rattle.record_view.specs.TagTexts.{tags_at}
use Rattle.record_view.specs.Lent.{reading_tags, reading_region}
use Rattle.record_view.specs.Inner.TagParts.{are_tags}

abbrev pub LiesWithin : List ℕ → Span → Type 0
LiesWithin source s = (s.from ≤ s.to) × (s.to ≤ length source)

-- The field is the source at the span of that index.
pub record StandsAt (source : List ℕ) (spans : List Span) (index : ℕ) (f : Field) : Type 0 where
  pub span : slice_get spans index ≡ Some f.span
  pub text : f.text.now ≡ slice_range source f.span.from f.span.to

-- the text at the ninth span is tags
abbrev pub HasTags : List ℕ → List Span → Type 0
HasTags source spans = (s : Span) → slice_get spans 8 ≡ Some s → IsTrue (are_tags (slice_range source s.from s.to))

-- at the tenth span lies a region's text, in format B2
abbrev pub MayHaveRegion : Version → List ℕ → List Span → Type 0
MayHaveRegion B1 source spans = Unit {0}
MayHaveRegion B2 source spans = (s : Span) → slice_get spans 9 ≡ Some s → LiesWithin source s

-- The region stands at the tenth span.
pub record IsRegionAt (source : List ℕ) (spans : List Span) (region : Option Field) : Type 0 where
  pub field : Field
  pub is : region ≡ Some field
  pub stands : StandsAt source spans 9 field

abbrev pub HasRegion : Version → List ℕ → List Span → Option Field → Type 0
HasRegion B1 source spans region = region ≡ None
HasRegion B2 source spans region = IsRegionAt source spans region

-- The reading has these numbers, and its texts stand at the spans.
pub record IsLentAtSpans (version : Version) (source : List ℕ) (spans : List Span) (n : Numbers) (r : Reading) : Type 0 where
  pub kind_is : r.kind ≡ n.kind
  pub start_is : r.start ≡ n.start
  pub end_is : r.end ≡ n.end
  pub value_is : r.value ≡ n.value
  pub start_text : StandsAt source spans 1 r.start_text
  pub end_text : StandsAt source spans 2 r.end_text
  pub account : StandsAt source spans 3 r.account
  pub resource : StandsAt source spans 4 r.resource
  pub key : StandsAt source spans 5 r.key
  pub commitment : StandsAt source spans 7 r.commitment
  pub tags_field : Field
  pub tags_text : StandsAt source spans 8 tags_field
  pub tags_are : reading_tags r ≡ tags_at (lent tags_field)
  pub region_is : HasRegion version source spans (reading_region r)
