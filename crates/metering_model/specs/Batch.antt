-- Batches of usage records: what they hold, and the one text that each has.
use Rattle.std.specs.Prelude.{◌≡◌, ℕ, ◌≤◌, Bool, true, false, not, ◌&&◌, ◌==◌, nat_le, List, [], ◌∷◌, ◌++◌, length, map, Option, All, IsTrue, ℤ, pos, ◌<ℤ◌, ◌≤ℤ◌, unsigned_abs, ◌<◌, codes, decimal}
use Rattle.std.specs.List.{list_all, flat_map, join_with_byte}
use Rattle.std.specs.Option.{option_to_list, is_some, is_none}
use Rattle.std.specs.Ordering.{nat_cmp, is_lt}
use Rattle.std.specs.Cmp.Lexicographic.{slice_cmp}
pub use Rattle.metering_model.specs.declared.Kind.{Kind}
pub use Rattle.metering_model.specs.declared.Kind.TheVariants.{Usage, Purchase, Credit, Tax, Adjustment}
pub use Rattle.metering_model.specs.declared.Version.{Version}
pub use Rattle.metering_model.specs.declared.Version.TheVariants.{B1, B2}
use Rattle.metering_model.specs.NumberText.{spelling, value_limit}
use Rattle.metering_model.specs.Limits.{most_batch_bytes, most_records, last_index, most_agents, last_sequence}
use Rattle.metering_model.specs.Dates.{IsStampText}

pub record Tag : Type 0 where
  pub key : List ℕ
  pub value : List ℕ

-- What an agent metered. Moments are stamps, and the value is in millionths. A reading of format B1 has no region; one of B2
-- has one, which may be the empty text.
pub record Reading : Type 0 where
  pub kind : Kind
  pub start : ℤ
  pub end : ℤ
  pub start_text : List ℕ
  pub end_text : List ℕ
  pub account : List ℕ
  pub resource : List ℕ
  pub key : List ℕ
  pub value : ℤ
  pub commitment : List ℕ
  pub tags : List Tag
  pub region : Option (List ℕ)

-- a reading, or an amendment that gives an earlier reading of its agent another value
pub data Record : Type 0 where
  Reads : Reading → Record
  Amends : (seq index : ℕ) (value : ℤ) → Record

pub record Batch : Type 0 where
  pub version : Version
  pub agent : ℕ
  pub seq : ℕ
  pub records : List Record

-- whether the key of a reading of this kind is a SKU
abbrev pub is_priced : Kind → Bool
is_priced Usage = true
is_priced Purchase = true
is_priced Credit = false
is_priced Tax = false
is_priced Adjustment = false

abbrev pub kind_text : Kind → List ℕ
kind_text Usage = codes "U"
kind_text Purchase = codes "P"
kind_text Credit = codes "C"
kind_text Tax = codes "T"
kind_text Adjustment = codes "A"

abbrev pub tag_text : Tag → List ℕ
tag_text t = t.key ++ codes "=" ++ t.value

abbrev pub tags_text : List Tag → List ℕ
tags_text ts = join_with_byte 59 (map tag_text ts)

abbrev pub record_fields : Record → List (List ℕ)
record_fields (Reads r) =
    kind_text r.kind ∷ r.start_text ∷ r.end_text ∷ r.account ∷ r.resource ∷ r.key ∷ spelling 6 r.value ∷ r.commitment
    ∷ tags_text r.tags ∷ option_to_list r.region
record_fields (Amends seq index value) = codes "X" ∷ decimal seq ∷ decimal index ∷ spelling 6 value ∷ []

abbrev pub version_text : Version → List ℕ
version_text B1 = codes "B1"
version_text B2 = codes "B2"

abbrev pub head_fields : Batch → List (List ℕ)
head_fields b = version_text b.version ∷ decimal b.agent ∷ decimal b.seq ∷ decimal (length b.records) ∷ []

-- fields joined by `|`, and a line feed
abbrev pub line_of_fields : List (List ℕ) → List ℕ
line_of_fields fs = join_with_byte 124 fs ++ 10 ∷ []

-- the text of a batch, joined from its parts
abbrev pub batch_text : Batch → List ℕ
batch_text b = line_of_fields (head_fields b) ++ flat_map (λ r. line_of_fields (record_fields r)) b.records

-- bytes 0x20 to 0x7E
abbrev pub is_text_byte : ℕ → Bool
is_text_byte c = nat_le 32 c && nat_le c 126

abbrev pub is_text : List ℕ → Bool
is_text t = list_all is_text_byte t

abbrev pub is_empty : {A : Type 0} → List A → Bool
is_empty [] = true
is_empty (x ∷ xs) = false

abbrev pub lacks : ℕ → List ℕ → Bool
lacks byte t = list_all (λ c. not (c == byte)) t

-- a text without `|`
abbrev pub is_field : List ℕ → Bool
is_field t = is_text t && lacks 124 t

abbrev pub is_tag : Tag → Bool
is_tag t = is_field t.key && is_field t.value && not (is_empty t.key) && lacks 61 t.key && lacks 59 t.key && lacks 59 t.value

abbrev pub is_below : List ℕ → List ℕ → Bool
is_below a b = is_lt (slice_cmp nat_cmp a b)

-- each key is below the next, by bytes
abbrev pub keys_rise : List Tag → Bool
keys_rise [] = true
keys_rise (a ∷ []) = true
keys_rise (a ∷ b ∷ ts) = is_below a.key b.key && keys_rise (b ∷ ts)

pub record IsReading (r : Reading) : Type 0 where
  pub start : IsStampText r.start_text r.start
  pub end : IsStampText r.end_text r.end
  pub ends_after_start : r.start <ℤ r.end
  pub account : IsTrue (is_field r.account)
  pub resource : IsTrue (is_field r.resource)
  pub key : IsTrue (is_field r.key && not (is_empty r.key))
  pub value : unsigned_abs r.value < value_limit
  pub not_negative : is_priced r.kind ≡ true → pos 0 ≤ℤ r.value
  pub commitment : IsTrue (is_field r.commitment)
  pub only_priced : is_priced r.kind ≡ false → r.commitment ≡ []
  pub tags : IsTrue (list_all is_tag r.tags && keys_rise r.tags)
  pub region : IsTrue (list_all is_field (option_to_list r.region))

pub record IsAmendment (seq index : ℕ) (value : ℤ) : Type 0 where
  pub seq_in : (1 ≤ seq) × (seq ≤ last_sequence)
  pub index_in : index ≤ last_index
  pub value_in : unsigned_abs value < value_limit

abbrev pub IsRecord : Record → Type 0
IsRecord (Reads r) = IsReading r
IsRecord (Amends seq index value) = IsAmendment seq index value

-- a reading has a region exactly where its batch is of format B2
abbrev pub is_region_of : Version → Option (List ℕ) → Bool
is_region_of B1 region = is_none region
is_region_of B2 region = is_some region

-- amendments are alike in both formats
abbrev pub is_of_version : Version → Record → Bool
is_of_version version (Reads r) = is_region_of version r.region
is_of_version version (Amends seq index value) = true

-- The text is that of the batch, and each of its parts meets its rule.
pub record IsBatch (text : List ℕ) (b : Batch) : Type 0 where
  pub joined : text ≡ batch_text b
  pub short : length text ≤ most_batch_bytes
  pub agent : (1 ≤ b.agent) × (b.agent ≤ most_agents)
  pub seq : (1 ≤ b.seq) × (b.seq ≤ last_sequence)
  pub count : length b.records ≤ most_records
  pub records : All IsRecord b.records
  pub of_version : IsTrue (list_all (is_of_version b.version) b.records)

-- some text is that of the batch
abbrev pub IsWellFormed : Batch → Type 0
IsWellFormed b = IsBatch (batch_text b) b
