-- Tags as what `serde_json` reads and writes.
use Rattle.std.specs.Prelude.{List, [], ◌∷◌}
use Rattle.serde_json.specs.Data.{Data, Members, member, no_members, object, string}
use Rattle.metering_model.specs.Batch.{Tag}

-- a member for each, in their order
abbrev pub tag_members : List Tag → Members
tag_members [] = no_members
tag_members (t ∷ ts) = member t.key (string t.value) (tag_members ts)

abbrev pub tag_data : List Tag → Data
tag_data ts = object (tag_members ts)
