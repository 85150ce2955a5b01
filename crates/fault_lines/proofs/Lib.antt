pub mod SectionLaws
pub mod RecordWords
pub mod ToldPieces
pub mod FieldLaws
pub mod FieldPlaces
pub mod FieldLines
pub mod Latest
pub mod LatestKept
pub mod AheadWalks
pub mod TomlStopLaws
pub mod UnknownLaws
mod TakenKeys
pub mod KeyWalks
pub mod KeysOnLine
pub mod CheckLaws
mod WorkedKinds
mod WorkedAhead
mod WorkedUnknown
mod WorkedStops
