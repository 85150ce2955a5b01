mod FromLemmas
mod ShareLemmas
mod ShelfLemmas
mod ShelvesLemmas
pub mod LeastAbsent
pub mod LastDue
pub mod LastGiven
pub mod OwnValue
pub mod AmendedValues
pub mod Members
pub mod NamedPlaces
pub mod NamedBetween
pub mod RisingPlaces
pub mod AmenderLemmas
pub mod Spared
mod SameBatches
pub mod Clones
pub mod RowLaws
pub mod CutTexts
