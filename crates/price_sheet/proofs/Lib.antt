pub mod SheetLaws
pub mod Chains
pub mod DayLaws
pub mod PlaceLaws
pub mod RowLaws
pub mod IndexLaws
pub mod LookLaws
pub mod IdLaws
pub mod BlankLaws
pub mod WorkedSheets
mod WorkedSheetFaults
