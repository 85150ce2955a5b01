pub mod HeadLaws
pub mod IncrementLaws
pub mod LogLaws
pub mod KeptFirst
pub mod TornLogs
pub mod LogsAbove
pub mod AddedSteps
pub mod WrittenLines
pub mod KeptSteps
pub mod ReadFields
pub mod ReadHeads
pub mod ReadSections
pub mod ReadLogs
mod WorkedLogs
