pub mod Sums
pub mod Telescoping
pub mod ColumnGains
pub mod AmountGains
pub mod TotalLaws
pub mod CountLaws
pub mod PartLaws
pub mod PeriodRows
pub mod DueLaws
pub mod FieldFeeds
pub mod FileLaws
mod WorkedJournals
mod WorkedTotals
mod WorkedPriced
mod FalseWorlds
pub mod EachFile
pub mod DueEach
pub mod PricedRows
