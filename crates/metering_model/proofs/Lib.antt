pub mod NumberDigits
pub mod NumberReading
pub mod NumberLaws
pub mod DigitTexts
pub mod MonthLaws
pub mod DayLaws
pub mod DateLaws
pub mod StepLaws
pub mod PlayLaws
pub mod Splitting
pub mod FirstByte
pub mod FieldLaws
pub mod TagLaws
pub mod FieldBytes
pub mod ReadingLaws
pub mod RecordLaws
pub mod RegionLaws
pub mod LineLaws
pub mod BatchLaws
pub mod KeptLines
pub mod KeptLaws
pub mod RoundingLaws
pub mod BatchOrder
pub mod HoldingLaws
pub mod AgreementLaws
pub mod Journals
pub mod NextLaws
pub mod CutLaws
pub mod MissingLaws
pub mod PartLaws
pub mod Fronts
pub mod NewRows
pub mod Places
pub mod BatchRows
pub mod RulesUpToCut
pub mod MonthOrder
pub mod MonthTexts
pub mod LineFeeds
pub mod Decimals
pub mod RecordPlaces
pub mod QuantityBounds
pub mod ValueBounds
pub mod EachRow
pub mod SheetLaws
pub mod ChargeBounds
pub mod PriceTexts
pub mod PriceLaws
pub mod Samples
mod WorkedNumbers
mod WorkedBatches
mod WorkedRates
mod WorkedRows
mod WorkedRegions
pub mod WorkedBallots
mod WorkedKept
pub mod WorkedPeriods
pub mod WorkedSheets
mod WorkedLimits
