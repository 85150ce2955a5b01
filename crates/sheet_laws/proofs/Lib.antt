pub mod TwoRuns
mod KeptRules
pub mod FoundReadings
pub mod TwoRows
pub mod PairedRows
pub mod DayStarts
pub mod Months
pub mod ShownMonths
pub mod LeftOut
pub mod PlayedAgain
pub mod SameTranscripts
pub mod RatedAlone
pub mod LongerSheets
mod ChainedSheets
pub mod Premises
mod TwoSheets
mod ReadEvents
mod WorkedMonths
mod WorkedRows
mod WorkedTexts
mod OtherSheets
mod FalseRuns
mod FalseMonths
mod FalseShown
mod WorkedAgain
mod FalseRows
mod FalseRates
mod FalseTexts
mod FalseLonger
