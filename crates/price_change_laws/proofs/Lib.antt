-- Why processes do under all sheets what they do under the last one, and why the files of closed months stay.
pub mod OtherSheet
pub mod OneAct
pub mod KeptActs
pub mod FitUnderLast
pub mod ClosedMonths
pub mod LongerSheets
-- worked examples, and what is false
pub mod WorkedSheets
pub mod WorkedChange
pub mod FalseMonths
pub mod FalseAnswers
