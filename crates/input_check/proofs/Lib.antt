pub mod SaidLaws
pub mod FaultLoop
pub mod NeverWants
pub mod RefusedLaws
pub mod EventLines
pub mod FirstBadRecords
pub mod FirstBadLines
pub mod FirstInJournals
pub mod ReasonLaws
pub mod WarningLaws
pub mod CountedBatches
pub mod WarnedLaws
pub mod NothingSaid
pub mod RatingForms
pub mod EventWords
mod WorkedChecks
mod WorkedCredits
mod WorkedWarnings
