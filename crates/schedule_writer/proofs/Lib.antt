pub mod KnownLaws
pub mod ItemLaws
pub mod LoneLines
pub mod AnswerLaws
pub mod JournalLaws
pub mod JudgedLaws
pub mod CheckLaws
pub mod SaidLaws
pub mod CountedLaws
pub mod WarningLaws
pub mod AboveLaws
pub mod PlanLaws
pub mod Certificates
pub mod ScheduleLaws
mod WorkedInputs
mod WorkedSchedules
mod WorkedChecks
mod FalseRuns
