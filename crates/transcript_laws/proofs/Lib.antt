pub mod TextLaws
pub mod CsvLaws
pub mod NewLines
pub mod FileLines
pub mod FileSizes
pub mod ReplyLines
pub mod KeptTextLines
pub mod ShownExports
pub mod ShownTotals
pub mod InTime
pub mod EveryTranscript
pub mod LongerTranscripts
pub mod FirstFileLaws
pub mod CutOut
mod WorkedTranscripts
mod FalseTranscripts
mod WorkedFiles
