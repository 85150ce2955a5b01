mod JournalTexts
mod Ranges
mod WorkedReports
