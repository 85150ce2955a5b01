pub mod SheetedHistories
