-- Passed on to the crates above, which so need not name the crate below.
pub use Rattle.price_sheet.specs.SheetReading.{sheet_of_text}
