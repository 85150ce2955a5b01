pub mod DayRange
pub mod DayTexts
pub mod MonthOrder
pub mod StampTexts
