pub mod FocusRows
pub mod Inner
pub mod PeriodTexts
pub mod Regions
