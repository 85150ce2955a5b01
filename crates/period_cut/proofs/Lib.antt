pub mod PeriodOrder
mod PointwiseOrder
pub mod CutTexts
