pub mod PlaceOrder
pub mod BetweenLaws
pub mod ReachLaws
pub mod RowBeginnings
pub mod StopLaws
pub mod NewValueLaws
pub mod BatchLaws
