pub mod Charged
pub mod Columns
pub mod Due
pub mod Priced
