pub mod Plans
pub mod Stops
pub mod Lines
pub mod Judged
pub mod Walks
pub mod Certified
pub mod Counted
pub mod SaidLines
