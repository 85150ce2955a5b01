pub mod Faults
pub mod Replies
pub mod Counted
pub mod Kinds
pub mod SaidLines
pub mod LongInputs
