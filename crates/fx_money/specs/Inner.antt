-- What only the readers and writers inside the crate cite: its public clauses take their words from the model.
pub mod Cuts
pub mod Leading
pub mod Limits
pub mod Parts
