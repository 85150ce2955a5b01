pub mod Tables
pub mod Texts
pub mod KeyLaws
pub mod RowLaws
pub mod Chains
pub mod WorkedSteps
mod WorkedRows
mod WorkedRowFaults
mod WorkedIssuers
