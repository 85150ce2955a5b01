pub mod OptionSteps
pub mod SentNumbers
pub mod SentPackets
pub mod PacketLaws
pub mod PacketLengths
pub mod FirstPackets
pub mod SentByRuns
pub mod Fields
pub mod NumberSteps
pub mod Pieces
pub mod PartsRead
mod WorkedPackets
mod WorkedFaults
mod WorkedStreams
