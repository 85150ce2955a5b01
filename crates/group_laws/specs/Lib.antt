pub mod Headline
pub mod EveryRun
pub mod Observers
pub mod Alone
pub mod Revivals
pub mod OneAgent
pub mod OneNode
pub mod SentPackets
