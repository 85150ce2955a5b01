pub mod Inner
pub mod Packets
pub mod Nodes
pub mod Handling
pub mod Alone
