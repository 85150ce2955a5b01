pub mod PacketText
pub mod Inner
