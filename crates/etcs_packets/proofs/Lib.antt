pub mod Leaving
pub mod PacketBits
pub mod PacketLists
pub mod Equality
pub mod OnePacket
pub mod Outcomes
pub mod PacketsPut
