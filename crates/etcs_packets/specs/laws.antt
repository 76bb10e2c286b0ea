pub mod OnePacket
pub mod Outcomes
pub mod PacketReadings
pub mod Variants
