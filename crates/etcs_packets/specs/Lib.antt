pub mod Fronts
pub mod Outcomes
pub mod PacketReadings
pub mod PacketValues
pub mod Sending
pub mod laws
