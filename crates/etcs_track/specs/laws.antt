pub mod Equality
pub mod Locations
pub mod OneTrackPacket
pub mod Reports
pub mod TrackPackets
pub mod TrainFlats
