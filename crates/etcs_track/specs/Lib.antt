pub mod Locations
pub mod Reports
pub mod TrackPackets
pub mod TrainFlats
pub mod TrainOthers
pub mod laws
