pub mod Flats
pub mod FlatCodes
pub mod Others
pub mod Tables
pub mod laws
