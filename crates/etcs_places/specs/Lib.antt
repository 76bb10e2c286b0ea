pub mod Items
pub mod Places
pub mod Scans
pub mod Walks
