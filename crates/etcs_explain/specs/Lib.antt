pub mod Kinds
pub mod Inputs
pub mod Parts
pub mod Cuts
pub mod Explained
pub mod Stands
pub mod laws
