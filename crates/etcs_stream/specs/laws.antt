pub mod Printing
pub mod StandLaws
