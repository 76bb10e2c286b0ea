pub mod FaultTexts
pub mod JsonLines
pub mod Loose
pub mod Puts
pub mod TreeReading
