pub mod Frames
pub mod Headers
pub mod Layouts
pub mod MessageRows
pub mod Rows
pub mod Typed
pub mod laws
