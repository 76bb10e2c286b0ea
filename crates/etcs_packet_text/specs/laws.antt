pub mod Fronts
pub mod LineSinks
pub mod PairSinks
