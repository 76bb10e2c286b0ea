pub mod Found
pub mod Fronts
pub mod ItemLemmas
pub mod RowLemmas
pub mod RowSteps
pub mod ScanSteps
