pub mod FlatCodes
pub mod FlatLaws
pub mod OtherLaws
pub mod TableLaws
