pub mod BlockLaws
pub mod ClosureLaws
pub mod GrowthLaws
pub mod CellLaws
pub mod OutsideLaws
pub mod InputLaws
pub mod TruthLaws
pub mod EntryLaws
mod Rows
