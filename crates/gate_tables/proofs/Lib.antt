pub mod RowLaws
mod Rows
pub mod TableLaws
