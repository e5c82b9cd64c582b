pub mod GridLaws
pub mod RowLaws
pub mod PairLaws
pub mod GridRows
mod Rows
