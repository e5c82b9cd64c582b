mod ItemSteps
mod LevelSteps
pub mod PassingLaws
mod Rows
mod ScaleLaws
pub mod SoftLaws
