pub mod Cycle
pub mod private
