pub mod Outcome
pub mod Passing
pub mod Softening
pub mod private
