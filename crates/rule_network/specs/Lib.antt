pub mod Block
pub mod Truths
pub mod private
