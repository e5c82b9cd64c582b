pub mod Ran
pub mod Reads
pub mod private
