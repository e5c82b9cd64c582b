pub mod Encoded
pub mod private
