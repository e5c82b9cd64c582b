pub mod Encoding
pub mod Names
pub mod Refused
pub mod Staying
pub mod private
