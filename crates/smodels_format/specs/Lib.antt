pub mod Lowering
pub mod Parts
pub mod Read
pub mod Writable
pub mod Written
pub mod private
