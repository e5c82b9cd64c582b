pub mod Components
pub mod Divided
pub mod Parts
pub mod private
