pub mod Divided
pub mod Graph
pub mod Groups
pub mod Parts
pub mod private
