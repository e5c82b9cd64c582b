pub mod InputMap
pub mod Ranked
pub mod Translated
pub mod private
