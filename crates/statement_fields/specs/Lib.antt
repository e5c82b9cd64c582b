pub mod FieldWords
pub mod Fields
pub mod Parts
pub mod private
