pub mod AtomsText
pub mod Verdicts
pub mod private
