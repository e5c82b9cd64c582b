pub mod FieldLines
pub mod FieldText
pub mod LinePieces
pub mod LineSteps
pub mod PastBlank
pub mod SoFar
pub mod Spacing
