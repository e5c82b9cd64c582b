pub mod Appends
mod CappedDigits
pub mod LineText
pub mod LineTokens
pub mod NameEnds
pub mod NoFeed
pub mod NumberText
pub mod Numerals
mod Pieces
mod Rows
mod Steps
pub mod WordText
