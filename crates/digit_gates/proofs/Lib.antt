pub mod DigitGateLaws
pub mod DigitLaws
mod Loops
mod Rows
pub mod Variables
