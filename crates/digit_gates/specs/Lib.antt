pub mod DigitGates
pub mod Digits
