-- Definitions that private functions and the insides of types use; no contract of a public call
-- names them.
pub mod Adding
pub mod Inside
pub mod Kept
pub mod Links
pub mod Measured
