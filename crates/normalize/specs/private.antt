-- Definitions that private functions and the insides of types use; no contract of a public call
-- names them.
pub mod Added
pub mod Inside
pub mod Made
pub mod Replacement
pub mod Stage
pub mod Standing
