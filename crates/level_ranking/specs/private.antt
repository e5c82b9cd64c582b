-- Definitions that private functions and the insides of types use; no contract of a public call
-- names them.
pub mod Counts
pub mod Pairs
pub mod Ready
pub mod Sources
