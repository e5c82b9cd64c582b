-- Definitions that private functions and the insides of types use; no contract of a public call
-- names them.
pub mod EdgeText
pub mod Texts
pub mod Walks
