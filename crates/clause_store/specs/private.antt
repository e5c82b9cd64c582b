-- Definitions that private functions and the insides of types use; no contract of a public call
-- names them.
pub mod Cut
pub mod InsideFormula
pub mod InsideStore
pub mod Kept
pub mod Linking
