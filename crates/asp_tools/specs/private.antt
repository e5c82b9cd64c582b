-- Definitions that private functions and the insides of types use; no contract of a public call
-- names them.
pub mod Acyclic
pub mod Long
pub mod Names
pub mod Normalizing
pub mod OnValues
pub mod Replying
pub mod TooLong
