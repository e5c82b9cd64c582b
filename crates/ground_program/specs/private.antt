-- Definitions that private functions and the insides of types use; no contract of a public call
-- names them.
pub mod Externals
pub mod Falling
pub mod Gaps
pub mod Inside
pub mod InsideDraft
pub mod InsideFresh
pub mod AreAtoms
pub mod Levels
