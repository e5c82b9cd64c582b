-- Definitions that private functions and the insides of types use; no contract of a public call
-- names them.
pub mod Filling
pub mod Inside
pub mod Marks
pub mod Ranks
pub mod Searching
