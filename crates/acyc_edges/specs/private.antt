-- Definitions that private functions and the insides of types use; no contract of a public call
-- names them.
pub mod Kinds
pub mod Nodes
pub mod Numbers
pub mod Pairs
pub mod Parts
pub mod Setting
pub mod Sources
pub mod Tables
pub mod Written
