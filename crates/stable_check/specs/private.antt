-- Definitions that private functions and the insides of types use; no contract of a public call
-- names them.
pub mod Gathering
pub mod Growth
pub mod Lack
pub mod Links
pub mod Parts
pub mod UnderWay
