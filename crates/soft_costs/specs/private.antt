-- Definitions that private functions use; no contract of a public call names them.
pub mod Scaling
