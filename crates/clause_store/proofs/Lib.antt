pub mod AddLaws
mod Cuts
pub mod GateLaws
mod Keys
pub mod LinkedLaws
pub mod StoreLaws
pub mod TableGates
mod Values
