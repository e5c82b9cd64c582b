mod Bodies
mod FewLines
pub mod Lowered
pub mod LoweredBodies
pub mod LoweredCosts
pub mod LoweredFresh
pub mod LoweredKeeps
pub mod LoweredLeast
pub mod LoweredNames
pub mod LoweredNear
pub mod LoweredRules
pub mod LoweredStable
pub mod LoweredStep
pub mod Names
pub mod Parted
mod Parts
mod Rows
mod Starts
pub mod TextFields
pub mod TextFit
pub mod TextLines
pub mod TextOrder
pub mod TextParts
pub mod TextRoundTrip
mod TextRows
pub mod TextSteps
mod Weighing
pub mod WrittenBodies
pub mod WrittenSteps
pub mod WrittenText
