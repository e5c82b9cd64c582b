mod Behind
mod ClauseLines
mod ClauseSteps
pub mod CnfRoundTrip
pub mod EcnfRoundTrip
mod EdgeSteps
mod FieldTokens
mod Left
mod Lengths
mod Outcomes
mod ReadBack
mod Refused
mod Rows
pub mod WcnfRoundTrip
mod WeightSteps
mod WrittenLines
mod WrittenText
