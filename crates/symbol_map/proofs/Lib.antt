pub mod ComposeMap
mod LinesSoFar
pub mod MapRoundTrip
mod MapRows
pub mod RisingCuts
mod Rows
pub mod ScaleLaws
mod Searched
pub mod SoftMaps
