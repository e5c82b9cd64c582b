pub mod Components
pub mod Encoding
pub mod Ranked
pub mod Ranking
pub mod private
