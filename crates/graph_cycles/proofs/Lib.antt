pub mod ArcLaws
pub mod LoopLaws
pub mod Rounds
pub mod SearchingLaws
pub mod WalkLaws
pub mod Weights
