mod AtomSteps
pub mod BodyLaws
pub mod CountLaws
pub mod Derivation
pub mod GrowthLaws
pub mod LeastLaws
pub mod LinkLaws
pub mod PlaceLaws
pub mod RowLaws
pub mod VerdictLaws
