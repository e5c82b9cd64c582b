pub mod PlanLaws
pub mod RadixLaws
pub mod ReachLaws
pub mod CountLaws
pub mod KeptLaws
pub mod SignedLaws
pub mod EqualLaws
mod Rows
