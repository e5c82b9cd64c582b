pub mod AddingLaws
pub mod AtomLaws
pub mod ComponentLaws
pub mod CyclicLaws
pub mod LinkLaws
pub mod MemberLaws
mod Rows
pub mod SumLaws
