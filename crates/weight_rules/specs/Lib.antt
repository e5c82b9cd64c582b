pub mod Plan
pub mod Sum
pub mod private
