pub mod Rising
pub mod private
