pub mod HeldLaws
pub mod PlaceLaws
pub mod RanLaws
pub mod ReadingLaws
pub mod TooLongLaws
pub mod WritingLaws
