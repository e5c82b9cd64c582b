pub mod IndexLaws
pub mod MarkLaws
pub mod PlaceLaws
pub mod RisingLaws
