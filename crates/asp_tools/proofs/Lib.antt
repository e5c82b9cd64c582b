pub mod NameLaws
pub mod NormalLaws
pub mod OutcomeLaws
pub mod RanLaws
pub mod SayingLaws
pub mod Tables
