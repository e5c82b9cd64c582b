pub mod InputMapLaws
pub mod IsInputMap
pub mod MadeLaws
mod RenamedLaws
pub mod SoftenedLaws
