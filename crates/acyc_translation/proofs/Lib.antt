pub mod EdgeLinks
pub mod EncodedLaws
pub mod StoreLaws
pub mod TightLaws
