pub mod Feeds
pub mod Lines
pub mod Scanning
pub mod Tokens
pub mod Words
pub mod private
