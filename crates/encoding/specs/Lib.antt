pub mod Code
pub mod Lossy
pub mod Utf8Code
pub mod Kept
