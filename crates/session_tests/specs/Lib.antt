pub mod Codes
pub mod Backs
