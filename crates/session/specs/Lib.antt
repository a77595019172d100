pub mod Limits
pub mod Model
pub mod Areas
pub mod Outcome
pub mod Plains
pub mod Calls
