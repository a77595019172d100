pub mod Makes
pub mod Runs
pub mod Sent
