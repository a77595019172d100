pub mod Asked
pub mod Observed
pub mod Tally
pub mod Law
pub mod Runs
