pub mod Laid
pub mod Valid
pub mod Rows
pub mod Ones
pub mod Runs
pub mod Fronts
pub mod Chars
pub mod Folds
