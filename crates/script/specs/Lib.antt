pub mod Numbers
pub mod Quotes
pub mod Choices
pub mod Cuts
pub mod Addresses
pub mod Names
pub mod Calls
pub mod Settings
