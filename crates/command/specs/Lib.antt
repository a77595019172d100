pub mod Verbs
pub mod Refusals
pub mod Lines
pub mod Types
pub mod Laws
