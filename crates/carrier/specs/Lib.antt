pub mod Deck
pub mod Scripts
pub mod Diallers
pub mod Laws
