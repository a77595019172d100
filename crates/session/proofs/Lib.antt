pub mod Hearing
pub mod Sending
pub mod Lending
pub mod Exchanges
