pub mod Wire
pub mod Buffered
