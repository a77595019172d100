pub mod Lines
pub mod Replies
pub mod Grammar
pub mod Samples
pub mod Statuses
