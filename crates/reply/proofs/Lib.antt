pub mod Replies
pub mod Grammars
pub mod Locality
pub mod CutLines
pub mod Reading
