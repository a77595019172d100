pub mod Ascii
pub mod Area
pub mod Table
pub mod Front
pub mod Utf8
