pub mod Asis
