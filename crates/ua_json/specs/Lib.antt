pub mod Nesting
pub mod Lines
pub mod Value
