pub mod Lines
pub mod Under
pub mod Woven
