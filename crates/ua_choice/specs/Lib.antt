pub mod Choosing
pub mod Index
pub mod Locales
pub mod Names
pub mod Places
