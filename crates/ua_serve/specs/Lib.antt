pub mod Places
pub mod Looks
pub mod Turn
pub mod Lingering
pub mod Admission
pub mod Steps
pub mod Rounds
pub mod Waits
