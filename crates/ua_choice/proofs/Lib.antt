pub mod Given
pub mod Indexed
pub mod Kept
pub mod Ranked
