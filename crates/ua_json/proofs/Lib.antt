pub mod Levels
pub mod Breaks
pub mod Objects
pub mod Ended
pub mod Appending
