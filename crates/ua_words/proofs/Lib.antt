pub mod Rows
pub mod Asked
pub mod Refusals
pub mod Texts
