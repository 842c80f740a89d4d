pub mod Beginnings
pub mod WithoutParts
