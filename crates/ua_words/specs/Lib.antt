pub mod TypeNames
pub mod Command
