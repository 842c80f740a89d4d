pub mod Kinds
pub mod KindNames
pub mod KindView
pub mod Nesting
