pub mod CutLemmas
pub mod Fronts
pub mod InOrder
mod Worked
