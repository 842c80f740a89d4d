pub mod Codes
pub mod Digits
pub mod Texts
pub mod FrameLines
pub mod PartLemmas
pub mod Captures
