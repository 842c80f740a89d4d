pub mod Printed
pub mod Escape
pub mod FrameLine
pub mod Capture
