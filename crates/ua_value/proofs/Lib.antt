pub mod Items
pub mod Rooms
pub mod InOrder
pub mod Utf8
pub mod Blocks
pub mod Tested
pub mod Cells
pub mod Digits
pub mod TextLengths
pub mod Chunks
mod Rows
