pub mod Codecs
mod Worked
