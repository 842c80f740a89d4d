pub mod Token
pub mod Newest
pub mod Channel
pub mod Admission
pub mod ClientChannel
pub mod Held
