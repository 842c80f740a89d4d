pub mod Offer
pub mod Said
pub mod Same
pub mod SameLaws
