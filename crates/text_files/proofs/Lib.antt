pub mod Same
pub mod Laws
pub mod Unended
