pub mod Laws
pub mod Sources
pub mod Shown
