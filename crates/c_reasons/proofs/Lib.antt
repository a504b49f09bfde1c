pub mod Laws
pub mod Determined
