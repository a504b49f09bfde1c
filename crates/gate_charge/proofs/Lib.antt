pub mod Laws
pub mod Granting
pub mod Determined
