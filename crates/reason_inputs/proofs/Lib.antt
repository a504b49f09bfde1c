pub mod Laws
pub mod Inputs
pub mod Determined
