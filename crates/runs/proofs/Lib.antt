pub mod Seeing
pub mod Laws
pub mod Determined
