pub mod Spots
pub mod First
